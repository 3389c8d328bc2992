-- Every table comes back: the restored differences of a table are the table, and so are the differences of a restored one.
use Rattle.std.proofs.Common.{◌≡◌, ℕ, zero, suc, ◌+◌, ◌-◌, ◌%◌, ◌<◌, ◌≤◌, List, length, get_or, ap, ◌∙◌, ap₂, arith, ext_get_or}
use native.Mathlib.Decide.{dec_lt}
use Rattle.array.specs.Words.{word_bound}
use Rattle.differences.specs.Differences.{minus, differences, restored}
use Rattle.differences.proofs.Words.{differences-length, differences_first, differences_later, restored-length, restored_first, restored_later, restored_below}
use Rattle.differences.proofs.Cancel.{minus_plus, plus_minus, minus_below}

module _ (n : ℕ) (table : List ℕ) (positive : 1 ≤ n) (words : (k : ℕ) → k < length table → get_or table k 0 < word_bound) where
  abbrev word : ℕ → ℕ
  word k = get_or table k 0

  -- differences, then restored

  abbrev stored : List ℕ
  stored = differences n table

  stored_below : (k : ℕ) → k < length table → get_or stored k 0 < word_bound
  stored_below k h = go (dec_lt k n)
    where
      go : Dec (k < n) → get_or stored k 0 < word_bound
      go (yes l) = rw (differences_first n table k l) (words k h)
      go (no l) = rw (differences_later n table k (omega arith) h) (minus_below (word k) (word (k - n)))

  word_back : (k : ℕ) → k < length table → Dec (k < n) → (n ≤ k → get_or (restored n stored) (k - n) 0 ≡ word (k - n))
      → get_or (restored n stored) k 0 ≡ word k
  word_back k h (yes l) earlier =
      restored_first n stored k l (rw (differences-length n table) h) (stored_below k h) ∙ differences_first n table k l
  word_back k h (no l) earlier =
      restored_later n stored k positive (omega arith) (rw (differences-length n table) h)
      ∙ ap₂ (λ a b. (a + b) % word_bound) (differences_later n table k (omega arith) h) (earlier (omega arith))
      ∙ minus_plus (word k) (word (k - n)) (words k h) (words (k - n) (omega arith))

  -- the words below b, each by those before it
  words_back : (b k : ℕ) → k < b → k < length table → get_or (restored n stored) k 0 ≡ word k
  words_back zero k below h = absurd (omega arith)
  words_back (suc b) k below h = word_back k h (dec_lt k n) (λ l. words_back b (k - n) (omega arith) (omega arith))

  pub differences-restored : restored n (differences n table) ≡ table
  differences-restored =
      let size : length (restored n stored) ≡ length table = restored-length n stored ∙ differences-length n table in
      ext_get_or 0 (restored n stored) table size (λ k h. words_back (suc k) k (omega arith) (omega (arith, size)))

  -- restored, then differences

  abbrev sums : List ℕ
  sums = restored n table

  sums_back : (k : ℕ) → k < length table → get_or (differences n sums) k 0 ≡ word k
  sums_back k h = go (dec_lt k n)
    where
      go : Dec (k < n) → get_or (differences n sums) k 0 ≡ word k
      go (yes l) = differences_first n sums k l ∙ restored_first n table k l h (words k h)
      go (no l) =
          differences_later n sums k (omega arith) (omega (arith, restored-length n table))
          ∙ ap (λ a. minus a (get_or sums (k - n) 0)) (restored_later n table k positive (omega arith) h)
          ∙ plus_minus (word k) (get_or sums (k - n) 0) (words k h) (restored_below n table (k - n) (omega arith))

  pub restored-differences : differences n (restored n table) ≡ table
  restored-differences =
      let size : length (differences n sums) ≡ length table = differences-length n sums ∙ restored-length n table in
      ext_get_or 0 (differences n sums) table size (λ k h. sums_back k (omega (arith, size)))
