-- The words of the differences of a table, and of a table that is restored, one by one.
use Rattle.std.proofs.Common.{◌≡◌, ℕ, zero, suc, ◌+◌, ◌-◌, ◌*◌, ◌/◌, ◌%◌, ◌<◌, ◌≤◌, List, ◌∷◌, ◌++◌, map, length, get_or, take, sym, refl, ap, ◌∙◌, ap₂, append-nil, add-one, arith, length-append, length-take-le, take_all, get_or-take, take_at, get_or-append-add}
use native.Mathlib.Nat as Nat
use native.Mathlib.Decide.{dec_lt}
use lib.ListN.{length-map}
use Rattle.algebra.specs.Lists.{range}
use Rattle.algebra.proofs.Search.{range_length}
use Rattle.array.specs.Words.{word_bound}
use Rattle.array.proofs.Ranges.{range_word, range_same}
use Rattle.differences.specs.Differences.{minus, differences, sum_of, restored}
use Rattle.differences.proofs.Cancel.{wrapped_below}

-- differences

module _ (n : ℕ) (table : List ℕ) where
  abbrev later : ℕ → ℕ
  later k = minus (get_or table k 0) (get_or table (k - n) 0)

  -- a table without later words
  differences_short : length table ≤ n → differences n table ≡ table
  unfolding differences range
  differences_short h =
      let none : length table - n ≡ 0 = omega arith in
      ap₂ ◌++◌ (take_all n table h) (ap (λ k. map later (range n k)) none) ∙ append-nil table

  module _ (h : n ≤ length table) where
    long_length : length (differences n table) ≡ length table
    unfolding differences
    long_length =
        let sum : n + (length table - n) ≡ length table = omega arith in
        length-append (take n table) _
        ∙ ap₂ ◌+◌ (length-take-le n table h) (length-map (range n (length table - n)) later ∙ range_length n (length table - n))
        ∙ sum

    long_first : (k : ℕ) → k < n → get_or (differences n table) k 0 ≡ get_or table k 0
    unfolding differences
    long_first k l =
        sym (get_or-take n (differences n table) k 0 l)
        ∙ ap (λ xs. get_or xs k 0) (take_at (take n table) _ n (length-take-le n table h))
        ∙ get_or-take n table k 0 l

  first_cases : Dec (length table < n) → (k : ℕ) → k < n → get_or (differences n table) k 0 ≡ get_or table k 0
  first_cases (yes h) k l = ap (λ xs. get_or xs k 0) (differences_short (omega arith))
  first_cases (no h) k l = long_first (omega arith) k l

  pub differences_first : (k : ℕ) → k < n → get_or (differences n table) k 0 ≡ get_or table k 0
  differences_first = first_cases (dec_lt (length table) n)

  length_cases : Dec (length table < n) → length (differences n table) ≡ length table
  length_cases (yes h) = ap length (differences_short (omega arith))
  length_cases (no h) = long_length (omega arith)

  pub differences-length : length (differences n table) ≡ length table
  differences-length = length_cases (dec_lt (length table) n)

  pub differences_later : (k : ℕ) → n ≤ k → k < length table → get_or (differences n table) k 0 ≡ minus (get_or table k 0) (get_or table (k - n) 0)
  unfolding differences
  differences_later k low high =
      let seam : length (take n table) + (k - n) ≡ k = omega (arith, length-take-le n table (omega arith)) in
      let sum : n + (k - n) ≡ k = omega arith in
      ap (λ i. get_or (differences n table) i 0) (sym seam)
      ∙ get_or-append-add (take n table) _ (k - n) 0
      ∙ range_word later n (length table - n) (k - n) (omega arith)
      ∙ ap later sum

-- the restored table

shifted : (f : ℕ → ℕ) (a q : ℕ) → map f (range (suc a) q) ≡ map (λ i. f (suc i)) (range a q)
unfolding range
shifted f a zero = refl
shifted f a (suc q) = ap (λ xs. f (suc a) ∷ xs) (shifted f (suc a) q)

module _ (n : ℕ) (table : List ℕ) where
  abbrev back : ℕ → ℕ → ℕ
  back k i = get_or table (k - i * n) 0

  abbrev whole_sum : ℕ → ℕ
  whole_sum k = sum_of (map (back k) (range 0 (k / n + 1)))

  pub restored-length : length (restored n table) ≡ length table
  unfolding restored
  restored-length = length-map (range 0 (length table)) _ ∙ range_length 0 (length table)

  restored_word : (k : ℕ) → k < length table → get_or (restored n table) k 0 ≡ whole_sum k % word_bound
  unfolding restored
  restored_word k h = range_word (λ i. whole_sum i % word_bound) 0 (length table) k h ∙ ap (λ i. whole_sum i % word_bound) (Nat.zero-add k)

  sum_first : (k : ℕ) → k < n → whole_sum k ≡ get_or table k 0
  unfolding sum_of range
  sum_first k l =
      let here : k - 0 * n ≡ k = omega arith in
      ap (λ q. sum_of (map (back k) (range 0 (q + 1)))) (Nat.div-eq_of_lt l) ∙ Nat.add-zero (back k 0) ∙ ap (λ i. get_or table i 0) here

  -- the words n, 2·n, … places before word k are those 0, n, … places before word k − n
  before : (k q : ℕ) → map (back k) (range 1 q) ≡ map (back (k - n)) (range 0 q)
  before k q = shifted (back k) 0 q ∙ range_same (λ i. back k (suc i)) (back (k - n)) 0 q (λ i l. ap (λ j. get_or table j 0) (omega arith))

  sum_later : (k : ℕ) → 1 ≤ n → n ≤ k → whole_sum k ≡ get_or table k 0 + whole_sum (k - n)
  unfolding sum_of range
  sum_later k low h =
      let here : k - 0 * n ≡ k = omega arith in
      ap (λ q. sum_of (map (back k) (range 0 q))) (add-one (k / n) ∙ ap suc (Nat.div-eq-sub-div low h))
      ∙ ap₂ ◌+◌ (ap (λ i. get_or table i 0) here) (ap sum_of (before k ((k - n) / n + 1)))

  pub restored_later : (k : ℕ) → 1 ≤ n → n ≤ k → k < length table
      → get_or (restored n table) k 0 ≡ (get_or table k 0 + get_or (restored n table) (k - n) 0) % word_bound
  restored_later k low h l =
      restored_word k l
      ∙ ap (λ x. x % word_bound) (sum_later k low h)
      ∙ sym (Nat.add-mod-mod (get_or table k 0) (whole_sum (k - n)) word_bound)
      ∙ ap (λ x. (get_or table k 0 + x) % word_bound) (sym (restored_word (k - n) (omega arith)))

  -- by the sum of the column so far

  pub restored_start : (k : ℕ) → k < n → k < length table → (0 + get_or table k 0) % word_bound ≡ get_or (restored n table) k 0
  restored_start k l h = ap (λ x. x % word_bound) (Nat.zero-add (get_or table k 0) ∙ sym (sum_first k l)) ∙ sym (restored_word k h)

  pub restored_next : (k : ℕ) → 1 ≤ n → k + n < length table → (get_or (restored n table) k 0 + get_or table (k + n) 0) % word_bound ≡ get_or (restored n table) (k + n) 0
  restored_next k low h =
      let earlier : k + n - n ≡ k = omega arith in
      ap (λ x. x % word_bound) (Nat.add_comm (get_or (restored n table) k 0) (get_or table (k + n) 0) ∙ ap (λ i. get_or table (k + n) 0 + get_or (restored n table) i 0) (sym earlier))
      ∙ sym (restored_later (k + n) low (omega arith) h)

  pub restored_first : (k : ℕ) → k < n → k < length table → get_or table k 0 < word_bound → get_or (restored n table) k 0 ≡ get_or table k 0
  restored_first k l h small = restored_word k h ∙ ap (λ x. x % word_bound) (sum_first k l) ∙ Nat.mod-eq_of_lt small

  pub restored_below : (k : ℕ) → k < length table → get_or (restored n table) k 0 < word_bound
  restored_below k h = rw (restored_word k h) (wrapped_below (whole_sum k))
