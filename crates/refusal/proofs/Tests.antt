-- The tests behind 1 to 4: by what they say, the first of 1 to 4 that applies.
--   degree_low, degree_high       the test of n
--   lengths_tested, words_tested  the tests of the lengths and of the words of lists
--   by_prime, by_degree, by_lengths, by_words, by_none    the number, by the first test that fails, if any
--   sent_number                   the number by the four tests is that of 1 to 4
use Rattle.std.specs.List.{All}
use mathlib.Core.Bool.{not-not}
use Rattle.std.proofs.Common.{◌||◌, ◌≡◌, refl, sym, ℕ, zero, suc, ◌≤◌, ◌<◌, ◌↔◌, Bool, true, false, not, IsTrue, List, [], ◌∷◌, length, map, Bor, arith}
use borrow.Author.Tests.{le-leb, lt-leb}
use lib.Dec.{leb}
use Rattle.algebra.specs.Lists as Lists
use Rattle.array.specs.Words.{all_below}
use Rattle.modular.specs.Prime.{is_prime}
use Rattle.refusal.specs.Refusal.{refuse, refuse_sent, refuse_sent_or, bad_prime, is_degree, bad_degree, bad_length, bad_word}
use Rattle.refusal.proofs.Lists.{lengths_given, given_lengths, below_given, given_below}

pub degree_low : (n : ℕ) → n < 1 → leb 1 n ≡ is_degree n
unfolding is_degree
degree_low n h = rw (lt-leb 1 n h)

pub degree_high : (n : ℕ) → 1 ≤ n → leb n 16 ≡ is_degree n
unfolding is_degree
degree_high n h = rw (le-leb 1 n h)

-- the lists to which references point

abbrev pub pointed : List (Bor (List ℕ)) → List (List ℕ)
pointed xs = map (λ x. x.now) xs

of_places : (P : List ℕ → Type 0) (xs : List (Bor (List ℕ))) → All (λ x. P x.now) xs → Lists.All P (pointed xs)
of_places P [] h = tt
of_places P (x ∷ xs) h = (h 0 x (omega arith), of_places P xs (λ k d l. h (suc k) d (omega arith)))

at_places : (P : List ℕ → Type 0) (xs : List (Bor (List ℕ))) → Lists.All P (pointed xs) → All (λ x. P x.now) xs
at_places P [] h k d l = absurd (omega arith)
at_places P (x ∷ xs) h zero d l = h.0
at_places P (x ∷ xs) h (suc k) d l = at_places P xs h.1 k d (omega arith)

-- a test that is true exactly where another is false
opposite : (r b : Bool) → (r ≡ true → b ≡ false) → (b ≡ false → r ≡ true) → b ≡ not r
opposite true b f g = f refl
opposite false true f g = refl
opposite false false f g = g refl

module _ (n : ℕ) (xs : List (Bor (List ℕ))) (r : Bool) where
  pub lengths_tested : (exact : Bool) → (IsTrue r ↔ (exact ≡ true) × All (λ x. length x.now ≡ n) xs) → (not exact || bad_length n (pointed xs)) ≡ not r
  lengths_tested true e =
      opposite r (bad_length n (pointed xs))
      (λ h. given_lengths n (pointed xs) (of_places (λ x. length x ≡ n) xs (e.0 h).1))
      (λ h. e.1 (refl, at_places (λ x. length x ≡ n) xs (lengths_given n (pointed xs) h)))
  lengths_tested false e = opposite r true (λ h. sym (e.0 h).0) (λ h. grind (arith, h))

  pub words_tested : (IsTrue r ↔ All (λ x. all_below n x.now ≡ true) xs) → bad_word n (pointed xs) ≡ not r
  words_tested e =
      opposite r (bad_word n (pointed xs))
      (λ h. given_below n (pointed xs) (of_places (λ x. all_below n x ≡ true) xs (e.0 h)))
      (λ h. e.1 (at_places (λ x. all_below n x ≡ true) xs (below_given n (pointed xs) h)))

-- the number, where the tests before the first that fails are true

module _ (p n : ℕ) (exact : Bool) (xss yss : List (List ℕ)) where
  abbrev number : ℕ
  number = refuse_sent_or (not exact) p n xss yss 0

  pub by_prime : is_prime p ≡ false → 1 ≡ number
  unfolding bad_prime
  by_prime a = rw a

  pub by_degree : is_prime p ≡ true → is_degree n ≡ false → 2 ≡ number
  unfolding bad_prime bad_degree
  by_degree a b = rw (a, b)

  pub by_lengths : is_prime p ≡ true → is_degree n ≡ true → (not exact || bad_length n xss) ≡ true → 3 ≡ number
  unfolding bad_prime bad_degree
  by_lengths a b c = rw (a, b, c)

  pub by_words : is_prime p ≡ true → is_degree n ≡ true → (not exact || bad_length n xss) ≡ false → bad_word p yss ≡ true → 4 ≡ number
  unfolding bad_prime bad_degree
  by_words a b c d = rw (a, b, c, d)

  pub by_none : is_prime p ≡ true → is_degree n ≡ true → (not exact || bad_length n xss) ≡ false → bad_word p yss ≡ false → 0 ≡ number
  unfolding bad_prime bad_degree
  by_none a b c d = rw (a, b, c, d)

-- the four tests together

pub sent_number : (p n r : ℕ) (xss yss : List (List ℕ)) (prime degree lengths words : Bool)
    → r ≡ refuse 1 (not prime) (refuse 2 (not degree) (refuse 3 (not lengths) (refuse 4 (not words) 0)))
    → prime ≡ is_prime p → degree ≡ is_degree n → lengths ≡ not (bad_length n xss) → words ≡ not (bad_word p yss) → r ≡ refuse_sent p n xss yss 0
unfolding bad_prime bad_degree
sent_number p n r xss yss prime degree lengths words e a b c d = rw (e, a, b, c, d, not-not (bad_length n xss), not-not (bad_word p yss))
