-- The codes below c that are not marked. They are those that the loops have passed before a turn at c; a turn adds code c where it is not marked. Where the marks are those of
-- the sieve, the digits of all of them are the models: both are the digits of the codes below p^n that pass the same test.
use mathlib.Core.Path.{◌≡◌, refl, sym, ap, ◌∙◌}
use mathlib.Core.Bool.{Bool, true, false, not}
use mathlib.Core.List.{List, [], ◌∷◌, ◌++◌, append-nil, map}
use Prim.Native.Nat.{ℕ, ◌+◌, ◌-◌, ◌^◌, ◌≤◌, ◌<◌}
use native.Mathlib.Nat.{zero-add}
use native.Mathlib.Omega.{arith}
use borrow.Author.Tests.{eq-eqb, ne_eqb}
use lib.Dec.{eqb}
use lib.ListN.{length, get_or, length-append, length-map}
use Rattle.algebra.specs.Lists.{Member, filter, range}
use Rattle.algebra.proofs.Search.{range-append, range_bounds}
use Rattle.array.specs.Digits.{digits}
use Rattle.quotient.specs.DivisorTest.{has_divisor}
use Rattle.quotient.proofs.Numbering.{residues-digits}
use Rattle.sieve.specs.Clauses.{Sieved, bit}
use Rattle.catalogue.specs.Catalogue.{models}
use Rattle.catalogue.specs.Marks.{unmarked}
use Rattle.catalogue.proofs.Filter.{filter-append, filter_one, filter_same, filter_map}

module _ (size : ℕ) (marks : List ℕ) where
  -- whether code c is not marked
  abbrev free : ℕ → Bool
  free c = eqb (get_or marks (size + c) 0) 0

  -- the codes below c that are not
  pub unmarked_below : ℕ → List ℕ
  unmarked_below c = filter free (range 0 c)

  pub below_zero : unmarked_below 0 ≡ []
  unfolding unmarked_below filter range
  below_zero = refl

  pub below_all : unmarked_below size ≡ unmarked size marks
  unfolding unmarked unmarked_below
  below_all = refl

  -- c codes, and k codes from c on
  below_append : (c k : ℕ) → unmarked_below (c + k) ≡ unmarked_below c ++ filter free (range c k)
  unfolding unmarked_below
  below_append c k =
      ap (filter free) (range-append 0 c k) ∙ filter-append free (range 0 c) (range (0 + c) k)
      ∙ ap (λ a. unmarked_below c ++ filter free (range a k)) (zero-add c)

  below_next : (c : ℕ) → unmarked_below (c + 1) ≡ unmarked_below c ++ elim (free c) [ true ↦ c ∷ [] | false ↦ [] ]
  unfolding range
  below_next c = below_append c 1 ∙ ap (λ l. unmarked_below c ++ l) (filter_one free c)

  pub below_free : (c : ℕ) → get_or marks (size + c) 0 ≡ 0 → unmarked_below (c + 1) ≡ unmarked_below c ++ c ∷ []
  below_free c h = below_next c ∙ ap (λ b. unmarked_below c ++ elim b [ true ↦ c ∷ [] | false ↦ [] ]) (eq-eqb (get_or marks (size + c) 0) 0 h)

  pub below_marked : (c : ℕ) → (get_or marks (size + c) 0 ≡ 0 → ⊥) → unmarked_below (c + 1) ≡ unmarked_below c
  below_marked c h =
      below_next c ∙ ap (λ b. unmarked_below c ++ elim b [ true ↦ c ∷ [] | false ↦ [] ]) (ne_eqb (get_or marks (size + c) 0) 0 h) ∙ append-nil (unmarked_below c)

  -- they are among all that are not marked
  pub below_few : (c : ℕ) → c ≤ size → length (unmarked_below c) ≤ length (unmarked size marks)
  below_few c l =
      let whole : c + (size - c) ≡ size = omega arith in
      let parts : unmarked size marks ≡ unmarked_below c ++ filter free (range c (size - c)) = sym below_all ∙ ap unmarked_below (sym whole) ∙ below_append c (size - c) in
      omega (arith, ap length parts, length-append (unmarked_below c) (filter free (range c (size - c))))

-- a mark is 0 exactly where there is no divisor
bit_test : (b : Bool) → not b ≡ eqb (bit b) 0
unfolding bit
bit_test true = refl
bit_test false = refl

module _ (p n : ℕ) (marks : List ℕ) (sieved : Sieved p n marks) where
  tests_agree : (c : ℕ) → Member c (range 0 (p ^ n)) → not (has_divisor p (digits p n c)) ≡ eqb (get_or marks (p ^ n + c) 0) 0
  tests_agree c m =
      let small : c < p ^ n = omega (arith, range_bounds 0 (p ^ n) c m) in
      bit_test (has_divisor p (digits p n c)) ∙ ap (λ a. eqb a 0) (sym (sieved.words c small))

  pub unmarked-models : map (digits p n) (unmarked (p ^ n) marks) ≡ models p n
  unfolding models unmarked
  unmarked-models =
      sym (ap (filter (λ t. not (has_divisor p t))) (residues-digits p n)
      ∙ filter_map (λ t. not (has_divisor p t)) (digits p n) (range 0 (p ^ n))
      ∙ ap (map (digits p n)) (filter_same (λ c. not (has_divisor p (digits p n c))) (λ c. eqb (get_or marks (p ^ n + c) 0) 0) (range 0 (p ^ n)) tests_agree))

  pub unmarked_count : length (unmarked (p ^ n) marks) ≡ length (models p n)
  unmarked_count = sym (length-map (unmarked (p ^ n) marks) (digits p n)) ∙ ap length unmarked-models
