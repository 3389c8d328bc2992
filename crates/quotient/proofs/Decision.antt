-- Whether T has a divisor of degree 1 to n − 1 is decided by trying every monic D of such a degree: D divides T exactly when T modulo D is 0,
-- and the list of residues has the lower words of every D.
--   test_has_divisor, has_divisor_test   the two halves of "the test is exact"
--   has_divisor?                         so there is a divisor, or there is none
--   irreducible_test, test_irreducible   there is none exactly where the test fails
use mathlib.Core.Path.{◌≡◌, refl, sym, ap, ap₂, ◌∙◌}
use mathlib.Core.Bool.{Bool, true, false, not, true≢false}
use mathlib.Core.List.{List, [], ◌∷◌}
use mathlib.Core.Logic.{inl, inr}
use Prim.Native.Nat.{ℕ, zero, suc, ◌+◌, ◌-◌, ◌<◌, ◌≤◌}
use native.Mathlib.Omega.{arith}
use borrow.Author.Tests.{eqb-true, not-true, not-false}
use lib.Dec.{eqb}
use lib.ListN.{length, replicate}
use Rattle.algebra.specs.Lists.{Member, all, range}
use Rattle.algebra.proofs.Search.{range_bounds, range_member, member_of_all, all_of_members}
use Rattle.array.specs.Words.{Words}
use Rattle.quotient.specs.Residue.{residues, residue_of_x, modulus_at}
use Rattle.quotient.specs.Divisor.{Divides, HasDivisor}
use Rattle.quotient.specs.DivisorTest.{divides_test, has_divisor}
use Rattle.quotient.proofs.Operations.{constant-zero, modulus_at_words, residue_of_x_words}
use Rattle.array.proofs.Words.{words_length}
use Rattle.quotient.proofs.Listing.{residues_complete, residues_sound}
use Rattle.quotient.proofs.Divisor.{divisor_root, root_divisor}

-- where a test fails on a list, it fails on an element
all_fails : {A : Type 0} (test : A → Bool) (xs : List A) → all test xs ≡ false → (a : A) × Member a xs × (test a ≡ false)
unfolding all
all_fails test [] h = absurd (true≢false h)
all_fails {A} test (x ∷ xs) h = by_head (test x) refl (all_fails test xs)
  where
    by_head : (b : Bool) → test x ≡ b → (all test xs ≡ false → (a : A) × Member a xs × (test a ≡ false)) → (a : A) × Member a (x ∷ xs) × (test a ≡ false)
    by_head true e rest = let (a, m, f) = rest (rw e at h) in (a, inr m, f)
    by_head false e rest = (x, inl refl, e)

abbrev zero? : ℕ → Bool
zero? a = eqb a 0

all_zeros : (u : List ℕ) → all zero? u ≡ true → u ≡ replicate (length u) 0
all_zeros [] h = refl
all_zeros (a ∷ u) h =
    let each = member_of_all zero? (a ∷ u) h in
    ap₂ ◌∷◌ (eqb-true a 0 (each a (inl refl))) (all_zeros u (all_of_members zero? u (λ b m. each b (inr m))))

zeros_all : (k : ℕ) → all zero? (replicate k 0) ≡ true
unfolding all
zeros_all zero = refl
zeros_all (suc k) = zeros_all k

module _ {p m n : ℕ} {d t : List ℕ} (big : 2 ≤ p) (wd : Words p (suc m) d) (wt : Words p n t) where
  pub test_divides : divides_test p d t ≡ true → Divides p d t
  unfolding divides_test
  test_divides h =
      let w : Words p (suc m) (modulus_at p d (residue_of_x p d) t) = modulus_at_words big wd (residue_of_x_words big wd) wt in
      root_divisor big wd t (all_zeros _ h ∙ ap (λ k. replicate k 0) (words_length w) ∙ sym (constant-zero (suc m)))

  pub divides_test_lem : Divides p d t → divides_test p d t ≡ true
  unfolding divides_test
  divides_test_lem h = ap (all zero?) (divisor_root big wd t h ∙ constant-zero (suc m)) ∙ zeros_all (suc m)

module _ {p n : ℕ} {t : List ℕ} (big : 2 ≤ p) (wt : Words p n t) where
  abbrev fails : List ℕ → Bool
  fails d = not (divides_test p d t)

  abbrev all_fail : ℕ → Bool
  all_fail m = all fails (residues p m)

  abbrev degrees : List ℕ
  degrees = range 1 (length t - 1)

  pub test_has_divisor : has_divisor p t ≡ true → HasDivisor p t
  unfolding has_divisor
  test_has_divisor h =
      let (m, l, g) = all_fails all_fail degrees (not-true (all all_fail degrees) h) in
      let (d, k, f) = all_fails fails (residues p m) g in
      found m d (range_bounds 1 (length t - 1) m l) (residues_sound p m d k) (not-false (divides_test p d t) f)
    where
      found : (m : ℕ) (d : List ℕ) → (1 ≤ m) × (m < 1 + (length t - 1)) → Words p m d → divides_test p d t ≡ true → HasDivisor p t
      found zero d b wd f = absurd (omega arith)
      found (suc m) d b wd f = (suc m, omega arith, omega arith, d, wd, test_divides big wd wt f)

  pub has_divisor_test : HasDivisor p t → has_divisor p t ≡ true
  unfolding has_divisor
  has_divisor_test (zero, pos, l, d, wd, h) = absurd (omega arith)
  has_divisor_test (suc m, pos, l, d, wd, h) = by_value (all all_fail degrees) refl
    where
      by_value : (b : Bool) → all all_fail degrees ≡ b → not (all all_fail degrees) ≡ true
      by_value false e = ap not e
      by_value true e =
          let f : all_fail (suc m) ≡ true = member_of_all all_fail degrees e (suc m) (range_member 1 (length t - 1) (suc m) (omega arith) (omega arith)) in
          let g : fails d ≡ true = member_of_all fails (residues p (suc m)) f d (residues_complete p (suc m) d wd) in
          absurd (true≢false (sym (divides_test_lem big wd wt h) ∙ not-true (divides_test p d t) g))

  pub has_divisor? : Dec (HasDivisor p t)
  has_divisor? = by_value (has_divisor p t) refl
    where
      by_value : (b : Bool) → has_divisor p t ≡ b → Dec (HasDivisor p t)
      by_value true e = yes (test_has_divisor e)
      by_value false e = no (λ h. true≢false (sym (has_divisor_test h) ∙ e))

  -- there is none exactly where the test fails
  pub irreducible_test : (HasDivisor p t → ⊥) → has_divisor p t ≡ false
  irreducible_test h = by_value (has_divisor p t) refl
    where
      by_value : (b : Bool) → has_divisor p t ≡ b → has_divisor p t ≡ false
      by_value true e = absurd (h (test_has_divisor e))
      by_value false e = e

  pub test_irreducible : has_divisor p t ≡ false → HasDivisor p t → ⊥
  test_irreducible e h = true≢false (sym (has_divisor_test h) ∙ e)
