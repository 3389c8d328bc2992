-- The exponent k ≥ 1 with n = p^k: there is at most one, the search finds it, and such an n does not divide p − 1.
use mathlib.Core.Path.{◌≡◌, refl, sym, ap, ◌∙◌}
use mathlib.Core.Bool.{Bool, true, false}
use mathlib.Core.List.{List, [], ◌∷◌}
use mathlib.Core.Logic.{inl, inr}
use Prim.Native.Nat.{ℕ, zero, suc, ◌-◌, ◌*◌, ◌%◌, ◌^◌, ◌≤◌, ◌<◌}
use native.Mathlib.Decide.{dec_lt}
use native.Mathlib.Nat.{mod-eq_of_lt, mul-le-mul_right, one-le-pow, pow-suc, pow-zero}
use native.Mathlib.Omega.{arith}
use lib.Dec.{eqb}
use borrow.Author.Tests.{eq-eqb, ne_eqb, eqb-true}
use Rattle.algebra.specs.Lists.{Member, first, range}
use Rattle.algebra.proofs.PrimePowers.{power_rises}
use Rattle.algebra.proofs.Search.{first_pass, first_fail, first_unique, first_default, range_member, range_bounds}
use Rattle.algebra.proofs.Lists.{member_equal}
use Rattle.galois.specs.Tower.{PowerOf, exponent}

pub exponent_below : (p k : ℕ) → 2 ≤ p → k < p ^ k
exponent_below p zero big = omega (arith, pow-zero p)
exponent_below p (suc k) big = omega (arith, exponent_below p k big, power_rises p k (suc k) big (omega arith))

same_exponent : (p j k : ℕ) → 2 ≤ p → p ^ j ≡ p ^ k → j ≡ k
same_exponent p j k big e = by_order (dec_lt j k) (dec_lt k j)
  where
    by_order : Dec (j < k) → Dec (k < j) → j ≡ k
    by_order (yes l) d = absurd (omega (arith, power_rises p j k big l))
    by_order (no l) (yes m) = absurd (omega (arith, power_rises p k j big m))
    by_order (no l) (no m) = omega arith

-- a search that does not end with its default has found something
found_or_default : (test : ℕ → Bool) (d : ℕ) (xs : List ℕ) → (first test d xs ≡ d → ⊥) → Member (first test d xs) xs × (test (first test d xs) ≡ true)
found_or_default test d [] other = absurd (other (first_default test d [] (λ x m. absurd m)))
found_or_default test d (x ∷ xs) other = by_test (test x) refl (found_or_default test d xs)
  where
    by_test : (b : Bool) → test x ≡ b → ((first test d xs ≡ d → ⊥) → Member (first test d xs) xs × (test (first test d xs) ≡ true))
        → Member (first test d (x ∷ xs)) (x ∷ xs) × (test (first test d (x ∷ xs)) ≡ true)
    by_test true e rest = let f : first test d (x ∷ xs) ≡ x = first_pass test d x xs e in (inl f, ap test f ∙ e)
    by_test false e rest =
        let f : first test d (x ∷ xs) ≡ first test d xs = first_fail test d x xs e in
        let (m, h) = rest (λ g. other (f ∙ g)) in
        (inr (member_equal xs (sym f) m), ap test f ∙ h)

pub exponent_is : (p n : ℕ) → (exponent p n ≡ 0 → ⊥) → (1 ≤ exponent p n) × (n ≡ p ^ exponent p n)
unfolding exponent
exponent_is p n other =
    let (m, h) = found_or_default (λ j. eqb n (p ^ j)) 0 (range 1 n) other in
    ((range_bounds 1 n (exponent p n) m).0, eqb-true n (p ^ exponent p n) h)

module _ (p n : ℕ) (big : 2 ≤ p) where
  pub exponent_found : (k : ℕ) → 1 ≤ k → n ≡ p ^ k → exponent p n ≡ k
  unfolding exponent
  exponent_found k low e =
      first_unique (λ j. eqb n (p ^ j)) 0 (range 1 n) k (range_member 1 n k low (omega (arith, exponent_below p k big))) (eq-eqb n (p ^ k) e)
      (λ j m f. same_exponent p j k big (sym (eqb-true n (p ^ j) f) ∙ e))

  pub exponent_none : (PowerOf p n → ⊥) → exponent p n ≡ 0
  unfolding exponent
  exponent_none none =
      first_default (λ j. eqb n (p ^ j)) 0 (range 1 n) (λ j m. ne_eqb n (p ^ j) (λ e. none (j, (range_bounds 1 n j m).0, e)))

  pub not_a_divisor : PowerOf p n → (p - 1) % n ≡ 0 → ⊥
  not_a_divisor (zero, low, e) divides = absurd (omega arith)
  not_a_divisor (suc k, low, e) divides =
      let large : 1 * p ≤ p ^ k * p = mul-le-mul_right p (one-le-pow k p (omega arith)) in
      let same : (p - 1) % n ≡ p - 1 = mod-eq_of_lt (omega (arith, pow-suc p k)) in
      omega arith
