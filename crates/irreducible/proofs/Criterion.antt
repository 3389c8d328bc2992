-- Rabin's criterion. If T has no divisor of degree 1 to n − 1, its residues are a field in which X has period n. If T has one, take a divisor D without
-- proper divisors, of degree d < n: modulo D the period of X is d, so X^(p^n) = X gives d | n, hence d | n/q for a prime q that divides n, and then
-- X^(p^(n/q)) − X is 0 modulo D and has no inverse modulo T.
use mathlib.Core.Path.{◌≡◌, sym, ap, ◌∙◌, subst}
use mathlib.Core.List.{List}
use Prim.Native.Nat.{ℕ, zero, suc, ◌*◌, ◌/◌, ◌%◌, ◌^◌, ◌<◌}
use native.Mathlib.Nat.{div-add-mod, div-lt_self, mul-zero, pos_of_ne-zero}
use native.Mathlib.Omega.{arith}
use lib.ListN.{length}
use Rattle.algebra.specs.Prime.{Prime}
use Rattle.algebra.specs.Ring.{CommutativeRing}
use Rattle.algebra.specs.Ring as Ring
use Rattle.algebra.proofs.Period.{period_multiple, period_divides}
use Rattle.algebra.proofs.PrimeDivisor.{prime_quotient}
use Rattle.algebra.proofs.RingLaws.{add-neg, eq_of_sub_zero, zero-mul}
use Rattle.array.specs.Words.{Words}
use Rattle.array.proofs.Words.{words_length}
use Rattle.quotient.specs.Divisor.{Divides, HasDivisor}
use Rattle.quotient.specs.Residue.{Residue, residue_of_x, HasInverse}
use Rattle.quotient.proofs.Descent.{irreducible_divisor}
use Rattle.quotient.proofs.Divisor.{divides_transitive, divides_zero, reduction_homomorphism}
use Rattle.quotient.proofs.Field.{residue_field, power_of_size}
use Rattle.quotient.proofs.Operations.{residue_path}
use Rattle.quotient.proofs.Reduction.{characteristic, reduce}
use Rattle.quotient.proofs.Ring.{residue_ring, x_residue}
use Rattle.quotient.proofs.Substitution.{Homomorphism, homomorphism_power, homomorphism_zero, evaluate_of_x}
use Rattle.quotient.proofs.FieldModulus.{has_inverse, inverse_of}
use Rattle.quotient.proofs.Units.{Invertible, nonzero_invertible}
use Rattle.irreducible.specs.Rabin.{conjugate_of_x, difference, Passes, Rabin}
use Rattle.irreducible.proofs.Differences.{conjugate_of_x_is, difference_is}
use Rattle.irreducible.proofs.PeriodOfX.{no_lower_period}

module _ {p n : ℕ} {t : List ℕ} (prime : Prime p) (wt : Words p (suc n) t) where
  abbrev K : CommutativeRing (Residue p (suc n))
  K = residue_ring prime.0 wt

  abbrev x : Residue p (suc n)
  x = x_residue prime.0 wt

  -- X^(p^k) − X
  abbrev difference_residue : ℕ → Residue p (suc n)
  difference_residue k = K.add (Ring.power K x (p ^ k)) (K.neg x)

  -- an inverse of it on lists and in the ring
  difference_has : (k : ℕ) → Invertible K (difference_residue k) → HasInverse p t (difference p t k)
  difference_has k h = rw (difference_is prime.0 wt k) (has_inverse prime.0 wt (difference_residue k) h)

  difference_of : (k : ℕ) → HasInverse p t (difference p t k) → Invertible K (difference_residue k)
  difference_of k h = inverse_of prime.0 wt (difference_residue k) (subst (HasInverse p t) (difference_is prime.0 wt k) h)

  -- T without proper divisors satisfies Rabin's conditions

  module _ (irreducible : HasDivisor p t → ⊥) where
    fixed_x : conjugate_of_x p t (suc n) ≡ residue_of_x p t
    unfolding x_residue
    fixed_x = conjugate_of_x_is prime.0 wt (suc n) ∙ ap (λ u. u.0) (power_of_size prime wt irreducible x)

    inverse_at : (k : ℕ) → 0 < k → k < suc n → HasInverse p t (difference p t k)
    inverse_at k pos less =
        difference_has k (nonzero_invertible prime wt irreducible (difference_residue k)
        (λ z. no_lower_period prime wt irreducible k pos less (eq_of_sub_zero K (Ring.power K x (p ^ k)) x z)))

    inverse_quotient : (q : ℕ) → Prime q → suc n % q ≡ 0 → HasInverse p t (difference p t (suc n / q))
    inverse_quotient q h divides =
        let whole : q * (suc n / q) ≡ suc n = omega (arith, div-add-mod (suc n) q) in
        let some : 0 < suc n / q = pos_of_ne-zero (λ z. let none : q * (suc n / q) ≡ 0 = ap (λ k. q * k) z ∙ mul-zero q in omega arith) in
        inverse_at (suc n / q) some (div-lt_self (omega arith) h.0)

    pub irreducible_rabin : Rabin p t
    unfolding Passes
    irreducible_rabin =
        let size : length t ≡ suc n = words_length wt in
        record {
          fixed = rw size fixed_x;
          inverses = λ q h divides. subst (λ k. HasInverse p t (difference p t (k / q))) (sym size) (inverse_quotient q h (rw size at divides));
        }

  -- the contradiction modulo a divisor D without proper divisors

  module _ {m : ℕ} {d : List ℕ} (wd : Words p (suc m) d) (divides : Divides p d t) where
    abbrev L : CommutativeRing (Residue p (suc m))
    L = residue_ring prime.0 wd

    abbrev y : Residue p (suc m)
    y = x_residue prime.0 wd

    abbrev φ : Residue p (suc n) → Residue p (suc m)
    φ u = reduce prime.0 wd u.0

    preserves : Homomorphism K L φ
    preserves = reduction_homomorphism prime.0 wd wt divides

    image_of_x : φ x ≡ y
    unfolding reduce x_residue
    image_of_x = evaluate_of_x prime.0 wt L (characteristic prime.0 wd) y (divides_zero prime.0 wd t divides)

    -- X^(p^k) = X modulo T, and so modulo D
    fixed_image : (k : ℕ) → conjugate_of_x p t k ≡ residue_of_x p t → Ring.power L y (p ^ k) ≡ y
    unfolding x_residue
    fixed_image k e =
        let here : Ring.power K x (p ^ k) ≡ x = residue_path (sym (conjugate_of_x_is prime.0 wt k) ∙ e) in
        ap (λ u. Ring.power L u (p ^ k)) (sym image_of_x) ∙ sym (homomorphism_power preserves x (p ^ k)) ∙ ap φ here ∙ image_of_x

    -- where X^(p^k) = X modulo D, X^(p^k) − X has no inverse modulo T
    no_inverse : (L.one ≡ L.zero → ⊥) → (k : ℕ) → Ring.power L y (p ^ k) ≡ y → HasInverse p t (difference p t k) → ⊥
    no_inverse proper k e h =
        let (v, one) = difference_of k h in
        let power_image : φ (Ring.power K x (p ^ k)) ≡ φ x = homomorphism_power preserves x (p ^ k) ∙ ap (λ u. Ring.power L u (p ^ k)) image_of_x ∙ e ∙ sym image_of_x in
        let vanishes : φ (difference_residue k) ≡ L.zero =
        preserves.add (Ring.power K x (p ^ k)) (K.neg x) ∙ ap (λ u. L.add u (φ (K.neg x))) power_image ∙ sym (preserves.add x (K.neg x)) ∙ ap φ (add-neg K x)
        ∙ homomorphism_zero preserves in
        proper (sym (sym (preserves.mul (difference_residue k) v) ∙ ap φ one ∙ preserves.one) ∙ ap (λ u. L.mul u (φ v)) vanishes ∙ zero-mul L (φ v))

    module _ (irreducible : HasDivisor p d → ⊥) (less : suc m < suc n) (rabin : Rabin p t) where
      period_is : suc n % suc m ≡ 0
      period_is =
          period_divides L p y (suc m) (power_of_size prime wd irreducible y) (omega arith) (no_lower_period prime wd irreducible) (suc n)
          (fixed_image (suc n) (rw (words_length wt) at rabin.fixed))

      -- the degree of D divides n/q for a prime q that divides n
      pub contradiction : ⊥
      unfolding residue_field Passes
      contradiction =
          let (q, h, divides_n, f, quotient) = prime_quotient (suc m) (suc n) less period_is in
          let inverse : HasInverse p t (difference p t (suc n / q)) =
          subst (λ k. HasInverse p t (difference p t (k / q))) (words_length wt) (rabin.inverses q h (rw (words_length wt) divides_n)) in
          no_inverse (residue_field prime wd irreducible).one-ne-zero (suc n / q)
          (ap (λ k. Ring.power L y (p ^ k)) quotient ∙ period_multiple L p y (suc m) (power_of_size prime wd irreducible y) f) inverse

  pub rabin_irreducible : Rabin p t → HasDivisor p t → ⊥
  rabin_irreducible rabin (zero, low, high, d, wd, h) = absurd (omega arith)
  rabin_irreducible rabin (suc i, low, high, d, wd, h) =
      let (m, d', le, wd', h', irreducible) = irreducible_divisor p i d prime.0 wd in
      contradiction wd' (divides_transitive prime.0 wd' d t h' h) irreducible (omega (arith, words_length wt)) rabin
