-- Inverses on lists, and: the residues modulo T are a field exactly when T has no monic divisor of degree 1 to n − 1. A divisor D of such a degree is itself a residue, not 0; it is 0
-- modulo D, so it has no inverse modulo T, for 1 is not 0 modulo D.
use mathlib.Core.Path.{◌≡◌, sym, ap, subst, ◌∙◌}
use mathlib.Core.List.{List, [], ◌∷◌, ◌++◌, append_assoc, head-eq_of_cons-eq, tail-eq_of_cons-eq}
use Prim.Native.Nat.{ℕ, zero, suc, ◌+◌, ◌-◌, ◌≤◌, ◌<◌}
use native.Mathlib.Omega.{arith}
use lib.ListN.{length, replicate}
use Rattle.algebra.specs.Prime.{Prime}
use Rattle.algebra.specs.Ring.{CommutativeRing}
use Rattle.algebra.proofs.RingLaws.{zero-mul}
use Rattle.array.specs.Words.{Words, more}
use Rattle.array.proofs.Words.{append_words, of_length, to_length, words_length, zeros_words}
use Rattle.quotient.specs.Divisor.{Divides, HasDivisor, monic}
use Rattle.quotient.specs.Residue.{Residue, constant, HasInverse, Inverses}
use Rattle.quotient.proofs.Divisor.{reduction_homomorphism}
use Rattle.quotient.proofs.Field.{one_not_zero}
use Rattle.quotient.proofs.Operations.{constant-zero, residue_path}
use Rattle.quotient.proofs.Reduction.{mul_is, one_is, zero_is, reduce, reduce_same, reduce_modulus}
use Rattle.quotient.proofs.Ring.{residue_ring}
use Rattle.quotient.proofs.Substitution.{Homomorphism}
use Rattle.quotient.proofs.Units.{Invertible, nonzero_invertible, zeros_same}

-- a list with a 1 in it is not 0
pub one_among_zeros : (d zs : List ℕ) (n : ℕ) → d ++ 1 ∷ zs ≡ replicate n 0 → ⊥
one_among_zeros [] zs zero e = let h : suc (length zs) ≡ 0 = ap length e in omega arith
one_among_zeros [] zs (suc n) e = let h : ◌≡◌ {A = ℕ} 1 0 = head-eq_of_cons-eq e in omega arith
one_among_zeros (a ∷ d) zs zero e = let h : suc (length (d ++ 1 ∷ zs)) ≡ 0 = ap length e in omega arith
one_among_zeros (a ∷ d) zs (suc n) e = one_among_zeros d zs n (tail-eq_of_cons-eq e)

-- an inverse on lists and in the ring

module _ {p n : ℕ} {t : List ℕ} (big : 2 ≤ p) (wt : Words p n t) (u : Residue p n) where
  pub has_inverse : Invertible (residue_ring big wt) u → HasInverse p t u.0
  has_inverse (v, e) =
      (v.0, to_length wt v.1, sym (mul_is big wt u v) ∙ ap (λ w. w.0) e ∙ one_is big wt ∙ ap (λ k. constant k 1) (sym (words_length wt)))

  pub inverse_of : HasInverse p t u.0 → Invertible (residue_ring big wt) u
  inverse_of (v, wv, e) =
      let w : Residue p n = (v, of_length wt wv) in
      (w, residue_path (mul_is big wt u w ∙ e ∙ ap (λ k. constant k 1) (words_length wt) ∙ sym (one_is big wt)))

module _ {p n : ℕ} {t : List ℕ} (prime : Prime p) (wt : Words p (suc n) t) where
  abbrev K : CommutativeRing (Residue p (suc n))
  K = residue_ring prime.0 wt

  module _ {m : ℕ} {d : List ℕ} (wd : Words p (suc m) d) (less : suc m < suc n) (divides : Divides p d t) where
    abbrev L : CommutativeRing (Residue p (suc m))
    L = residue_ring prime.0 wd

    abbrev φ : Residue p (suc n) → Residue p (suc m)
    φ u = reduce prime.0 wd u.0

    preserves : Homomorphism K L φ
    preserves = reduction_homomorphism prime.0 wd wt divides

    -- D as a residue modulo T
    divisor : Residue p (suc n)
    divisor = (
      d ++ 1 ∷ replicate (n - suc m) 0,
      let size : suc m + suc (n - suc m) ≡ suc n = omega arith in
          subst (λ k. Words p k (d ++ 1 ∷ replicate (n - suc m) 0)) size (append_words wd (more prime.0 (zeros_words (n - suc m) (omega (arith, prime.0))))),
    )

    divisor_vanishes : φ divisor ≡ L.zero
    unfolding divisor monic
    divisor_vanishes =
        ap (reduce prime.0 wd) (sym (append_assoc d (1 ∷ []) (replicate (n - suc m) 0)))
        ∙ reduce_same prime.0 wd (monic d ++ replicate (n - suc m) 0) (monic d) (zeros_same p (n - suc m) (monic d)) ∙ reduce_modulus prime.0 wd

    divisor_no_unit : Inverses p (suc n) t → ⊥
    unfolding divisor
    divisor_no_unit inverses =
        let (v, one) =
        inverse_of prime.0 wt divisor (inverses divisor.0 divisor.1 (λ z. one_among_zeros d (replicate (n - suc m) 0) (suc n) (z ∙ constant-zero (suc n)))) in
        let same : L.one ≡ L.zero =
        sym preserves.one ∙ ap φ (sym one) ∙ preserves.mul divisor v ∙ ap (λ u. L.mul u (φ v)) divisor_vanishes ∙ zero-mul L (φ v) in
        one_not_zero m (sym (one_is prime.0 wd) ∙ ap (λ u. u.0) same ∙ zero_is prime.0 wd)

  pub inverses_irreducible : Inverses p (suc n) t → HasDivisor p t → ⊥
  inverses_irreducible inverses (zero, low, high, d, wd, h) = absurd (omega arith)
  inverses_irreducible inverses (suc m, low, high, d, wd, h) = divisor_no_unit wd (omega (arith, words_length wt)) h inverses

  pub irreducible_inverses : (HasDivisor p t → ⊥) → Inverses p (suc n) t
  irreducible_inverses irreducible u wu other =
      has_inverse prime.0 wt (u, wu) (nonzero_invertible prime wt irreducible (u, wu) (λ z. other (ap (λ w. w.0) z ∙ zero_is prime.0 wt)))
