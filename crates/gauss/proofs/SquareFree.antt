-- No square divides X^(p^n) − X: let T divide it, T = E·D and E = D·F. Modulo T every residue u satisfies u^(p^n) = u, since X does; but E·E = E·D·F = T·F = 0
-- modulo T, so E = 0 modulo T, which is not so, for E is monic of lower degree than T.
use mathlib.Core.Path.{◌≡◌, sym, ap, ◌∙◌}
use mathlib.Core.List.{List}
use Prim.Native.Nat.{ℕ, suc, ◌^◌, ◌<◌}
use Rattle.algebra.specs.Prime.{Prime}
use Rattle.algebra.specs.Ring.{CommutativeRing, power}
use Rattle.algebra.proofs.RingLaws.{mul_assoc, power-suc, zero-mul}
use Rattle.array.specs.Words.{Words}
use Rattle.quotient.specs.Divisor.{Same, Divides, polynomial_product, monic}
use Rattle.quotient.specs.Residue.{Residue}
use Rattle.quotient.proofs.Reduction.{reduce, reduce_modulus, reduce_product, reduce_same}
use Rattle.quotient.proofs.Ring.{residue_ring}
use Rattle.irreducible.proofs.PeriodOfX.{all_fixed}
use Rattle.gauss.proofs.Factors.{lower_degree_nonzero, reduce_factors}
use Rattle.gauss.proofs.PowerMinusX.{power_minus_x, divides_fixed}

-- a u with u·u = 0 and u^N = u is 0
nilpotent_fixed : {A : Type 0} (R : CommutativeRing A) (u : A) (k : ℕ) → R.mul u u ≡ R.zero → power R u (suc (suc k)) ≡ u → u ≡ R.zero
nilpotent_fixed R u k square fixed =
    sym fixed ∙ power-suc R u (suc k) ∙ ap (R.mul u) (power-suc R u k) ∙ sym (mul_assoc R u u (power R u k)) ∙ ap (λ v. R.mul v (power R u k)) square
    ∙ zero-mul R (power R u k)

module _ {p i j : ℕ} {t e : List ℕ} (d : List ℕ) (prime : Prime p) (wt : Words p (suc i) t) (we : Words p j e) (less : j < suc i)
    (same : Same p (polynomial_product p (monic e) (monic d)) (monic t)) where
  abbrev K : CommutativeRing (Residue p (suc i))
  K = residue_ring prime.0 wt

  abbrev modulo : List ℕ → Residue p (suc i)
  modulo = reduce prime.0 wt

  square_vanishes : Divides p d e → K.mul (modulo (monic e)) (modulo (monic e)) ≡ K.zero
  square_vanishes (f, h) =
      ap (K.mul (modulo (monic e))) (sym (reduce_same prime.0 wt (polynomial_product p (monic d) f) (monic e) h) ∙ reduce_product prime.0 wt (monic d) f)
      ∙ sym (mul_assoc K (modulo (monic e)) (modulo (monic d)) (modulo f))
      ∙ ap (λ v. K.mul v (modulo f)) (reduce_factors prime.0 wt e d t same ∙ reduce_modulus prime.0 wt) ∙ zero-mul K (modulo f)

  pub square_free : (n k : ℕ) → suc (suc k) ≡ p ^ n → Divides p t (power_minus_x p k) → Divides p d e → ⊥
  square_free n k size h g =
      lower_degree_nonzero prime.0 wt we less
      (nilpotent_fixed K (modulo (monic e)) k (square_vanishes g)
      (ap (power K (modulo (monic e))) size ∙ all_fixed prime wt n (divides_fixed prime wt n k size h) (modulo (monic e))))
