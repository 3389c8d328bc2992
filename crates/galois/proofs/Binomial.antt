-- Residues v whose n-th power modulo T is a constant: v^n = a makes v a root of X^n − a, and (c·v)^n = c^n·a.
use mathlib.Core.Path.{◌≡◌, sym, ap, ap₂, ◌∙◌}
use mathlib.Core.List.{List}
use Prim.Native.Nat.{ℕ, suc, ◌+◌, ◌-◌, ◌*◌, ◌%◌, ◌^◌}
use native.Mathlib.Nat.{mod-lt}
use native.Mathlib.Omega.{arith}
use Rattle.algebra.specs.Prime.{Prime}
use Rattle.algebra.specs.Ring.{CommutativeRing, numeral}
use Rattle.algebra.specs.Ring as Ring
use Rattle.algebra.proofs.Frobenius.{numeral-mod}
use Rattle.algebra.proofs.RingLaws.{numeral-add, numeral-mul, power_product}
use Rattle.array.specs.Words.{Words}
use Rattle.quotient.specs.Residue.{Residue, scale, constant, power, modulus_at}
use Rattle.quotient.proofs.Evaluation.{evaluate-monic}
use Rattle.quotient.proofs.Operations.{constant-length}
use Rattle.quotient.proofs.Reduction.{characteristic, zero_is, scale_is}
use Rattle.quotient.proofs.Ring.{residue_ring}
use Rattle.quotient.proofs.Substitution.{modulus_at_is}
use Rattle.roots.proofs.Zeta.{numeral-power}
use Rattle.galois.proofs.ResidueConstants.{constant_is_word, constant-power_is, evaluate-constant, power-numeral}

module _ {p n : ℕ} {t v : List ℕ} (prime : Prime p) (wt : Words p (suc n) t) (wv : Words p (suc n) v) (a : ℕ) (value : power p t v (suc n) ≡ constant (suc n) a) where
  abbrev K : CommutativeRing (Residue p (suc n))
  K = residue_ring prime.0 wt

  value_is : Ring.power K (v, wv) (suc n) ≡ numeral K a
  value_is = power-numeral prime wt (v, wv) (suc n) a value

  pub binomial_root : modulus_at p t v (constant (suc n) (p - a)) ≡ constant (suc n) 0
  binomial_root =
      let q : List ℕ = constant (suc n) (p - a) in
      let total : a + (p - a) ≡ p = omega (arith, constant_is_word prime wt (v, wv) (suc n) a value) in
      modulus_at_is prime.0 wt (v, wv) q
      ∙ ap (λ u. u.0) (evaluate-monic K p (characteristic prime.0 wt) (v, wv) q
      ∙ ap₂ K.add (ap (Ring.power K (v, wv)) (constant-length (suc n) (p - a)) ∙ value_is) (evaluate-constant K n (p - a) (v, wv))
      ∙ sym (numeral-add K a (p - a)) ∙ ap (numeral K) total ∙ characteristic prime.0 wt)
      ∙ zero_is prime.0 wt

  pub multiple_power : (c : ℕ) → power p t (scale p c v) (suc n) ≡ constant (suc n) (c ^ suc n * a % p)
  multiple_power c =
      ap (λ u. power p t u (suc n)) (sym (scale_is prime.0 wt c (v, wv)))
      ∙ constant-power_is prime wt (K.mul (numeral K c) (v, wv)) (suc n) (c ^ suc n * a % p) (mod-lt (c ^ suc n * a) (omega (arith, prime.0)))
      (power_product K (numeral K c) (v, wv) (suc n) ∙ ap₂ K.mul (sym (numeral-power K c (suc n))) value_is ∙ sym (numeral-mul K (c ^ suc n) a)
      ∙ sym (numeral-mod K p (c ^ suc n * a) (characteristic prime.0 wt)))
