-- The equation w^p = w + b·a modulo T, for residues w with constant coefficient 0, as a linear system finds them. If b is not 0, w divided by b solves v^p = v + a. If b is a
-- multiple of p, w is 0 where T has no proper divisor.
use mathlib.Core.Path.{◌≡◌, sym, ap, ◌∙◌}
use mathlib.Core.List.{List}
use Prim.Native.Nat.{ℕ, suc, ◌*◌, ◌%◌, ◌<◌}
use native.Mathlib.Nat.{mul_comm, mul-zero, zero-mod}
use native.Mathlib.Omega.{arith}
use lib.ListN.{get_or}
use Rattle.algebra.specs.Prime.{Prime}
use Rattle.algebra.specs.Ring.{CommutativeRing, numeral}
use Rattle.algebra.specs.Ring as Ring
use Rattle.algebra.proofs.Frobenius.{numeral-mod, frobenius_numeral}
use Rattle.algebra.proofs.RingLaws as RingLaws
use Rattle.array.specs.Words.{Words}
use Rattle.modular.specs.Inverse.{inverse}
use Rattle.modular.proofs.Inverse.{inverse_product}
use Rattle.quotient.specs.Divisor.{HasDivisor}
use Rattle.quotient.specs.Residue.{Residue, sum, scale, constant, power}
use Rattle.quotient.proofs.Operations.{constant_words, scale_words}
use Rattle.quotient.proofs.Reduction.{characteristic, add_is, scale_is, zero_is}
use Rattle.quotient.proofs.Ring.{residue_ring, power_is}
use Rattle.quotient.proofs.Frobenius.{frobenius_scale}
use Rattle.quotient.proofs.SumOfPowers.{scale_word}
use Rattle.quotient.proofs.Sums.{scale_modulus, sum-zero}
use Rattle.galois.specs.Tower.{ArtinSchreier}
use Rattle.galois.proofs.ArtinSchreier.{solution_unique}
use Rattle.galois.proofs.ResidueConstants.{constant_first}

module _ {p n : ℕ} {t : List ℕ} (prime : Prime p) (wt : Words p (suc n) t) {a w : List ℕ} (wa : Words p (suc n) a) (ww : Words p (suc n) w) (first : get_or w 0 0 ≡ 0) where
  abbrev K : CommutativeRing (Residue p (suc n))
  K = residue_ring prime.0 wt

  abbrev A : Residue p (suc n)
  A = (a, wa)

  abbrev W : Residue p (suc n)
  W = (w, ww)

  module _ (b : ℕ) (pos : 0 < b) (below : b < p) (e : power p t w p ≡ sum p w (scale p b a)) where
    abbrev c : ℕ
    c = inverse p b

    -- (1/b)·b = 1
    unit : K.mul (numeral K c) (numeral K b) ≡ K.one
    unit =
        sym (RingLaws.numeral-mul K c b) ∙ sym (numeral-mod K p (c * b) (characteristic prime.0 wt))
        ∙ ap (numeral K) (ap (λ x. x % p) (mul_comm c b) ∙ inverse_product p b prime pos below) ∙ RingLaws.numeral-one K

    -- (w + b·a)/b = w/b + a
    divided : scale p c (sum p w (scale p b a)) ≡ sum p (scale p c w) a
    divided =
        let inner : (K.add W (K.mul (numeral K b) A)).0 ≡ sum p w (scale p b a) = add_is prime.0 wt W (K.mul (numeral K b) A) ∙ ap (sum p w) (scale_is prime.0 wt b A) in
        ap (scale p c) (sym inner) ∙ sym (scale_is prime.0 wt c (K.add W (K.mul (numeral K b) A)))
        ∙ ap (λ x. x.0) (K.mul-add (numeral K c) W (K.mul (numeral K b) A)
        ∙ ap (K.add (K.mul (numeral K c) W)) (sym (K.mul_assoc (numeral K c) (numeral K b) A) ∙ ap (λ x. K.mul x A) unit ∙ RingLaws.one-mul K A))
        ∙ add_is prime.0 wt (K.mul (numeral K c) W) A ∙ ap (λ x. sum p x a) (scale_is prime.0 wt c W)

    pub scaled_solution : ArtinSchreier p (suc n) t a (scale p c w)
    scaled_solution =
        record {
          words = scale_words c ww;
          equation = frobenius_scale prime wt c W ∙ ap (scale p c) e ∙ divided;
          constant-zero = scale_word c ww 0 (omega arith) ∙ ap (λ x. c * x % p) first ∙ ap (λ x. x % p) (mul-zero c) ∙ zero-mod p;
        }

  pub fixed_is_zero : (HasDivisor p t → ⊥) → power p t w p ≡ sum p w (scale p p a) → w ≡ constant (suc n) 0
  fixed_is_zero irreducible e =
      let zero_words : Words p (suc n) (constant (suc n) 0) = constant_words (suc n) (omega (arith, prime.0)) in
      let zero_power : power p t (constant (suc n) 0) p ≡ constant (suc n) 0 =
      ap (λ x. power p t x p) (sym (zero_is prime.0 wt)) ∙ power_is prime.0 wt K.zero p
      ∙ ap (λ x. x.0) (ap (λ x. Ring.power K x p) (sym (RingLaws.numeral-zero K)) ∙ frobenius_numeral K p prime (characteristic prime.0 wt) 0 ∙ RingLaws.numeral-zero K) ∙ zero_is prime.0 wt in
      solution_unique prime wt irreducible {w = constant (suc n) 0}
      record { words = ww; equation = e ∙ ap (sum p w) (scale_modulus wa); constant-zero = first }
      record { words = zero_words; equation = zero_power ∙ sym (sum-zero zero_words); constant-zero = constant_first (suc n) 0 (omega arith) }
