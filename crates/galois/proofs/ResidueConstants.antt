-- The constants among the residues modulo T: the constant c as a list is c·1 in the ring, the p-th power fixes it, and 1 ≠ 0.
use mathlib.Core.Path.{◌≡◌, refl, sym, ap, ◌∙◌, subst}
use mathlib.Core.List.{List, head-eq_of_cons-eq}
use Prim.Native.Nat.{ℕ, zero, suc, ◌≤◌, ◌<◌}
use native.Mathlib.Nat.{mod-eq_of_lt}
use native.Mathlib.Omega.{arith}
use lib.ListN.{get_or}
use Rattle.algebra.specs.Prime.{Prime}
use Rattle.algebra.specs.Ring.{CommutativeRing, numeral}
use Rattle.algebra.specs.Ring as Ring
use Rattle.algebra.proofs.Frobenius.{frobenius_numeral}
use Rattle.algebra.proofs.RingLaws.{add-zero, mul-zero}
use Rattle.array.specs.Words.{Words, more}
use Rattle.quotient.specs.Residue.{Residue, constant, power}
use Rattle.quotient.proofs.Evaluation.{evaluate, evaluate-cons}
use Rattle.quotient.proofs.Field.{one_not_zero}
use Rattle.quotient.proofs.Reduction.{characteristic, zero_is, one_is}
use Rattle.quotient.proofs.Ring.{residue_ring, power_is, numeral_is}
use Rattle.quotient.proofs.Substitution.{evaluate_zeros}
use Rattle.quotient.proofs.Operations.{residue_path, power_words}

pub constant_first : (n c : ℕ) → 1 ≤ n → get_or (constant n c) 0 0 ≡ c
unfolding constant
constant_first zero c low = absurd (omega arith)
constant_first (suc n) c low = refl

pub constant_injective : (n a b : ℕ) → constant (suc n) a ≡ constant (suc n) b → a ≡ b
unfolding constant
constant_injective n a b e = head-eq_of_cons-eq e

constant_below : {p n c : ℕ} → Words p (suc n) (constant (suc n) c) → c < p
unfolding constant
constant_below (more h w) = h

pub evaluate-constant : {A : Type 0} (R : CommutativeRing A) (n c : ℕ) (a : A) → evaluate R (constant (suc n) c) a ≡ numeral R c
unfolding constant
evaluate-constant R n c a = simp (evaluate-cons, evaluate_zeros, mul-zero, add-zero)

module _ {p n : ℕ} {t : List ℕ} (prime : Prime p) (wt : Words p (suc n) t) where
  abbrev K : CommutativeRing (Residue p (suc n))
  K = residue_ring prime.0 wt

  pub ring_proper : K.one ≡ K.zero → ⊥
  ring_proper e = one_not_zero n (sym (one_is prime.0 wt) ∙ ap (λ u. u.0) e ∙ zero_is prime.0 wt)

  pub fixed_constant : (c : ℕ) → Ring.power K (numeral K c) p ≡ numeral K c
  fixed_constant c = frobenius_numeral K p prime (characteristic prime.0 wt) c

  constant_is : (c : ℕ) → c < p → (numeral K c).0 ≡ constant (suc n) c
  constant_is c l = numeral_is prime.0 wt c ∙ ap (constant (suc n)) (mod-eq_of_lt l)

  -- v^k = a on lists and in the ring
  pub constant-power_is : (v : Residue p (suc n)) (k a : ℕ) → a < p → Ring.power K v k ≡ numeral K a → power p t v.0 k ≡ constant (suc n) a
  constant-power_is v k a below e = power_is prime.0 wt v k ∙ ap (λ u. u.0) e ∙ constant_is a below

  -- a constant that is a residue is below p
  pub constant_is_word : (v : Residue p (suc n)) (k a : ℕ) → power p t v.0 k ≡ constant (suc n) a → a < p
  constant_is_word v k a e = constant_below (subst (Words p (suc n)) e (power_words prime.0 wt v.1 k))

  pub power-numeral : (v : Residue p (suc n)) (k a : ℕ) → power p t v.0 k ≡ constant (suc n) a → Ring.power K v k ≡ numeral K a
  power-numeral v k a e = residue_path (sym (power_is prime.0 wt v k) ∙ e ∙ sym (constant_is a (constant_is_word v k a e)))
