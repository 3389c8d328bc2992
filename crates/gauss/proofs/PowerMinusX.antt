-- The polynomial X^N − X: s is a root exactly when s^N = s. So for N = p^n a D without proper divisors divides it exactly when X^(p^n) = X modulo D, that is,
-- when the period of X modulo D, which is the degree of D, divides n.
--   power_minus_x p k   the lower words of X^(k + 2) − X: 0, p − 1, and k zeros
use mathlib.Core.Path.{◌≡◌, sym, ap, ap₂, ◌∙◌}
use mathlib.Core.List.{List, ◌∷◌}
use Prim.Native.Nat.{ℕ, suc, ◌*◌, ◌-◌, ◌/◌, ◌%◌, ◌^◌, ◌≤◌}
use native.Mathlib.Nat.{div-add-mod, pow-zero}
use native.Mathlib.Omega.{arith}
use lib.ListN.{replicate}
use Rattle.algebra.specs.Prime.{Prime}
use Rattle.algebra.specs.Ring.{CommutativeRing, numeral, power}
use Rattle.algebra.proofs.Period.{period_multiple, period_divides}
use Rattle.algebra.proofs.PrimePowers.{power_doubles}
use Rattle.algebra.proofs.RingLaws.{add_comm, add_left_cancel, add-zero, zero-add, mul-add, mul-one, mul-zero, numeral-suc, numeral-zero}
use Rattle.array.specs.Words.{Words, more}
use Rattle.array.proofs.Words.{words_length, zeros_words}
use Rattle.quotient.specs.Divisor.{Divides, HasDivisor, monic}
use Rattle.quotient.specs.Residue.{Residue}
use Rattle.quotient.proofs.Divisor.{divides_zero, zero_divides}
use Rattle.quotient.proofs.Evaluation.{evaluate, evaluate-cons, evaluate-monic}
use Rattle.quotient.proofs.Field.{power_of_size}
use Rattle.quotient.proofs.Reduction.{characteristic, reduce}
use Rattle.quotient.proofs.Ring.{residue_ring, x_residue}
use Rattle.quotient.proofs.Substitution.{evaluate_zeros}
use Rattle.irreducible.proofs.PeriodOfX.{no_lower_period}

pub power_minus_x : ℕ → ℕ → List ℕ
power_minus_x p k = 0 ∷ (p - 1) ∷ replicate k 0

-- p^(n + 1) is at least 2
pub size_is : (p n : ℕ) → 2 ≤ p → suc (suc (p ^ suc n - 2)) ≡ p ^ suc n
size_is p n big = omega (arith, power_doubles p 0 n big (omega arith), pow-zero p)

pub power_minus_x_words : {p : ℕ} → 2 ≤ p → (k : ℕ) → Words p (suc (suc k)) (power_minus_x p k)
unfolding power_minus_x
power_minus_x_words {p} big k = more {a = 0} (omega arith) (more {a = p - 1} (omega arith) (zeros_words k (omega arith)))

module _ {A : Type 0} (R : CommutativeRing A) {p : ℕ} (big : 2 ≤ p) (vanishes : numeral R p ≡ R.zero) (k : ℕ) (s : A) where
  -- the lower words are −X
  lower_words : R.add s (evaluate R (power_minus_x p k) s) ≡ R.zero
  unfolding power_minus_x
  lower_words =
      let whole : suc (p - 1) ≡ p = omega arith in
      ap₂ R.add (sym (mul-one R s)) (simp (evaluate-cons, evaluate_zeros, numeral-zero, mul-zero, add-zero, zero-add))
      ∙ sym (mul-add R s R.one (numeral R (p - 1))) ∙ ap (R.mul s) (sym (numeral-suc R (p - 1)) ∙ ap (numeral R) whole ∙ vanishes) ∙ mul-zero R s

  value_is : evaluate R (monic (power_minus_x p k)) s ≡ R.add (power R s (suc (suc k))) (evaluate R (power_minus_x p k) s)
  value_is =
      evaluate-monic R p vanishes s (power_minus_x p k) ∙ ap (λ i. R.add (power R s i) (evaluate R (power_minus_x p k) s)) (words_length (power_minus_x_words big k))

  pub fixed_root : power R s (suc (suc k)) ≡ s → evaluate R (monic (power_minus_x p k)) s ≡ R.zero
  fixed_root e = value_is ∙ ap (λ y. R.add y (evaluate R (power_minus_x p k) s)) e ∙ lower_words

  root_fixed : evaluate R (monic (power_minus_x p k)) s ≡ R.zero → power R s (suc (suc k)) ≡ s
  root_fixed e =
      let w : A = evaluate R (power_minus_x p k) s in
      add_left_cancel R w (power R s (suc (suc k))) s
      (add_comm R w (power R s (suc (suc k))) ∙ sym value_is ∙ e ∙ sym lower_words ∙ add_comm R s w)

module _ {p m : ℕ} {d : List ℕ} (prime : Prime p) (wd : Words p (suc m) d) (n k : ℕ) (size : suc (suc k) ≡ p ^ n) where
  abbrev K : CommutativeRing (Residue p (suc m))
  K = residue_ring prime.0 wd

  abbrev x : Residue p (suc m)
  x = x_residue prime.0 wd

  -- modulo a divisor of X^(p^n) − X
  pub divides_fixed : Divides p d (power_minus_x p k) → power K x (p ^ n) ≡ x
  unfolding reduce
  divides_fixed h =
      ap (power K x) (sym size)
      ∙ root_fixed K prime.0 (characteristic prime.0 wd) k x (divides_zero prime.0 wd (power_minus_x p k) h)

  fixed_divides : power K x (p ^ n) ≡ x → Divides p d (power_minus_x p k)
  unfolding reduce
  fixed_divides e =
      zero_divides prime.0 wd (power_minus_x p k) (fixed_root K prime.0 (characteristic prime.0 wd) k x (ap (power K x) size ∙ e))

  module _ (irreducible : HasDivisor p d → ⊥) where
    pub degree_divides : Divides p d (power_minus_x p k) → n % suc m ≡ 0
    degree_divides h =
        period_divides K p x (suc m) (power_of_size prime wd irreducible x) (omega arith) (no_lower_period prime wd irreducible) n (divides_fixed h)

    pub divides_degree : n % suc m ≡ 0 → Divides p d (power_minus_x p k)
    divides_degree h =
        let whole : n ≡ suc m * (n / suc m) = omega (arith, div-add-mod n (suc m)) in
        fixed_divides (ap (λ i. power K x (p ^ i)) whole ∙ period_multiple K p x (suc m) (power_of_size prime wd irreducible x) (n / suc m))
