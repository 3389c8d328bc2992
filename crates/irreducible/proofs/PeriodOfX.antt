-- In the field of the residues modulo a T of degree n without proper divisors, the period of the residue of X under u ↦ u^p is n: every residue satisfies
-- u^(p^n) = u, and X^(p^k) = X for a 0 < k < n would give u^(p^k) = u for all p^n residues u, which is too many.
use mathlib.Core.Path.{◌≡◌, sym, ap, ◌∙◌}
use mathlib.Core.List.{List}
use Prim.Native.Nat.{ℕ, zero, suc, ◌+◌, ◌-◌, ◌^◌, ◌≤◌, ◌<◌}
use native.Mathlib.Nat.{pow-zero, one-le-pow}
use native.Mathlib.Omega.{arith}
use lib.ListN.{length}
use Rattle.algebra.specs.Prime.{Prime}
use Rattle.algebra.specs.Ring.{CommutativeRing, Field, power}
use Rattle.algebra.proofs.FieldLaws.{mul_left_cancel}
use Rattle.algebra.proofs.Lists.{member_all}
use Rattle.algebra.proofs.PowerRoots.{power_roots_at_most}
use Rattle.algebra.proofs.PrimePowers.{power_doubles}
use Rattle.algebra.proofs.RingLaws.{power-suc}
use Rattle.array.specs.Words.{Words}
use Rattle.quotient.specs.Divisor.{HasDivisor}
use Rattle.quotient.specs.Residue.{Residue}
use Rattle.quotient.proofs.Evaluation.{evaluate}
use Rattle.quotient.proofs.Field.{residue_field, nonzero_residues, nonzero_residues_lem, nonzero_residues-length}
use Rattle.quotient.proofs.Conjugates.{evaluate_conjugate}
use Rattle.quotient.proofs.Reduction.{characteristic, reduce, reduce_residue}
use Rattle.quotient.proofs.Ring.{residue_ring, x_residue}

module _ {p n : ℕ} {t : List ℕ} (prime : Prime p) (wt : Words p (suc n) t) where
  abbrev K : CommutativeRing (Residue p (suc n))
  K = residue_ring prime.0 wt

  abbrev x : Residue p (suc n)
  x = x_residue prime.0 wt

  -- X^(p^k) = X makes u^(p^k) = u for every residue u = u(X)
  pub all_fixed : (k : ℕ) → power K x (p ^ k) ≡ x → (u : Residue p (suc n)) → power K u (p ^ k) ≡ u
  unfolding reduce
  all_fixed k e u =
      let value : evaluate K u.0 x ≡ u = reduce_residue prime.0 wt u in
      ap (λ v. power K v (p ^ k)) (sym value) ∙ evaluate_conjugate K prime (characteristic prime.0 wt) u.0 x k ∙ ap (evaluate K u.0) e ∙ value

  module _ (irreducible : HasDivisor p t → ⊥) where
    abbrev F : Field (Residue p (suc n))
    F = residue_field prime wt irreducible

    size_positive : (k : ℕ) → suc (p ^ k - 1) ≡ p ^ k
    size_positive k = omega (arith, one-le-pow k p (omega (arith, prime.0)))

    -- u^(p^k − 1) = 1 for every u other than 0 would make p^n − 1 roots
    pub no_lower_period : (k : ℕ) → 0 < k → k < suc n → power K x (p ^ k) ≡ x → ⊥
    unfolding residue_field
    no_lower_period k pos less e = omega (arith, many, few, nonzero_residues-length prime wt irreducible, size_positive k, size_positive (suc n))
      where
        root : (u : Residue p (suc n)) → (u ≡ K.zero → ⊥) → power K u (p ^ k - 1) ≡ K.one
        root u h =
            mul_left_cancel F u (power K u (p ^ k - 1)) K.one h
            (sym (power-suc K u (p ^ k - 1)) ∙ ap (power K u) (size_positive k) ∙ all_fixed k e u ∙ sym (K.mul-one u))

        size : (j : ℕ) → 0 < j → 2 ≤ p ^ j
        size zero h = absurd (omega arith)
        size (suc j) h = omega (arith, power_doubles p 0 j prime.0 (omega arith), pow-zero p)

        few : length (nonzero_residues prime wt irreducible) ≤ p ^ k - 1
        few =
            power_roots_at_most F (p ^ k - 1) K.one (nonzero_residues prime wt irreducible) (omega (arith, size k pos)) (nonzero_residues_lem prime wt irreducible).distinct
            (member_all _ (nonzero_residues prime wt irreducible) (λ u m. root u ((nonzero_residues_lem prime wt irreducible).nonzero u m)))

        many : p ^ k + p ^ k ≤ p ^ suc n
        many = power_doubles p k n prime.0 (omega arith)
