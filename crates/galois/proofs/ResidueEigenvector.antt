-- Eigenvectors of the p-th power among the residues modulo T, as lists and in the ring. A multiple c·v of an eigenvector, c ≠ 0, is one too: so is v divided
-- by its first coefficient that is not zero.
use mathlib.Core.Path.{◌≡◌, sym, ap, ◌∙◌}
use mathlib.Core.List.{List}
use Prim.Native.Nat.{ℕ, ◌≤◌, ◌<◌}
use native.Mathlib.Omega.{arith}
use Rattle.algebra.specs.Prime.{Prime}
use Rattle.algebra.specs.Ring.{CommutativeRing, numeral}
use Rattle.algebra.proofs.RingLaws.{mul_left_comm}
use Rattle.array.specs.Words.{Words}
use Rattle.modular.proofs.Inverse.{inverse_bound}
use Rattle.quotient.specs.Residue.{Residue, scale}
use Rattle.quotient.proofs.Frobenius.{frobenius_scale}
use Rattle.quotient.proofs.Reduction.{zero_is, scale_is}
use Rattle.quotient.proofs.Ring.{residue_ring, power_is}
use Rattle.quotient.proofs.Operations.{residue_path, scale_words}
use Rattle.galois.specs.Eigenvector.{first_non_zero, Eigenvector}
use Rattle.galois.proofs.Eigenvector.{Eigen}
use Rattle.galois.proofs.FirstNonZero.{normalised, inverse_positive, first_non_zero_below, first_non_zero_positive, first_non_zero-constant-zero, first_non_zero-scale, product_nonzero}

module _ {p n : ℕ} {t : List ℕ} (big : 2 ≤ p) (wt : Words p n t) (z : ℕ) where
  abbrev K : CommutativeRing (Residue p n)
  K = residue_ring big wt

  pub ring_eigenvector : {v : List ℕ} → (h : Eigenvector p n t z v) → Eigen K p (numeral K z) (v, h.words)
  ring_eigenvector {v} h =
      record {
        nonzero = λ e. h.not_zero (ap (λ u. u.0) e ∙ zero_is big wt);
        power_is = residue_path (sym (power_is big wt (v, h.words) p) ∙ h.power_is ∙ sym (scale_is big wt z (v, h.words)));
      }

  pub list_eigenvector : (v : Residue p n) → Eigen K p (numeral K z) v → Eigenvector p n t z v.0
  list_eigenvector v h =
      record {
        words = v.1;
        not_zero = λ e. h.nonzero (residue_path (e ∙ sym (zero_is big wt)));
        power_is = power_is big wt v p ∙ ap (λ u. u.0) h.power_is ∙ scale_is big wt z v;
      }

  scale_swap : (c : ℕ) (u : Residue p n) → scale p c (scale p z u.0) ≡ scale p z (scale p c u.0)
  scale_swap c u =
      ap (scale p c) (sym (scale_is big wt z u)) ∙ sym (scale_is big wt c (K.mul (numeral K z) u)) ∙ ap (λ w. w.0) (mul_left_comm K (numeral K c) (numeral K z) u)
      ∙ scale_is big wt z (K.mul (numeral K c) u) ∙ ap (scale p z) (scale_is big wt c u)

module _ {p n : ℕ} {t v : List ℕ} {z : ℕ} (prime : Prime p) (wt : Words p n t) (h : Eigenvector p n t z v) where
  pub multiple_eigenvector : (c : ℕ) → 0 < c → c < p → Eigenvector p n t z (scale p c v)
  multiple_eigenvector c pos below =
      record {
        words = scale_words c h.words;
        not_zero = λ e. product_nonzero prime pos below (first_non_zero v) (first_non_zero_below (omega (arith, prime.0)) h.words)
            (λ o. omega (arith, first_non_zero_positive h.words h.not_zero))
            (sym (first_non_zero-scale prime pos below h.words) ∙ ap first_non_zero e ∙ first_non_zero-constant-zero n);
        power_is = frobenius_scale prime wt c (v, h.words) ∙ ap (scale p c) h.power_is ∙ scale_swap prime.0 wt z c (v, h.words);
      }

  pub normalised_eigenvector : Eigenvector p n t z (normalised p v)
  unfolding normalised
  normalised_eigenvector = multiple_eigenvector _ (inverse_positive prime h.words h.not_zero) (inverse_bound p (first_non_zero v) (omega (arith, prime.0)))
