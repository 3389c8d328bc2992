-- An n-th root v of a constant modulo T: if v^n = b and n divides p − 1, then v^p = b^((p − 1)/n)·v, for every n. So v is an eigenvector of the p-th
-- power with the eigenvalue ζ = b^((p − 1)/n), and no p-th power has to be worked out.
--   RootOfConstant p n t z v b   v is n words, the first that is not zero is 1, v^n = b modulo T, and b^((p − 1)/n) = z modulo p
use mathlib.Core.Path.{◌≡◌, sym, ap, ap₂, ◌∙◌}
use mathlib.Core.List.{List}
use Prim.Native.Nat.{ℕ, suc, ◌+◌, ◌-◌, ◌*◌, ◌/◌, ◌%◌, ◌^◌}
use native.Mathlib.Nat.{div-add-mod'}
use native.Mathlib.Omega.{arith}
use Rattle.algebra.specs.Prime.{Prime}
use Rattle.algebra.specs.Ring.{CommutativeRing}
use Rattle.algebra.specs.Ring as Ring
use Rattle.algebra.proofs.RingLaws.{power-add, power-mul, power-one}
use Rattle.galois.specs.Eigenvector.{first_non_zero, Normalised}
use Rattle.galois.proofs.FirstNonZero.{first_non_zero-constant-zero}
use Rattle.galois.proofs.ResidueConstants.{power-numeral}
use Rattle.roots.proofs.Zeta.{power_of_numeral}
use Rattle.array.specs.Words.{Words}
use Rattle.quotient.specs.Residue.{Residue, constant, power, scale}
use Rattle.quotient.proofs.Reduction.{characteristic, scale_is}
use Rattle.quotient.proofs.Ring.{residue_ring, power_is}

pub record RootOfConstant (p n : ℕ) (t : List ℕ) (z : ℕ) (v : List ℕ) (b : ℕ) : Type 0 where
  pub words : Words p n v
  pub first_non_zero_is : first_non_zero v ≡ 1
  pub power_is : power p t v n ≡ constant n b
  pub eigenvalue_is : b ^ ((p - 1) / n) % p ≡ z

module _ {p n : ℕ} {t : List ℕ} (prime : Prime p) (wt : Words p (suc n) t) where
  abbrev K : CommutativeRing (Residue p (suc n))
  K = residue_ring prime.0 wt

  -- v^(n·q + 1) = (v^n)^q·v = a^q·v
  root_power : (v : Residue p (suc n)) (a q z : ℕ) → power p t v.0 (suc n) ≡ constant (suc n) a → a ^ q % p ≡ z
      → power p t v.0 (suc n * q + 1) ≡ scale p z v.0
  root_power v a q z value e =
      power_is prime.0 wt v (suc n * q + 1)
      ∙ ap (λ u. u.0) (power-add K v (suc n * q) 1
      ∙ ap₂ K.mul
      (power-mul K v (suc n) q ∙ ap (λ u. Ring.power K u q) (power-numeral prime wt v (suc n) a value)
      ∙ power_of_numeral K p prime (characteristic prime.0 wt) a q z e)
      (power-one K v))
      ∙ scale_is prime.0 wt z v

  pub root_normalised : (p - 1) % suc n ≡ 0 → {z : ℕ} {v : List ℕ} {b : ℕ} → RootOfConstant p (suc n) t z v b → Normalised p (suc n) t z v b
  root_normalised divides {z} {v} {b} h =
      let exponent : suc n * ((p - 1) / suc n) + 1 ≡ p = omega (arith, div-add-mod' (p - 1) (suc n), prime.0) in
      record {
        eigenvector = record {
          words = h.words;
          not_zero = λ e. let o : ◌≡◌ {A = ℕ} 1 0 = sym h.first_non_zero_is ∙ ap first_non_zero e ∙ first_non_zero-constant-zero (suc n) in omega arith;
          power_is = ap (power p t v) (sym exponent) ∙ root_power (v, h.words) b ((p - 1) / suc n) z h.power_is h.eigenvalue_is;
        };
        first_non_zero_is = h.first_non_zero_is;
        power_is = h.power_is;
      }
