-- Eigenvectors on lists, for every degree n ≥ 1: one vector v ≠ 0 with v^p = ζ·v modulo T decides whether T has a proper divisor, and gives α.
--   EigenvectorLaws p n   what holds in degree n: v^n is a constant exactly if T has no proper divisor (so 6 and 7 are decided); if only 0 satisfies the
--                         equation, T has one; v divided by its first coefficient that is not zero is an eigenvector too; the constant v^n has the
--                         power ζ with exponent (p − 1)/n; an n-th root of such a constant is an eigenvector; and α is a multiple of v
use mathlib.Core.Path.{◌≡◌}
use mathlib.Core.Bool.{true, false}
use mathlib.Core.List.{List}
use Prim.Native.Nat.{ℕ, zero, suc, ◌-◌, ◌*◌, ◌%◌, ◌^◌, ◌≤◌, ◌<◌}
use native.Mathlib.Omega.{arith}
use Rattle.algebra.specs.Prime.{Prime}
use Rattle.algebra.specs.Search.{Smallest}
use Rattle.quotient.specs.Divisor.{HasDivisor}
use Rattle.quotient.specs.DivisorTest.{has_divisor}
use Rattle.array.specs.Words.{Words}
use Rattle.quotient.specs.Residue.{constant, power, scale}
use Rattle.quotient.proofs.Decision.{has_divisor_test, has_divisor?, irreducible_test}
use Rattle.roots.specs.Roots.{OrderModulo, Radicand}
use Rattle.galois.specs.Eigenvector.{alpha, Eigenvector, Normalised}
use Rattle.galois.proofs.Alpha.{alpha_found}
use Rattle.galois.proofs.Generates.{constant_radicand}
use Rattle.galois.proofs.Irreducible.{eigenvector_exists, power_is_constant}
use Rattle.galois.proofs.NoDivisor.{no_divisor}
use Rattle.galois.proofs.Root.{RootOfConstant, root_normalised}

pub record EigenvectorLaws (p n : ℕ) : Type 0 where
  pub constant_decides : (t : List ℕ) → Words p n t → (z : ℕ) → OrderModulo p n z → (v : List ℕ) → Eigenvector p n t z v
      → (b : ℕ) → power p t v n ≡ constant n b → has_divisor p t ≡ false
  pub other_decides : (t : List ℕ) → Words p n t → (z : ℕ) → OrderModulo p n z → (v : List ℕ) → Eigenvector p n t z v
      → ((b : ℕ) → power p t v n ≡ constant n b → ⊥) → has_divisor p t ≡ true
  pub trivial_kernel_decides : (t : List ℕ) → Words p n t → (z : ℕ) → OrderModulo p n z
      → ((v : List ℕ) → Words p n v → power p t v p ≡ scale p z v → v ≡ constant n 0) → has_divisor p t ≡ true
  pub radicand_of : (p - 1) % n ≡ 0 → (t : List ℕ) → Words p n t → (z : ℕ) → z < p → OrderModulo p n z → (v : List ℕ) → Eigenvector p n t z v
      → (b : ℕ) → power p t v n ≡ constant n b → Radicand p n z b
  pub root_eigenvector : (p - 1) % n ≡ 0 → (t : List ℕ) → Words p n t → (z : ℕ) (v : List ℕ) (b : ℕ) → RootOfConstant p n t z v b → Normalised p n t z v b
  pub alpha_of : (t : List ℕ) → Words p n t → (z : ℕ) → OrderModulo p n z → (v : List ℕ) (b : ℕ) → Normalised p n t z v b
      → (a k : ℕ) → Smallest (λ c. c ^ n * b % p ≡ a) p k → alpha p n t z a ≡ scale p k v

module _ (p : ℕ) (prime : Prime p) (n : ℕ) (t : List ℕ) (wt : Words p (suc n) t) (z : ℕ) (order : OrderModulo p (suc n) z) where
  by_power : (v : List ℕ) → Eigenvector p (suc n) t z v → ((b : ℕ) → power p t v (suc n) ≡ constant (suc n) b → ⊥) → Dec (HasDivisor p t) → has_divisor p t ≡ true
  by_power v h other (yes d) = has_divisor_test prime.0 wt d
  by_power v h other (no d) = let (b, _, _, e) = power_is_constant prime wt d z order h in absurd (other b e)

  by_kernel : ((v : List ℕ) → Words p (suc n) v → power p t v p ≡ scale p z v → v ≡ constant (suc n) 0) → Dec (HasDivisor p t) → has_divisor p t ≡ true
  by_kernel trivial (yes d) = has_divisor_test prime.0 wt d
  by_kernel trivial (no d) =
      let (v, h) = eigenvector_exists prime wt d z order in
      absurd (h.not_zero (trivial v h.words h.power_is))

pub eigenvector_laws : (p : ℕ) → Prime p → (n : ℕ) → 1 ≤ n → EigenvectorLaws p n
eigenvector_laws p prime zero low = absurd (omega arith)
eigenvector_laws p prime (suc n) low =
    record {
      constant_decides = λ t wt z order v h b e. irreducible_test prime.0 wt (no_divisor prime wt z order h b e);
      other_decides = λ t wt z order v h other. by_power p prime n t wt z order v h other (has_divisor? prime.0 wt);
      trivial_kernel_decides = λ t wt z order trivial. by_kernel p prime n t wt z order trivial (has_divisor? prime.0 wt);
      radicand_of = λ divides t wt z below order v h b e. constant_radicand prime wt z order h b e divides below;
      root_eigenvector = λ divides t wt z v b h. root_normalised prime wt divides h;
      alpha_of = λ t wt z order v b h a k least. alpha_found prime wt (no_divisor prime wt z order h.eigenvector b h.power_is) z h a k least;
    }
