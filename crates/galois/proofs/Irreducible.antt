-- Modulo a T without a divisor of degree 1 to n − 1, and for ζ of order n modulo p: the p-th power has an eigenvector with the eigenvalue ζ,
-- all others are multiples of it, its n-th power is a constant, and its powers are independent. These are the laws of eigenvectors in the
-- field of the residues modulo T, read on lists.
use mathlib.Core.Path.{◌≡◌, sym, ap, ◌∙◌}
use mathlib.Core.List.{List}
use Prim.Native.Nat.{ℕ, suc, ◌-◌, ◌*◌, ◌%◌, ◌^◌, ◌<◌}
use native.Mathlib.Nat.{one-le-pow}
use native.Mathlib.Omega.{arith}
use lib.ListN.{length}
use Rattle.algebra.specs.Prime.{Prime}
use Rattle.algebra.specs.Ring.{CommutativeRing, Field, numeral}
use Rattle.algebra.specs.Ring as Ring
use Rattle.algebra.proofs.RingLaws.{power_of_zero}
use Rattle.algebra.proofs.Order.{HasOrder}
use Rattle.quotient.specs.Divisor.{HasDivisor}
use Rattle.array.specs.Words.{Words}
use Rattle.quotient.specs.Residue.{Residue, scale, constant, power}
use Rattle.quotient.proofs.Field.{residue_field, nonzero_residues, nonzero_residues_lem, nonzero_residues-length}
use Rattle.quotient.proofs.Reduction.{characteristic, scale_is}
use Rattle.quotient.proofs.Ring.{residue_ring}
use Rattle.quotient.proofs.Substitution.{substitute_is}
use Rattle.quotient.proofs.Operations.{residue_path}
use Rattle.galois.specs.Eigenvector.{Eigenvector}
use Rattle.roots.specs.Roots.{OrderModulo}
use Rattle.galois.specs.Express.{Independent}
use Rattle.galois.proofs.Eigenvector.{Eigen, eigen_exists, eigen_multiple, eigen_constant, eigen_constant_root}
use Rattle.galois.proofs.Independence.{Apart, evaluate_injective, eigen_apart}
use Rattle.galois.proofs.ResidueEigenvector.{ring_eigenvector, list_eigenvector}
use Rattle.galois.proofs.ResidueConstants.{ring_proper, fixed_constant, constant-power_is, power-numeral}
use Rattle.roots.proofs.Zeta.{constant_order, power_modulo}

module _ {p n : ℕ} {t : List ℕ} (prime : Prime p) (wt : Words p (suc n) t) (irreducible : HasDivisor p t → ⊥) where
  abbrev F : Field (Residue p (suc n))
  F = residue_field prime wt irreducible

  abbrev K : CommutativeRing (Residue p (suc n))
  K = residue_ring prime.0 wt

  abbrev vanishes : numeral K p ≡ K.zero
  vanishes = characteristic prime.0 wt

  pub nonzero_count : suc (length (nonzero_residues prime wt irreducible)) ≡ p ^ suc n
  nonzero_count = omega (arith, nonzero_residues-length prime wt irreducible, one-le-pow (suc n) p (omega arith))

  -- n distinct conjugates give independent powers
  pub conjugates_independent : (u : Residue p (suc n)) → Apart K p u (suc n) → Independent p (suc n) t u.0
  unfolding residue_field
  conjugates_independent u apart f g wf wg e =
      evaluate_injective F p prime vanishes u (suc n) apart wf wg (residue_path (sym (substitute_is prime.0 wt u f) ∙ e ∙ substitute_is prime.0 wt u g))

  module _ (z : ℕ) (order : OrderModulo p (suc n) z) where
    abbrev ζ : Residue p (suc n)
    ζ = numeral K z

    order_is : HasOrder K ζ (suc n)
    order_is = constant_order K p prime vanishes (ring_proper prime wt) (suc n) z order

    nonzero : ζ ≡ K.zero → ⊥
    nonzero e = ring_proper prime wt (sym order_is.period ∙ ap (λ x. Ring.power K x (suc n)) e ∙ power_of_zero K n)

    pub eigenvector_exists : (v : List ℕ) × Eigenvector p (suc n) t z v
    unfolding residue_field
    eigenvector_exists =
        let (v, h) =
        eigen_exists F p prime vanishes ζ (nonzero_residues prime wt irreducible) (nonzero_residues_lem prime wt irreducible) (suc n) nonzero_count
        (fixed_constant prime wt z) order_is.period nonzero in
        (v.0, list_eigenvector prime.0 wt z v h)

    module _ {v : List ℕ} (eigenvector : Eigenvector p (suc n) t z v) where
      abbrev α : Residue p (suc n)
      α = (v, eigenvector.words)

      abbrev eigen : Eigen K p ζ α
      eigen = ring_eigenvector prime.0 wt z eigenvector

      pub power_is_constant : (a : ℕ) × (0 < a) × (a < p) × (power p t v (suc n) ≡ constant (suc n) a)
      unfolding residue_field
      power_is_constant =
          let (a, pos, below, e) = eigen_constant F p prime vanishes ζ α eigen (suc n) order_is.period in
          (a, pos, below, constant-power_is prime wt α (suc n) a below e)

      -- a^m = α^(n·m) = ζ for n·m = p − 1
      pub constant_root : (m a : ℕ) → suc n * m ≡ p - 1 → z < p → power p t v (suc n) ≡ constant (suc n) a → a ^ m % p ≡ z
      unfolding residue_field
      constant_root m a product below e =
          power_modulo K p prime vanishes (ring_proper prime wt) a m z below (eigen_constant_root F p prime vanishes ζ α eigen (suc n) m a product (power-numeral prime wt α (suc n) a e))

      pub eigenvector_independent : Independent p (suc n) t v
      unfolding residue_field
      eigenvector_independent = conjugates_independent α (eigen_apart F p prime vanishes α ζ (fixed_constant prime wt z) eigen (suc n) order_is)

  pub eigenvector_multiple : (z : ℕ) {v u : List ℕ} → Eigenvector p (suc n) t z v → Eigenvector p (suc n) t z u → (c : ℕ) × (0 < c) × (c < p) × (u ≡ scale p c v)
  unfolding residue_field
  eigenvector_multiple z {v} {u} hv hu =
      let (c, pos, below, e) =
      eigen_multiple F p prime vanishes (numeral K z) (v, hv.words) (ring_eigenvector prime.0 wt z hv) (u, hu.words) (ring_eigenvector prime.0 wt z hu) in
      (c, pos, below, ap (λ w. w.0) e ∙ scale_is prime.0 wt c (v, hv.words))
