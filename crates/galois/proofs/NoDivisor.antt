-- An eigenvector shows that T has no divisor of degree 1 to n − 1: let α^p = ζ·α with ζ of order n, and α^n a constant other than 0. A divisor
-- of T has itself a divisor D without proper divisors, of a degree d < n; modulo D the image of α is not 0, so ζ^d = 1 in the field of the
-- residues modulo D, against the order of ζ.
use mathlib.Core.Path.{◌≡◌, sym, ap, ◌∙◌}
use mathlib.Core.List.{List}
use Prim.Native.Nat.{ℕ, zero, suc, ◌≤◌, ◌<◌}
use native.Mathlib.Nat.{pos_of_ne-zero}
use native.Mathlib.Omega.{arith}
use Rattle.algebra.specs.Prime.{Prime}
use Rattle.algebra.specs.Ring.{CommutativeRing, numeral}
use Rattle.algebra.specs.Ring as Ring
use Rattle.algebra.proofs.RingLaws.{power_of_zero, numeral-zero, numeral-one}
use Rattle.quotient.specs.Divisor.{Divides, HasDivisor}
use Rattle.array.specs.Words.{Words}
use Rattle.quotient.specs.Residue.{Residue, constant, power}
use Rattle.quotient.proofs.Descent.{irreducible_divisor}
use Rattle.quotient.proofs.Divisor.{divides_transitive, reduction_homomorphism}
use Rattle.quotient.proofs.Field.{residue_field, nonzero_residues, nonzero_residues_lem}
use Rattle.quotient.proofs.Reduction.{characteristic, reduce}
use Rattle.quotient.proofs.Ring.{residue_ring}
use Rattle.quotient.proofs.Substitution.{Homomorphism, homomorphism_numeral, homomorphism_power}
use Rattle.array.proofs.Words.{words_length}
use Rattle.roots.specs.Roots.{OrderModulo}
use Rattle.galois.specs.Eigenvector.{Eigenvector}
use Rattle.algebra.proofs.Constants.{numeral_nonzero}
use Rattle.galois.proofs.Eigenvector.{Eigen, eigenvalue_period, eigen_not_nilpotent}
use Rattle.galois.proofs.Irreducible.{nonzero_count}
use Rattle.galois.proofs.ResidueEigenvector.{ring_eigenvector}
use Rattle.galois.proofs.ResidueConstants.{ring_proper, fixed_constant, constant_is_word, power-numeral}
use Rattle.roots.proofs.Zeta.{constant_order, power_of_numeral}

-- a T with a proper divisor has one that has none itself
pub without_divisor : {p n : ℕ} {t : List ℕ} → 2 ≤ p → Words p (suc n) t
    → ((m : ℕ) (d : List ℕ) → Words p (suc m) d → suc m < suc n → Divides p d t → (HasDivisor p d → ⊥) → ⊥) → HasDivisor p t → ⊥
without_divisor big wt none (zero, low, high, d, wd, h) = absurd (omega arith)
without_divisor {p} {t = t} big wt none (suc i, low, high, d, wd, h) =
    let (m, d', le, wd', h', irreducible) = irreducible_divisor p i d big wd in
    none m d' wd' (omega (arith, words_length wt)) (divides_transitive big wd' d t h' h) irreducible

module _ {A B : Type 0} {R : CommutativeRing A} {S : CommutativeRing B} {f : A → B} (h : Homomorphism R S f) where
  -- the image of an eigenvector is an eigenvector if its n-th power is not 0
  eigen_image : (p z n : ℕ) (a : A) → Eigen R p (numeral R z) a → (f (Ring.power R a (suc n)) ≡ S.zero → ⊥) → Eigen S p (numeral S z) (f a)
  eigen_image p z n a e nz =
      record {
        nonzero = λ o. nz (homomorphism_power h a (suc n) ∙ ap (λ x. Ring.power S x (suc n)) o ∙ power_of_zero S n);
        power_is = sym (homomorphism_power h a p) ∙ ap f e.power_is ∙ h.mul (numeral R z) a ∙ ap (λ x. S.mul x (f a)) (homomorphism_numeral h z);
      }

module _ {p n : ℕ} {t : List ℕ} (prime : Prime p) (wt : Words p (suc n) t) (z : ℕ) (order : OrderModulo p (suc n) z) {v : List ℕ}
    (eigenvector : Eigenvector p (suc n) t z v) where
  abbrev K : CommutativeRing (Residue p (suc n))
  K = residue_ring prime.0 wt

  abbrev α : Residue p (suc n)
  α = (v, eigenvector.words)

  module _ (a : ℕ) (value : power p t v (suc n) ≡ constant (suc n) a) where
    -- a constant that is the n-th power of α is not 0
    pub constant_positive : 0 < a
    constant_positive =
        pos_of_ne-zero
        (λ e. eigen_not_nilpotent K p (numeral K z) (fixed_constant prime wt z) prime.0 α (ring_eigenvector prime.0 wt z eigenvector) (suc n)
        (power_of_numeral K p prime (characteristic prime.0 wt) z (suc n) 1 order.0 ∙ numeral-one K)
        (power-numeral prime wt α (suc n) a value ∙ ap (numeral K) e ∙ numeral-zero K))

    -- the contradiction modulo a divisor D without proper divisors
    no_small_divisor : {m : ℕ} {d : List ℕ} → Words p (suc m) d → suc m < suc n → Divides p d t → (HasDivisor p d → ⊥) → ⊥
    unfolding residue_field
    no_small_divisor {m} {d} wd less divides irreducible =
        let L : CommutativeRing (Residue p (suc m)) = residue_ring prime.0 wd in
        let vanishes : numeral L p ≡ L.zero = characteristic prime.0 wd in
        let proper : L.one ≡ L.zero → ⊥ = ring_proper prime wd in
        let φ : Homomorphism K L (λ u. reduce prime.0 wd u.0) = reduction_homomorphism prime.0 wd wt divides in
        let power_image : reduce prime.0 wd (Ring.power K α (suc n)).0 ≡ numeral L a =
        ap (λ u. reduce prime.0 wd u.0) (power-numeral prime wt α (suc n) a value) ∙ homomorphism_numeral φ a in
        let image : Eigen L p (numeral L z) (reduce prime.0 wd v) =
        eigen_image φ p z n α (ring_eigenvector prime.0 wt z eigenvector)
        (λ e. numeral_nonzero L p prime vanishes proper a constant_positive (constant_is_word prime wt α (suc n) a value) (sym power_image ∙ e)) in
        (constant_order L p prime vanishes proper (suc n) z order).least (suc m) (omega arith) less
        (eigenvalue_period (residue_field prime wd irreducible) p prime vanishes (numeral L z) (nonzero_residues prime wd irreducible)
        (nonzero_residues_lem prime wd irreducible) (suc m) (nonzero_count prime wd irreducible) (fixed_constant prime wd z) (reduce prime.0 wd v) image)

    pub no_divisor : HasDivisor p t → ⊥
    no_divisor = without_divisor prime.0 wt (λ m d wd. no_small_divisor wd)
