-- Eigenvectors of the p-th power in a field with p·1 = 0: α ≠ 0 with α^p = z·α, that is, α^(p − 1) = z.
-- With p^n elements one exists if z^n = 1 and z^p = z: the equation is solvable if z^m = 1 for m = (p^n − 1)/(p − 1) = 1 + p + … + p^(n − 1),
-- and z^m = z^n. Two of them differ by a constant factor, since the quotient γ has γ^(p − 1) = 1; likewise α^n is a constant. Conversely
-- z^d = 1 in a field with p^d elements, since α = α^(p^d) = z^d·α.
--   Eigen R p z a       a ≠ 0 and a^p = z·a
--   geometric_sum p k   1 + p + … + p^(k − 1)
use mathlib.Core.Path.{◌≡◌, refl, sym, ap, ap₂, ◌∙◌, ◌≡⟨◌⟩◌, ◌∎}
use mathlib.Core.List.{List}
use Prim.Native.Nat.{ℕ, zero, suc, ◌+◌, ◌-◌, ◌*◌, ◌^◌, ◌≤◌, ◌<◌}
use native.Mathlib.Nat.{pow-zero, pow-suc, pow-succ', one-le-pow, le_dest, mul_comm as ℕ·mul-comm}
use native.Mathlib.Omega.{arith}
use lib.ListN.{length}
use Rattle.algebra.specs.Prime.{Prime}
use Rattle.algebra.specs.Ring.{CommutativeRing, Field, numeral, power}
use Rattle.algebra.proofs.RingLaws.{mul_assoc, mul_left_comm, one-mul, zero-mul, power_zero, power-one, power-suc, power-add, power-mul, power_product, power_of_zero}
use Rattle.algebra.proofs.FieldLaws.{mul_left_cancel, power-ne-zero}
use Rattle.algebra.proofs.Units.{Units, power_units}
use Rattle.algebra.proofs.PowerRoots.{power_root}
use Rattle.algebra.proofs.Constants.{power_pred, power_from_pred, constant_of_root}

unfoldable pub geometric_sum : ℕ → ℕ → ℕ
geometric_sum p zero = 0
geometric_sum p (suc k) = suc (p * geometric_sum p k)

-- (p − 1)·(1 + p + … + p^(k − 1)) = p^k − 1
geometric_sum_lem : (q k : ℕ) → suc (q * geometric_sum (suc q) k) ≡ suc q ^ k
unfolding geometric_sum
geometric_sum_lem q zero = omega (arith, pow-zero (suc q))
geometric_sum_lem q (suc k) = expand (geometric_sum (suc q) k) ∙ ap (λ x. x * suc q) (geometric_sum_lem q k) ∙ sym (pow-suc (suc q) k)
  where
    expand : (g : ℕ) → suc (q * suc (suc q * g)) ≡ suc (q * g) * suc q
    expand g = omega arith

exponent_le_power : (p n : ℕ) → 2 ≤ p → n ≤ p ^ n
exponent_le_power p zero big = omega arith
exponent_le_power p (suc n) big =
    let (r, e) = le_dest big in
    let (s, f) = le_dest (exponent_le_power p n big) in
    let one : 1 ≤ p ^ n = one-le-pow n p (omega arith) in
    let twice : (2 + r) * p ^ n ≡ p ^ suc n = ap (λ x. x * p ^ n) e ∙ sym (pow-succ' p n) in
    omega arith

pub record Eigen {A : Type 0} (R : CommutativeRing A) (p : ℕ) (z a : A) : Type 0 where
  pub nonzero : a ≡ R.zero → ⊥
  pub power_is : power R a p ≡ R.mul z a

module _ {A : Type 0} (R : CommutativeRing A) (p : ℕ) (z : A) (fixed : power R z p ≡ z) where
  power_geometric : (k : ℕ) → power R z (geometric_sum p k) ≡ power R z k
  unfolding geometric_sum
  power_geometric zero = refl
  power_geometric (suc k) =
      power-suc R z (p * geometric_sum p k)
      ∙ ap (R.mul z) (power-mul R z p (geometric_sum p k) ∙ ap (λ x. power R x (geometric_sum p k)) fixed ∙ power_geometric k) ∙ sym (power-suc R z k)

  power_fixed : (k : ℕ) → power R (power R z k) p ≡ power R z k
  power_fixed k = sym (power-mul R z k p) ∙ ap (power R z) (ℕ·mul-comm k p) ∙ power-mul R z p k ∙ ap (λ x. power R x k) fixed

  -- a^(p^k) = z^k·a
  pub iterated_power : (a : A) → power R a p ≡ R.mul z a → (k : ℕ) → power R a (p ^ k) ≡ R.mul (power R z k) a
  iterated_power a e zero = simp (pow-zero, power-one R, power_zero R, one-mul R)
  iterated_power a e (suc k) =
      power R a (p ^ suc k)
      ≡⟨ ap (power R a) (pow-suc p k) ∙ power-mul R a (p ^ k) p ∙ ap (λ x. power R x p) (iterated_power a e k) ⟩ power R (R.mul (power R z k) a) p
      ≡⟨ power_product R (power R z k) a p ∙ ap₂ R.mul (power_fixed k) e ⟩ R.mul (power R z k) (R.mul z a)
      ≡⟨ (simp (power-suc R, mul_assoc R, mul_left_comm R)) ⟩ R.mul (power R z (suc k)) a
      ∎

  -- a^n = 0 would give a = z^n·a = a^(p^n) = 0
  pub eigen_not_nilpotent : 2 ≤ p → (a : A) → Eigen R p z a → (n : ℕ) → power R z n ≡ R.one → power R a n ≡ R.zero → ⊥
  eigen_not_nilpotent big a h n one e = by_rest (le_dest (exponent_le_power p n big))
    where
      by_rest : (r : ℕ) × (n + r ≡ p ^ n) → ⊥
      by_rest (r, g) =
          h.nonzero (sym (one-mul R a) ∙ ap (λ x. R.mul x a) (sym one) ∙ sym (iterated_power a h.power_is n)
          ∙ ap (power R a) (sym g) ∙ power-add R a n r ∙ ap (λ x. R.mul x (power R a r)) e ∙ zero-mul R (power R a r))

module _ {A : Type 0} (F : Field A) (p : ℕ) (prime : Prime p) (characteristic : numeral F.ring p ≡ F.ring.zero) (z : A) where
  abbrev R : CommutativeRing A
  R = F.ring

  pub eigen_root : (a : A) → Eigen R p z a → power R a (p - 1) ≡ z
  eigen_root a h = power_pred F p prime characteristic a z h.nonzero h.power_is

  module _ (us : List A) (units : Units F us) (d : ℕ) (count : suc (length us) ≡ p ^ d) (fixed : power R z p ≡ z) where
    pub eigen_exists : power R z d ≡ R.one → (z ≡ R.zero → ⊥) → (a : A) × Eigen R p z a
    eigen_exists one n = from_root (power_root F us units (p - 1) (geometric_sum p d) (omega arith) total z (power_geometric R p z fixed d ∙ one))
      where
        total : length us ≡ (p - 1) * geometric_sum p d
        total =
            let e : suc (p - 1) ≡ p = omega arith in
            let g : suc ((p - 1) * geometric_sum p d) ≡ p ^ d = rw e at (geometric_sum_lem (p - 1) d) in
            omega arith

        from_root : (a : A) × (power R a (p - 1) ≡ z) → (a : A) × Eigen R p z a
        from_root (a, e) = (a, record { nonzero = not_zero; power_is = power_from_pred F p prime characteristic a z e })
          where
            not_zero : a ≡ R.zero → ⊥
            not_zero h =
                let g : suc (p - 2) ≡ p - 1 = omega arith in
                n (sym e ∙ ap₂ (power R) h (sym g) ∙ power_of_zero R (p - 2))

    -- a = a^(p^d) = z^d·a
    pub eigenvalue_period : (a : A) → Eigen R p z a → power R z d ≡ R.one
    eigenvalue_period a h =
        mul_left_cancel F a (power R z d) R.one h.nonzero
        (R.mul_comm a (power R z d) ∙ sym (iterated_power R p z fixed a h.power_is d) ∙ ap (power R a) (sym count)
        ∙ power-suc R a (length us) ∙ ap (R.mul a) (power_units F us units a h.nonzero))

  module _ (a : A) (eigen : Eigen R p z a) where
    -- the quotient of two eigenvectors is a constant
    pub eigen_multiple : (b : A) → Eigen R p z b → (c : ℕ) × (0 < c) × (c < p) × (b ≡ R.mul (numeral R c) a)
    eigen_multiple b h =
        let g : A = R.mul b (F.inverse a) in
        let split : R.mul g a ≡ b =
        R.mul_assoc b (F.inverse a) a ∙ ap (R.mul b) (R.mul_comm (F.inverse a) a ∙ F.mul-inverse a eigen.nonzero) ∙ R.mul-one b in
        let root : power R g (p - 1) ≡ R.one =
        mul_left_cancel F z (power R g (p - 1)) R.one z_nonzero
        (R.mul_comm z (power R g (p - 1)) ∙ ap (R.mul (power R g (p - 1))) (sym (eigen_root a eigen))
        ∙ sym (power_product R g a (p - 1)) ∙ ap (λ x. power R x (p - 1)) split ∙ eigen_root b h ∙ sym (R.mul-one z)) in
        let (c, pos, lt, e) = constant_of_root F p prime characteristic g root in
        (c, pos, lt, sym split ∙ ap (λ x. R.mul x a) e)
      where
        z_nonzero : z ≡ R.zero → ⊥
        z_nonzero e = power-ne-zero F a (p - 1) eigen.nonzero (eigen_root a eigen ∙ e)

    -- (a^n)^(p − 1) = z^n = 1
    pub eigen_constant : (n : ℕ) → power R z n ≡ R.one → (c : ℕ) × (0 < c) × (c < p) × (power R a n ≡ numeral R c)
    eigen_constant n one =
        constant_of_root F p prime characteristic (power R a n)
        (sym (power-mul R a n (p - 1)) ∙ ap (power R a) (ℕ·mul-comm n (p - 1)) ∙ power-mul R a (p - 1) n ∙ ap (λ x. power R x n) (eigen_root a eigen) ∙ one)

    -- c^m = a^(n·m) = z where n·m = p − 1
    pub eigen_constant_root : (n m c : ℕ) → n * m ≡ p - 1 → power R a n ≡ numeral R c → power R (numeral R c) m ≡ z
    eigen_constant_root n m c e h = ap (λ x. power R x m) (sym h) ∙ sym (power-mul R a n m) ∙ ap (power R a) e ∙ eigen_root a eigen
