-- Elements of order n: z^n = 1 and no lower power of z but z^0 is 1. The powers of z then repeat with period exactly n.
--   HasOrder R z n   z has order n
use mathlib.Core.Path.{◌≡◌, sym, ap, ◌∙◌, ◌≡⟨◌⟩◌, ◌∎}
use Prim.Native.Nat.{ℕ, suc, ◌+◌, ◌*◌, ◌/◌, ◌%◌, ◌≤◌, ◌<◌}
use native.Mathlib.Nat.{div-add-mod', mul_comm as ℕ·mul-comm, le_dest}
use native.Mathlib.Omega.{arith}
use Rattle.algebra.specs.Ring.{CommutativeRing, power}
use Rattle.algebra.proofs.Injective.{injective_below}
use Rattle.algebra.proofs.RingLaws.{mul_assoc, mul_comm, one-mul, power-add, power-mul, power_of_one}

pub record HasOrder {A : Type 0} (R : CommutativeRing A) (z : A) (n : ℕ) : Type 0 where
  pub period : power R z n ≡ R.one
  pub least : (m : ℕ) → 0 < m → m < n → power R z m ≡ R.one → ⊥

module _ {A : Type 0} (R : CommutativeRing A) (z : A) where
  open R use {one as 𝟏, mul as ◌⊗◌}

  infixl 70 ◌⊗◌
  pub power-mod : (n : ℕ) → power R z n ≡ 𝟏 → (j : ℕ) → power R z j ≡ power R z (j % n)
  power-mod n e j =
      power R z j
      ≡⟨ ap (power R z) (sym (div-add-mod' j n)) ⟩ power R z (j / n * n + j % n)
      ≡⟨ power-add R z (j / n * n) (j % n) ⟩ power R z (j / n * n) ⊗ power R z (j % n)
      ≡⟨ ap (λ k. power R z k ⊗ power R z (j % n)) (ℕ·mul-comm (j / n) n) ⟩ power R z (n * (j / n)) ⊗ power R z (j % n)
      ≡⟨ (simp (power-mul R, e, power_of_one R, one-mul R)) ⟩ power R z (j % n)
      ∎

  -- z^j·z^e = 1 and z^j = z^(j + d): multiply by z^e
  cancel_power : (j d e : ℕ) → power R z (j + e) ≡ 𝟏 → power R z j ≡ power R z (j + d) → power R z d ≡ 𝟏
  cancel_power j d e one same =
      power R z d
      ≡⟨ sym (one-mul R (power R z d)) ∙ ap (λ t. t ⊗ power R z d) (sym one ∙ power-add R z j e) ⟩ power R z j ⊗ power R z e ⊗ power R z d
      ≡⟨ (simp (mul_assoc R, mul_comm R)) ⟩ power R z j ⊗ power R z d ⊗ power R z e
      ≡⟨ ap (λ t. t ⊗ power R z e) (sym (power-add R z j d) ∙ sym same) ⟩ power R z j ⊗ power R z e
      ≡⟨ sym (power-add R z j e) ∙ one ⟩ 𝟏
      ∎

  module _ (n : ℕ) (order : HasOrder R z n) where
    pub powers_distinct : (j k : ℕ) → j < n → k < n → power R z j ≡ power R z k → j ≡ k
    powers_distinct =
        injective_below (power R z) n
        (λ j c l e. let (r, h) = le_dest (lower j c l) in
        order.least (suc c) (omega arith) (omega arith) (cancel_power j (suc c) r (ap (power R z) h ∙ order.period) e))
      where
        lower : (j c : ℕ) → j + suc c < n → j ≤ n
        lower j c l = omega arith
