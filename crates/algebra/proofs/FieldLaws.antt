-- What the inverses of a field give: factors other than 0 cancel, and a product is 0 only where a factor is. Every law takes the field first.
use mathlib.Core.Path.{◌≡◌, sym, ap, ◌∙◌}
use mathlib.Core.Logic.{◌⊎◌, inl, inr}
use Prim.Native.Nat.{ℕ, zero, suc}
use Rattle.algebra.specs.Ring.{Field, power}
use Rattle.algebra.proofs.RingLaws.{mul_assoc, mul_comm, one-mul, mul-zero, power_zero, power-suc}

module _ {A : Type 0} (F : Field A) where
  open F use {ring as R}
  open R use {zero as 𝟎, one as 𝟏, mul as ◌⊗◌}

  infixl 70 ◌⊗◌
  pub inverse_mul_cancel : (a b : A) → (a ≡ 𝟎 → ⊥) → F.inverse a ⊗ (a ⊗ b) ≡ b
  inverse_mul_cancel a b n =
      sym (mul_assoc R (F.inverse a) a b) ∙ ap (λ t. t ⊗ b) (mul_comm R (F.inverse a) a ∙ F.mul-inverse a n) ∙ one-mul R b

  pub mul_left_cancel : (a b c : A) → (a ≡ 𝟎 → ⊥) → a ⊗ b ≡ a ⊗ c → b ≡ c
  mul_left_cancel a b c n e = sym (inverse_mul_cancel a b n) ∙ ap (λ t. F.inverse a ⊗ t) e ∙ inverse_mul_cancel a c n

  pub mul_ne-zero : (a b : A) → (a ≡ 𝟎 → ⊥) → (b ≡ 𝟎 → ⊥) → a ⊗ b ≡ 𝟎 → ⊥
  mul_ne-zero a b n m e = m (mul_left_cancel a b 𝟎 n (e ∙ sym (mul-zero R a)))

  pub power-ne-zero : (a : A) (k : ℕ) → (a ≡ 𝟎 → ⊥) → power R a k ≡ 𝟎 → ⊥
  power-ne-zero a zero n e = F.one-ne-zero (sym (power_zero R a) ∙ e)
  power-ne-zero a (suc k) n e = mul_ne-zero a (power R a k) n (power-ne-zero a k n) (sym (power-suc R a k) ∙ e)

  -- two numbers with the same product with c are equal, or c = 0
  pub mul_right_cases : (a b c : A) → a ⊗ c ≡ b ⊗ c → (a ≡ b) ⊎ (c ≡ 𝟎)
  mul_right_cases a b c e = by_factor (F.discrete c 𝟎)
    where
      by_factor : Dec (c ≡ 𝟎) → (a ≡ b) ⊎ (c ≡ 𝟎)
      by_factor (yes z) = inr z
      by_factor (no n) = inl (mul_left_cancel c a b n (mul_comm R c a ∙ e ∙ mul_comm R b c))
