-- Sums and products of numbers that are equal modulo p are equal modulo p.
use mathlib.Core.Path.{◌≡◌, sym, ap₂, ◌∙◌}
use Prim.Native.Nat.{ℕ, ◌+◌, ◌*◌, ◌%◌}
use Rattle.algebra.proofs.Modulo.{mod_laws}

pub sum_congruent : (p a b c d : ℕ) → a % p ≡ b % p → c % p ≡ d % p → (a + c) % p ≡ (b + d) % p
sum_congruent p a b c d h k = sym (reduced a c) ∙ ap₂ (λ x y. (x + y) % p) h k ∙ reduced b d
  where
    reduced : (x y : ℕ) → (x % p + y % p) % p ≡ (x + y) % p
    reduced x y = simp mod_laws

pub product_congruent : (p a b c d : ℕ) → a % p ≡ b % p → c % p ≡ d % p → (a * c) % p ≡ (b * d) % p
product_congruent p a b c d h k = sym (reduced a c) ∙ ap₂ (λ x y. (x * y) % p) h k ∙ reduced b d
  where
    reduced : (x y : ℕ) → (x % p * (y % p)) % p ≡ (x * y) % p
    reduced x y = simp mod_laws
