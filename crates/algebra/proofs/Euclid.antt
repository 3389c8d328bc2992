-- Modulo a prime every number that is not 0 has an inverse; hence Euclid's lemma.
--   HasInverse p a   some b below p with a·b = 1 modulo p
-- The inverse of a: with p = a·q + r and r·c = 1 modulo p, it is −q·c, and r < a. The prime p gives r ≠ 0 for a ≠ 1.
use mathlib.Core.Path.{◌≡◌, sym, ◌∙◌, ap}
use mathlib.Core.Logic.{◌⊎◌, inl, inr}
use Prim.Native.Nat.{ℕ, zero, suc, ◌+◌, ◌*◌, ◌%◌, ◌/◌, ◌<◌, ◌≤◌}
use native.Mathlib.Nat.{le_refl, pos_of_ne-zero, eq-zero-or-pos, mod-lt, mod-add-div, mod-eq_of_lt, zero-mod, zero-mul, add-mul-mod_self_left}
use native.Mathlib.Decide.{ℕ_discrete}
use native.Mathlib.Omega.{arith}
use Rattle.algebra.specs.Prime.{Prime}
use Rattle.algebra.proofs.Modulo.{mul-mod-mod, mod-mul-mod}

-- a·(−q·c) = r·c modulo p = a·q + r, where p − 1 stands for −1.
remainder_step : (p a q r c : ℕ) → r + a * q ≡ suc p → (a * (p * q * c)) % suc p ≡ (r * c) % suc p
remainder_step p a q r c e =
    sym (add-mul-mod_self_left (a * (p * q * c)) (suc p) c) ∙ ap (λ x. x % suc p) sums ∙ add-mul-mod_self_left (r * c) (suc p) (a * q * c)
  where
    spread : a * (p * q * c) + (r + a * q) * c ≡ r * c + suc p * (a * q * c)
    spread = omega arith

    sums : a * (p * q * c) + suc p * c ≡ r * c + suc p * (a * q * c)
    sums = ap (λ x. a * (p * q * c) + x * c) (sym e) ∙ spread

abbrev pub HasInverse : ℕ → ℕ → Type 0
HasInverse p a = (b : ℕ) × (b < p) × ((a * b) % p ≡ 1)

inverse_step : (p a c : ℕ) → 2 ≤ p → (p % a * c) % p ≡ 1 → HasInverse p a
inverse_step (suc p) a c h e =
    ((p * (suc p / a) * c) % suc p, mod-lt _ (omega arith), mul-mod-mod a (p * (suc p / a) * c) (suc p) ∙ remainder_step p a (suc p / a) (suc p % a) c (mod-add-div (suc p) a) ∙ e)
inverse_step zero a c h e = absurd (omega arith)

inverse_below : (p : ℕ) → Prime p → (bound a : ℕ) → a ≤ bound → 0 < a → a < p → HasInverse p a
inverse_below p prime zero a l h k = absurd (omega arith)
inverse_below p prime (suc bound) a l h k = go (ℕ_discrete a 1) (inverse_below p prime bound (p % a))
  where
    go : Dec (a ≡ 1) → (p % a ≤ bound → 0 < p % a → p % a < p → HasInverse p (p % a)) → HasInverse p a
    go (yes e) smaller = (1, prime.0, ap (λ x. (x * 1) % p) e ∙ mod-eq_of_lt prime.0)
    go (no n) smaller =
        let below : p % a < a = mod-lt p h in
        let positive : 0 < p % a = pos_of_ne-zero (prime.1 a (omega arith) k) in
        let c = smaller (omega arith) positive (omega arith) in
        inverse_step p a c.0 prime.0 c.2

pub inverse_exists : (p a : ℕ) → Prime p → 0 < a → a < p → HasInverse p a
inverse_exists p a prime h k = inverse_below p prime a a (le_refl a) h k

-- If c is the inverse of a modulo p, b = c·(a·b).
cancel_by_inverse : (p a b c : ℕ) → (a * c) % p ≡ 1 → (a * b) % p ≡ 0 → b % p ≡ 0
cancel_by_inverse p a b c i e =
    sym (ap (λ x. x % p) one_b) ∙ ap (λ x. (x * b) % p) (sym i) ∙ mod-mul-mod (a * c) p b ∙ ap (λ x. x % p) swap
    ∙ sym (mod-mul-mod (a * b) p c) ∙ ap (λ x. (x * c) % p) e ∙ ap (λ x. x % p) (zero-mul c) ∙ zero-mod p
  where
    one_b : 1 * b ≡ b
    one_b = omega arith

    swap : a * c * b ≡ a * b * c
    swap = omega arith

pub euclid : (p a b : ℕ) → Prime p → (a * b) % p ≡ 0 → (a % p ≡ 0) ⊎ (b % p ≡ 0)
euclid p a b prime e = go (eq-zero-or-pos (a % p))
  where
    go : (a % p ≡ 0) ⊎ (0 < a % p) → (a % p ≡ 0) ⊎ (b % p ≡ 0)
    go (inl z) = inl z
    go (inr h) =
        let c = inverse_exists p (a % p) prime h (mod-lt a (omega arith)) in
        inr (cancel_by_inverse p (a % p) b c.0 c.2 (mod-mul-mod a p b ∙ e))
