-- Sums and products modulo m.
--   mod_laws   the laws by which `simp` removes every `% m` inside a sum or a product under `% m`
use mathlib.Core.Path.{◌≡◌, sym, ◌∙◌, ap}
use Prim.Native.Nat.{ℕ, ◌+◌, ◌*◌, ◌-◌, ◌%◌, ◌/◌, ◌<◌}
use native.Mathlib.Nat.{mod-mod, mod-add-mod, add-mod-mod, mod-add-div, mod-lt, add-mul-mod_self_left, mul_comm, mul-add, mul_left_comm}
use native.Mathlib.Omega.{arith}

-- b = b % m + m·(b / m), and m·(a·(b / m)) disappears.
pub mul-mod-mod : (a b m : ℕ) → (a * (b % m)) % m ≡ (a * b) % m
mul-mod-mod a b m =
    sym (add-mul-mod_self_left (a * (b % m)) m (a * (b / m)))
    ∙ ap (λ x. x % m) (sym (mul-add a (b % m) (m * (b / m)) ∙ ap (λ x. a * (b % m) + x) (mul_left_comm a m (b / m))) ∙ ap (λ x. a * x) (mod-add-div b m))

pub mod-mul-mod : (a m b : ℕ) → (a % m * b) % m ≡ (a * b) % m
mod-mul-mod a m b = rw (mul_comm (a % m) b, mul-mod-mod, mul_comm b a)

pub ruleset mod_laws = (mod-mod, mod-add-mod, add-mod-mod, mul-mod-mod, mod-mul-mod)

-- m − c % m is a negative of c.
pub add_complement_mod : (a c m : ℕ) → 0 < m → (a + c + (m - c % m)) % m ≡ a % m
add_complement_mod a c m h =
    let l : c % m < m = mod-lt c h in
    let e : a + c + (m - c % m) ≡ a + m * (c / m + 1) = omega (arith, mod-add-div c m) in
    ap (λ x. x % m) e ∙ add-mul-mod_self_left a m (c / m + 1)

pub add-mod_cancel : (a b c m : ℕ) → 0 < m → (a + c) % m ≡ (b + c) % m → a % m ≡ b % m
add-mod_cancel a b c m h e =
    sym (add_complement_mod a c m h) ∙ sym (mod-add-mod (a + c) m (m - c % m)) ∙ ap (λ x. (x + (m - c % m)) % m) e
    ∙ mod-add-mod (b + c) m (m - c % m) ∙ add_complement_mod b c m h
