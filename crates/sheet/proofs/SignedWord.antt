-- A word v as the number v or v − p: it is at most half of p in magnitude, and determines v.
use mathlib.Core.Path.{◌≡◌, sym, ap, ◌∙◌}
use Prim.Native.Nat.{ℕ, zero, suc, ◌-◌, ◌/◌, ◌≤◌, ◌<◌}
use native.Mathlib.Decide.{dec_lt}
use native.Mathlib.Omega.{arith}
use borrow.Author.Tests.{le-leb, lt-leb, lt-ltb}
use lib.IntN.{ℤ, pos, negsuc, nat_abs, ◌-ℤ◌}
use Rattle.sheet.specs.Sheet.{centred}

-- v − p for v < p
pub difference : (p v : ℕ) → v < p → pos v -ℤ pos p ≡ negsuc (p - suc v)
difference zero v h = absurd (omega arith)
difference (suc q) v h = rw (lt-ltb v (suc q) h)

pub centred_low : (p v : ℕ) → v ≤ p / 2 → centred p v ≡ pos v
unfolding centred
centred_low p v h = rw (le-leb v (p / 2) h, centred)

pub centred_high : (p v : ℕ) → p / 2 < v → v < p → centred p v ≡ negsuc (p - suc v)
unfolding centred
centred_high p v h l = rw (lt-leb v (p / 2) h, centred) (difference p v l)

pub centred_small : (p v : ℕ) → v < p → nat_abs (centred p v) ≤ p / 2
centred_small p v l = go (dec_lt (p / 2) v)
  where
    go : Dec (p / 2 < v) → nat_abs (centred p v) ≤ p / 2
    go (yes h) = rw (centred_high p v h l) (omega arith)
    go (no h) = rw (centred_low p v (omega arith)) (omega arith)

sign : ℤ → ℕ
sign (pos k) = 0
sign (negsuc k) = 1

pub centred_determines : (p v w : ℕ) → v < p → w < p → centred p v ≡ centred p w → v ≡ w
unfolding sign
centred_determines p v w l m e = go (dec_lt (p / 2) v) (dec_lt (p / 2) w)
  where
    go : Dec (p / 2 < v) → Dec (p / 2 < w) → v ≡ w
    go (yes h) (yes k) = omega (arith, ap nat_abs (sym (centred_high p v h l) ∙ e ∙ centred_high p w k m))
    go (yes h) (no k) = absurd (omega (arith, ap sign (sym (centred_high p v h l) ∙ e ∙ centred_low p w (omega arith))))
    go (no h) (yes k) = absurd (omega (arith, ap sign (sym (centred_low p v (omega arith)) ∙ e ∙ centred_high p w k m)))
    go (no h) (no k) = omega (arith, ap nat_abs (sym (centred_low p v (omega arith)) ∙ e ∙ centred_low p w (omega arith)))
