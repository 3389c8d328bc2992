-- Hexadecimal digits: two for each byte, in its order.
use mathlib.Core.Path.{◌≡◌, refl, ap}
use mathlib.Core.List.{List, [], ◌∷◌, ◌++◌}
use Prim.Native.Nat.{ℕ, ◌+◌, ◌*◌, ◌/◌, ◌%◌, ◌≤◌, ◌<◌}
use native.Mathlib.Omega.{arith}
use borrow.Author.Tests.{lt-ltb, le-ltb}
use lib.ListN.{length, take}
use lib.Seq.{length-take-le}
use Rattle.text.specs.Digits.{hexadecimal, hexadecimal_digit}
use Rattle.text.specs.Text.{Appended}
use Rattle.text.proofs.Append.{append_both}

pub hexadecimal-append : (xs ys : List ℕ) → hexadecimal (xs ++ ys) ≡ hexadecimal xs ++ hexadecimal ys
unfolding hexadecimal
hexadecimal-append [] ys = refl
hexadecimal-append (x ∷ xs) ys = ap (λ l. hexadecimal_digit (x / 16) ∷ hexadecimal_digit (x % 16) ∷ l) (hexadecimal-append xs ys)

pub hexadecimal-length : (xs : List ℕ) → length (hexadecimal xs) ≡ 2 * length xs
unfolding hexadecimal
hexadecimal-length [] = refl
hexadecimal-length (x ∷ xs) = omega (arith, hexadecimal-length xs)

-- before turn i there is room for the digits of byte i
pub hexadecimal_room : (at i m : ℕ) (xs before after : List ℕ) → Appended at (hexadecimal (take i xs)) before after m → i < length xs → length after ≡ length before
    → at + 2 * length xs ≤ length before → m + 2 ≤ length after
hexadecimal_room at i m xs before after h l same room = omega (arith, h.end_is, hexadecimal-length (take i xs), length-take-le i xs (omega arith))

pub digit_low : (d : ℕ) → d < 10 → 48 + d ≡ hexadecimal_digit d
unfolding hexadecimal_digit
digit_low d h = rw (lt-ltb d 10 h, hexadecimal_digit)

pub digit_high : (d : ℕ) → 10 ≤ d → 55 + d ≡ hexadecimal_digit d
unfolding hexadecimal_digit
digit_high d h = rw (le-ltb d 10 h, hexadecimal_digit)

-- the two digits of a byte, one behind the other
pub append_digits : (at m r a b y : ℕ) (before between after : List ℕ) → Appended at (a ∷ []) before between m → Appended m (b ∷ []) between after r
    → a ≡ hexadecimal_digit (y / 16) → b ≡ hexadecimal_digit (y % 16) → Appended at (hexadecimal (y ∷ [])) before after r
unfolding hexadecimal
append_digits at m r a b y before between after h k high low = rw (← high, ← low) (append_both at m r (a ∷ []) (b ∷ []) before between after h k)
