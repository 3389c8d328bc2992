-- Decimal digits: a number below 10 has one, and any other has those of its tenth and one more.
use mathlib.Core.Path.{◌≡◌, sym, ap}
use mathlib.Core.List.{List, [], ◌∷◌, ◌++◌}
use Prim.Native.Nat.{ℕ, zero, suc, ◌+◌, ◌*◌, ◌/◌, ◌%◌, ◌^◌, ◌≤◌, ◌<◌}
use native.Mathlib.Decide.{dec_lt}
use native.Mathlib.Nat.{pow-suc}
use native.Mathlib.Omega.{arith}
use borrow.Author.Tests.{lt-ltb, le-ltb}
use lib.ListN.{length, length-append}
use mir.Syntax.{w64}
use mir.Val.{Fits}
use Rattle.text.specs.Digits.{decimal, last_digits}
use Rattle.text.specs.Text.{Appended}
use Rattle.text.proofs.Append.{append_both}

-- k has at most k + 1 digits, so that every bound above k leaves out none
all_digits : (f g k : ℕ) → k < f → k < g → last_digits f k ≡ last_digits g k
unfolding last_digits
all_digits zero g k h l = absurd (omega arith)
all_digits (suc f) zero k h l = absurd (omega arith)
all_digits (suc f) (suc g) k h l = by_size (dec_lt k 10) (all_digits f g (k / 10))
  where
    by_size : Dec (k < 10) → (k / 10 < f → k / 10 < g → last_digits f (k / 10) ≡ last_digits g (k / 10)) → last_digits (suc f) k ≡ last_digits (suc g) k
    by_size (yes low) tenth = rw (lt-ltb k 10 low, last_digits)
    by_size (no high) tenth = rw (le-ltb k 10 (omega arith), last_digits) (ap (λ ds. ds ++ ((48 + k % 10) ∷ [])) (tenth (omega arith) (omega arith)))

pub decimal_one : (k : ℕ) → k < 10 → decimal k ≡ (48 + k) ∷ []
unfolding decimal last_digits
decimal_one k h = rw (lt-ltb k 10 h, last_digits)

pub decimal_more : (k : ℕ) → 10 ≤ k → decimal k ≡ decimal (k / 10) ++ ((48 + k % 10) ∷ [])
unfolding decimal last_digits
decimal_more k h = rw (le-ltb k 10 h, last_digits) (ap (λ ds. ds ++ ((48 + k % 10) ∷ [])) (all_digits k (suc (k / 10)) (k / 10) (omega arith) (omega arith)))

more_length : (k : ℕ) → 10 ≤ k → length (decimal k) ≡ length (decimal (k / 10)) + 1
more_length k h = rw (decimal_more k h) (length-append (decimal (k / 10)) ((48 + k % 10) ∷ []))

-- a number below 10^w has at most w digits
pub decimal-length : (w k : ℕ) → k < 10 ^ suc w → length (decimal k) ≤ suc w
decimal-length zero k h = rw (decimal_one k h) (omega arith)
decimal-length (suc w) k h = by_size (dec_lt k 10) (decimal-length w (k / 10) (tenth_below (10 ^ suc w) (rw pow-suc at h)))
  where
    tenth_below : (q : ℕ) → k < q * 10 → k / 10 < q
    tenth_below q h = omega arith

    by_size : Dec (k < 10) → length (decimal (k / 10)) ≤ suc w → length (decimal k) ≤ suc (suc w)
    by_size (yes low) tenth = rw (decimal_one k low) (omega arith)
    by_size (no high) tenth = omega (arith, more_length k (omega arith))

-- how many there are

pub one_digit_long : (k : ℕ) → k < 10 → 1 ≡ length (decimal k)
one_digit_long k h = sym (ap length (decimal_one k h))

pub one_digit_longer : (k m : ℕ) → 10 ≤ k → m ≡ length (decimal (k / 10)) → m + 1 ≡ length (decimal k)
one_digit_longer k m h e = omega (arith, e, more_length k h)

-- a word of 64 bits has at most 20
pub digits_fit : (k m : ℕ) → k < 2 ^ 64 → m ≡ length (decimal k) → Fits w64 (m + 1)
digits_fit k m h e = omega (arith, e, decimal-length 19 k (omega arith))

pub one_room : (at k : ℕ) (before : List ℕ) → k < 10 → at + length (decimal k) ≤ length before → at < length before
one_room at k before h room = omega (arith, ap length (decimal_one k h))

pub append_one_digit : (at r k : ℕ) (before after : List ℕ) → k < 10 → Appended at ((48 + k) ∷ []) before after r → Appended at (decimal k) before after r
append_one_digit at r k before after h a = rw (decimal_one k h) a

module _ (at k : ℕ) (before : List ℕ) (high : 10 ≤ k) (room : at + length (decimal k) ≤ length before) where
  -- before the last digit there is room for those of the tenth, and then for it
  pub tenth_room : at + length (decimal (k / 10)) ≤ length before
  tenth_room = omega (arith, more_length k high)

  module _ (m : ℕ) (between : List ℕ) (tenth : Appended at (decimal (k / 10)) before between m) where
    pub last_room : length between ≡ length before → m < length between
    last_room same = omega (arith, more_length k high, tenth.end_is)

    pub append_last_digit : (r : ℕ) (after : List ℕ) → Appended m ((48 + k % 10) ∷ []) between after r → Appended at (decimal k) before after r
    append_last_digit r after last = rw (decimal_more k high) (append_both at m r (decimal (k / 10)) ((48 + k % 10) ∷ []) before between after tenth last)
