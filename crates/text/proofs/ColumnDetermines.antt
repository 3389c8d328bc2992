-- What stands at the right of columns determines the number: behind the blanks is the first byte that is none, a digit or a minus, and there
-- the text begins; the digits have the number's value.
use mathlib.Core.Path.{◌≡◌, refl, sym, ap, ◌∙◌}
use mathlib.Core.List.{List, ◌++◌}
use Prim.Native.Nat.{ℕ, zero, suc, ◌+◌, ◌-◌, ◌^◌, ◌≤◌, ◌<◌}
use native.Mathlib.Omega.{arith}
use lib.IntN.{ℤ, pos, negsuc, nat_abs}
use lib.ListN.{length, get_or, drop, replicate, length-append, length-replicate}
use Rattle.text.specs.Digits.{decimal}
use Rattle.text.specs.Columns.{blanks, signed_decimal, right_justified, filled}
use Rattle.text.specs.Text.{Appended}
use Rattle.text.specs.Theorem.{value, ColumnDetermines}
use Rattle.text.proofs.DecimalDigits.{decimal-length}
use Rattle.text.proofs.Theorem.{decimal_is_decimal}

pub blanks-length : (k : ℕ) → length (blanks k) ≡ k
unfolding blanks
blanks-length k = length-replicate {A = ℕ} k 32

pub blanks_end : (k : ℕ) {at end : ℕ} {before after : List ℕ} → Appended at (blanks k) before after end → end ≡ at + k
blanks_end k a = omega (arith, a.end_is, blanks-length k)

-- how long columns are

pub right_length : (w : ℕ) (x : List ℕ) → length x ≤ w → length (right_justified w x) ≡ w
unfolding right_justified
right_length w x h = omega (arith, length-append (blanks (w - length x)) x, blanks-length (w - length x))

pub filled-length : (w : ℕ) (x : List ℕ) → length x ≤ w → length (filled w x) ≡ w
unfolding filled
filled-length w x h = omega (arith, length-append x (blanks (w - length x)), blanks-length (w - length x))

-- a number below 10^d in magnitude takes at most d columns and one for the minus
pub signed_length : (d : ℕ) (z : ℤ) → nat_abs z < 10 ^ suc d → length (signed_decimal z) ≤ suc (suc d)
unfolding signed_decimal
signed_length d (pos k) h = omega (arith, decimal-length d k h)
signed_length d (negsuc k) h = omega (arith, decimal-length d (suc k) h)

-- the text begins with a byte that is no blank

pub decimal_head : (k : ℕ) → 48 ≤ get_or (decimal k) 0 0
decimal_head zero = omega (arith, ap (λ ds. get_or ds 0 0) ((decimal_is_decimal 0).zero_is refl))
decimal_head (suc k) = omega (arith, (decimal_is_decimal (suc k)).first (omega arith))

signed_head : (z : ℤ) → 33 ≤ get_or (signed_decimal z) 0 0
unfolding signed_decimal
signed_head (pos k) = omega (arith, decimal_head k)
signed_head (negsuc k) = omega arith

behind_blanks : (j k : ℕ) (x y : List ℕ) → 33 ≤ get_or x 0 0 → 33 ≤ get_or y 0 0 → replicate j 32 ++ x ≡ replicate k 32 ++ y → x ≡ y
behind_blanks zero zero x y h l e = e
behind_blanks (suc j) zero x y h l e = absurd (omega (arith, ap (λ xs. get_or xs 0 0) e))
behind_blanks zero (suc k) x y h l e = absurd (omega (arith, ap (λ xs. get_or xs 0 0) e))
behind_blanks (suc j) (suc k) x y h l e = behind_blanks j k x y h l (ap (drop 1) e)

-- the text determines the number

pub decimal_determines : (j k : ℕ) → decimal j ≡ decimal k → j ≡ k
decimal_determines j k e = sym (decimal_is_decimal j).value_is ∙ ap (value 0) e ∙ (decimal_is_decimal k).value_is

signed_determines : (y z : ℤ) → signed_decimal y ≡ signed_decimal z → y ≡ z
unfolding signed_decimal
signed_determines (pos j) (pos k) e = ap pos (decimal_determines j k e)
signed_determines (pos j) (negsuc k) e = absurd (omega (arith, ap (λ xs. get_or xs 0 0) e, decimal_head j))
signed_determines (negsuc j) (pos k) e = absurd (omega (arith, ap (λ xs. get_or xs 0 0) e, decimal_head k))
signed_determines (negsuc j) (negsuc k) e =
    let same : j ≡ k = omega (arith, decimal_determines (suc j) (suc k) (ap (drop 1) e)) in
    ap negsuc same

pub column_determines : ColumnDetermines
unfolding right_justified blanks
column_determines w y z e =
    signed_determines y z
    (behind_blanks (w - length (signed_decimal y)) (w - length (signed_decimal z)) (signed_decimal y) (signed_decimal z) (signed_head y) (signed_head z) e)
