-- Columns of text, as ASCII codes: 32 is the blank, 45 the minus.
--   blanks k              k blanks
--   signed_decimal z      the decimal digits of z, behind a minus where z is negative
--   right_justified w x   the text x at the right of w columns
--   filled w x            the text x, filled with blanks to w columns
use Rattle.std.specs.Prelude.{List, ◌∷◌, ◌++◌, ℕ, suc, ◌-◌, ℤ, pos, negsuc, length, replicate}
use Rattle.text.specs.Digits.{decimal}

unfoldable pub blanks : ℕ → List ℕ
blanks k = replicate k 32

unfoldable pub signed_decimal : ℤ → List ℕ
signed_decimal (pos k) = decimal k
signed_decimal (negsuc k) = 45 ∷ decimal (suc k)

unfoldable pub right_justified : ℕ → List ℕ → List ℕ
right_justified w x = blanks (w - length x) ++ x

unfoldable pub filled : ℕ → List ℕ → List ℕ
filled w x = x ++ blanks (w - length x)
