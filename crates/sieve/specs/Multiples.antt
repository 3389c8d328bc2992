-- The multiples of a monic D of degree d, by their higher words: for every list h of k words there is one list l of d words such that D divides the monic polynomial with the
-- lower words l ++ h. Only contracts between functions rest on it.
--   times p d k x    H·L modulo D, L the polynomial of D's lower words, where H is the polynomial with the k digits of x for its words
--   lows p d k x     X^k·L + H·L modulo D: the lower words of the multiple of D of degree d + k with the higher words H
use Rattle.std.specs.Prelude.{List, ℕ}
use Rattle.array.specs.Digits.{digits}
use Rattle.matrix.specs.Matrix.{multiple}
use Rattle.quotient.specs.Residue.{sum, product}

unfoldable pub times : ℕ → List ℕ → ℕ → ℕ → List ℕ
times p d k x = product p d (digits p k x) d

unfoldable pub lows : ℕ → List ℕ → ℕ → ℕ → List ℕ
lows p d k x = sum p (multiple p d d k) (times p d k x)
