-- Digits as ASCII codes.
--   hexadecimal_digit d   the upper-case hexadecimal digit of d, which is below 16
--   hexadecimal ys        the bytes in hexadecimal, two digits each
--   last_digits f k       the decimal digits of k, of which at most the last f
--   decimal k             the decimal digits of k, which are at most k + 1
use Rattle.std.specs.Prelude.{true, false, List, [], ◌∷◌, ◌++◌, ℕ, zero, suc, ◌+◌, ◌/◌, ◌%◌, ltb}

unfoldable pub hexadecimal_digit : ℕ → ℕ
hexadecimal_digit d = elim (ltb d 10) [ true ↦ 48 + d | false ↦ 55 + d ]

unfoldable pub hexadecimal : List ℕ → List ℕ
hexadecimal [] = []
hexadecimal (y ∷ ys) = hexadecimal_digit (y / 16) ∷ hexadecimal_digit (y % 16) ∷ hexadecimal ys

unfoldable pub last_digits : ℕ → ℕ → List ℕ
last_digits zero k = []
last_digits (suc f) k = elim (ltb k 10) [ true ↦ (48 + k) ∷ [] | false ↦ last_digits f (k / 10) ++ ((48 + k % 10) ∷ []) ]

unfoldable pub decimal : ℕ → List ℕ
decimal k = last_digits (suc k) k
