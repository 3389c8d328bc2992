-- What is proved of decimal digits and of columns.
--   Digits ds          each is one of the digits 0 to 9
--   value h ds         the number with the digits ds behind those of h
--   IsDecimal k ds     ds are digits with the value k, the first of them is not 0 where k is not 0, and where k is 0 there is one
--   DecimalIsDecimal   `decimal` gives the decimal digits of every number
--   ColumnDetermines   in columns of any width, what stands at their right determines the number
use Rattle.std.specs.Prelude.{◌≡◌, List, [], ◌∷◌, ℕ, ◌+◌, ◌-◌, ◌*◌, ◌≤◌, ◌<◌, get_or, ℤ}
use Rattle.text.specs.Digits.{decimal}
use Rattle.text.specs.Columns.{signed_decimal, right_justified}

abbrev pub Digits : List ℕ → Type 0
Digits [] = Unit
Digits (d ∷ ds) = (48 ≤ d) × (d ≤ 57) × Digits ds

unfoldable pub value : ℕ → List ℕ → ℕ
value h [] = h
value h (d ∷ ds) = value (h * 10 + (d - 48)) ds

pub record IsDecimal (k : ℕ) (ds : List ℕ) : Type 0 where
  pub digits : Digits ds
  pub value_is : value 0 ds ≡ k
  pub first : 1 ≤ k → 48 < get_or ds 0 0
  pub zero_is : k ≡ 0 → ds ≡ 48 ∷ []

abbrev pub DecimalIsDecimal : Type 0
DecimalIsDecimal = (k : ℕ) → IsDecimal k (decimal k)

abbrev pub ColumnDetermines : Type 0
ColumnDetermines = (w : ℕ) (y z : ℤ) → right_justified w (signed_decimal y) ≡ right_justified w (signed_decimal z) → y ≡ z
