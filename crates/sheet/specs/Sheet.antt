-- The printed sheet (document 02, S-1), as ASCII codes. Numbers and columns are those of the crate text.
--   centred p v                "A word v prints as v if v is at most p/2 rounded down, else as v − p."
--   columns w p u              the coefficients, "constant first", each "right-justified in" w "columns"
--   line p name u              "Names stand at the left"; the coefficients in 7 columns each; "every line is filled with blanks to 59 columns and
--                              ends with a newline"
--   lines p k name u           k lines, the coefficients "eight to a line": the first with the name, "Continued lines begin with 3 blanks"
--   polynomial p n name u      one of the four lists, "starting a line with its name in 3 columns": n coefficients take n/8 lines, rounded up
--   sheet_text p n t1 t2 s r   "Print T1, T2, S and R"
--   sheet_length n             "the sheet's exact length": four times n/8 lines, rounded up, of 60 bytes
--   sheet_number p n t1 t2 s r out   "the checker's numbers, and 3 where the output list is not of the sheet's exact length"
--   sheet_output p n t1 t2 s r out   what the output list holds after the call: the sheet where the number is 0, else what it held
use Rattle.std.specs.Prelude.{true, false, not, List, [], ◌∷◌, ◌++◌, ℕ, zero, suc, ◌+◌, ◌*◌, ◌/◌, leb, eqb, ℤ, pos, ◌-ℤ◌, length, take, drop}
use Rattle.text.specs.Ascii.{ascii}
use Rattle.text.specs.Columns.{blanks, signed_decimal, right_justified, filled}
use Rattle.refusal.specs.Refusal.{written}
use Rattle.pair.specs.Pair.{check_number_or}

unfoldable pub centred : ℕ → ℕ → ℤ
centred p v = elim (leb v (p / 2)) [ true ↦ pos v | false ↦ pos v -ℤ pos p ]

unfoldable pub columns : ℕ → ℕ → List ℕ → List ℕ
columns w p [] = []
columns w p (v ∷ u) = right_justified w (signed_decimal (centred p v)) ++ columns w p u

unfoldable pub line : ℕ → List ℕ → List ℕ → List ℕ
line p name u = filled 59 (name ++ columns 7 p u) ++ ascii "\n"

unfoldable pub lines : ℕ → ℕ → List ℕ → List ℕ → List ℕ
lines p zero name u = []
lines p (suc k) name u = line p name (take 8 u) ++ lines p k (blanks 3) (drop 8 u)

unfoldable pub polynomial : ℕ → ℕ → List ℕ → List ℕ → List ℕ
polynomial p n name u = lines p ((n + 7) / 8) name u

unfoldable pub sheet_text : ℕ → ℕ → List ℕ → List ℕ → List ℕ → List ℕ → List ℕ
sheet_text p n t1 t2 s r =
    polynomial p n (ascii "T1 ") t1
    ++ (polynomial p n (ascii "T2 ") t2 ++ (polynomial p n (ascii "S  ") s ++ polynomial p n (ascii "R  ") r))

unfoldable pub sheet_length : ℕ → ℕ
sheet_length n = 4 * ((n + 7) / 8) * 60

unfoldable pub sheet_number : ℕ → ℕ → List ℕ → List ℕ → List ℕ → List ℕ → List ℕ → ℕ
sheet_number p n t1 t2 s r out = check_number_or (not (eqb (length out) (sheet_length n))) p n t1 t2 s r

unfoldable pub sheet_output : ℕ → ℕ → List ℕ → List ℕ → List ℕ → List ℕ → List ℕ → List ℕ
sheet_output p n t1 t2 s r out = written (sheet_number p n t1 t2 s r out) (sheet_text p n t1 t2 s r) out
