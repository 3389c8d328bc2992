-- Sheets (document 02, S-1) of examples A and E of document 01, computed.
use Rattle.std.specs.Prelude.{◌≡◌, List, [], ◌∷◌, ◌++◌, ℕ, length}
use Rattle.text.specs.Ascii.{ascii}
use Rattle.sheet.specs.Sheet.{sheet_number, sheet_output}

pub record SheetExamples : Type 0 where
  -- A: p 3, T1 [1,0], T2 [2,1], S [1,2], R [1,2]: a list of 240 bytes receives the sheet, any other is refused with 3
  pub a_number : (out : List ℕ) → length out ≡ 240 → sheet_number 3 2 (1 ∷ 0 ∷ []) (2 ∷ 1 ∷ []) (1 ∷ 2 ∷ []) (1 ∷ 2 ∷ []) out ≡ 0
  pub a_refused : (out : List ℕ) → (length out ≡ 240 → ⊥) → sheet_number 3 2 (1 ∷ 0 ∷ []) (2 ∷ 1 ∷ []) (1 ∷ 2 ∷ []) (1 ∷ 2 ∷ []) out ≡ 3
  pub a_output :
      (out : List ℕ) → length out ≡ 240
      → sheet_output 3 2 (1 ∷ 0 ∷ []) (2 ∷ 1 ∷ []) (1 ∷ 2 ∷ []) (1 ∷ 2 ∷ []) out
      ≡ ascii "T1       1      0                                          \n"
      ++ (ascii "T2      -1      1                                          \n"
      ++ (ascii "S        1     -1                                          \n"
      ++ ascii "R        1     -1                                          \n"))
  -- E: p 2, T1 [1], T2 [0], S [1], R [0]: the word 1 is half of p, and prints as 1
  pub e_output :
      (out : List ℕ) → length out ≡ 240
      → sheet_output 2 1 (1 ∷ []) (0 ∷ []) (1 ∷ []) (0 ∷ []) out
      ≡ ascii "T1       1                                                 \n"
      ++ (ascii "T2       0                                                 \n"
      ++ (ascii "S        1                                                 \n"
      ++ ascii "R        0                                                 \n"))
