-- What is proved of the sheet, for every p up to 2^20, every n and all lists of n words below p.
--   Lists p n t1 t2 s r   each of the four is n words below p
--   SheetHasLength        the sheet has its length, 240 bytes for up to eight coefficients, 480 for nine to sixteen
--   SheetDetermines       "With p and n known, the sheet must determine the four lists."
use Rattle.std.specs.Prelude.{◌≡◌, List, ℕ, ◌^◌, ◌≤◌, length}
use Rattle.array.specs.Words.{Words}
use Rattle.sheet.specs.Sheet.{sheet_text, sheet_length}

pub record Lists (p n : ℕ) (t1 t2 s r : List ℕ) : Type 0 where
  pub words_1 : Words p n t1
  pub words_2 : Words p n t2
  pub words_s : Words p n s
  pub words_r : Words p n r

abbrev pub SheetHasLength : Type 0
SheetHasLength = (p n : ℕ) (t1 t2 s r : List ℕ) → p ≤ 2 ^ 20 → Lists p n t1 t2 s r → length (sheet_text p n t1 t2 s r) ≡ sheet_length n

abbrev pub SheetDetermines : Type 0
SheetDetermines =
    (p n : ℕ) (t1 t2 s r t1' t2' s' r' : List ℕ) → p ≤ 2 ^ 20 → Lists p n t1 t2 s r → Lists p n t1' t2' s' r'
    → sheet_text p n t1 t2 s r ≡ sheet_text p n t1' t2' s' r' → (t1 ≡ t1') × (t2 ≡ t2') × (s ≡ s') × (r ≡ r')
