-- Tables stored as differences (document 02, S-11), computed.
use Rattle.std.specs.Prelude.{◌≡◌, List, [], ◌∷◌, ℕ, length}
use Rattle.differences.specs.Differences.{differences_number, differences_output, restore_output}

pub record DifferencesExamples : Type 0 where
  -- three groups of 2 words: 6 − 7 is 4,294,967,295, and words need not be below any p
  pub stored : (out : List ℕ) → length out ≡ 6
      → differences_output 2 (10 ∷ 7 ∷ 12 ∷ 6 ∷ 12 ∷ 4294967295 ∷ []) out ≡ 10 ∷ 7 ∷ 2 ∷ 4294967295 ∷ 0 ∷ 4294967289 ∷ []
  pub restored : (out : List ℕ) → length out ≡ 6
      → restore_output 2 (10 ∷ 7 ∷ 2 ∷ 4294967295 ∷ 0 ∷ 4294967289 ∷ []) out ≡ 10 ∷ 7 ∷ 12 ∷ 6 ∷ 12 ∷ 4294967295 ∷ []
  -- the earlier word is the table's own: 4 − 2, and not 4 minus the difference 1
  pub original_subtracted : (out : List ℕ) → length out ≡ 3 → differences_output 1 (1 ∷ 2 ∷ 4 ∷ []) out ≡ 1 ∷ 1 ∷ 2 ∷ []
  -- an empty table is taken; 2 comes before 9, and 9 before 10
  pub empty_taken : differences_number 16 [] [] ≡ 0
  pub degree_first : differences_number 17 (1 ∷ []) [] ≡ 2
  pub length_next : differences_number 2 (1 ∷ []) [] ≡ 9
  pub output_last : differences_number 2 (1 ∷ 2 ∷ []) [] ≡ 10
