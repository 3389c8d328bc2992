-- The definitions of the contracts between this crate's functions; no public call's contract rests on them.
--   Loaded n matrix m                      the array m has 256 words, in its first n rows and columns those of the matrix, and zeros in its further columns
use Rattle.std.specs.Prelude.{◌≡◌, List, ℕ, ◌≤◌, ◌<◌, length}
use Rattle.array.specs.Array.{entry}
use Rattle.bymatrix.specs.ByMatrix.{word}

pub record Loaded (n : ℕ) (matrix m : List ℕ) : Type 0 where
  pub size : length m ≡ 256
  pub words : (i j : ℕ) → i < n → j < n → entry m i j ≡ word n matrix i j
  pub zeros : (i j : ℕ) → n ≤ j → j < 16 → entry m i j ≡ 0
