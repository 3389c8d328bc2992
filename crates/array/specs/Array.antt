-- Residues and matrices in flat arrays (document 01: "held as one flat array of 256 words"): 16 words, and 16 rows of 16 words.
--   padded u              u and zeros, 16 words in all
--   Holds p n xs          the array xs holds n words below p, and zeros after them
--   entry m i j           the word in row i and column j of the matrix
--   Square p n m          the matrix has 256 words, and those of its first n rows and columns are below p
--   row_product m i j v   m[i][j]·v[0] + m[i][j+1]·v[1] + …, over all words of v
use Rattle.std.specs.Prelude.{◌≡◌, List, [], ◌∷◌, ◌++◌, ℕ, suc, ◌+◌, ◌-◌, ◌*◌, ◌<◌, length, get_or, take, replicate}
use Rattle.array.specs.Words.{Words}

unfoldable pub padded : List ℕ → List ℕ
padded u = u ++ replicate (16 - length u) 0

pub record Holds (p n : ℕ) (xs : List ℕ) : Type 0 where
  pub words : Words p n (take n xs)
  pub zeros : xs ≡ padded (take n xs)

abbrev pub entry : List ℕ → ℕ → ℕ → ℕ
entry m i j = get_or m (16 * i + j) 0

pub record Square (p n : ℕ) (m : List ℕ) : Type 0 where
  pub size : length m ≡ 256
  pub below : (i j : ℕ) → i < n → j < n → entry m i j < p

unfoldable pub row_product : List ℕ → ℕ → ℕ → List ℕ → ℕ
row_product m i j [] = 0
row_product m i j (a ∷ v) = entry m i j * a + row_product m i (suc j) v
