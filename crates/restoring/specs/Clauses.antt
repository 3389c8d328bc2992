-- The definitions of the contracts between the functions that restore a table; no public call's contract rests on them.
--   Whole n table out         n is 1 to 16, the table has at most 16,384 words, in whole groups of n, and out has its length
--   width n                   how many columns are restored at a time: 8 where n is at least 8, 4 where it is at least 4, else 1
--   added k table sums        each sum c plus word k + c of the table, wrapped at 32 bits
--   Columns n j w k xs old out    in the columns j to j + w − 1, out has the words of xs at the places before k; in the other columns it has those of old
use Rattle.std.specs.Prelude.{◌≡◌, true, false, List, [], ◌∷◌, ◌⊎◌, ℕ, suc, ◌+◌, ◌%◌, ◌≤◌, ◌<◌, ltb, length, get_or}
use Rattle.array.specs.Words.{word_bound}
use Rattle.refusal.specs.Refusal.{largest_degree}
use Rattle.table.specs.Table.{most_words}

pub record Whole (n : ℕ) (table out : List ℕ) : Type 0 where
  pub low : 1 ≤ n
  pub high : n ≤ largest_degree
  pub few : length table ≤ most_words
  pub groups : length table % n ≡ 0
  pub room : length out ≡ length table

unfoldable pub width : ℕ → ℕ
width n = elim (ltb n 4) [ true ↦ 1 | false ↦ elim (ltb n 8) [ true ↦ 4 | false ↦ 8 ] ]

unfoldable pub added : ℕ → List ℕ → List ℕ → List ℕ
added k table [] = []
added k table (s ∷ sums) = (s + get_or table k 0) % word_bound ∷ added (suc k) table sums

pub record Columns (n j w k : ℕ) (xs old out : List ℕ) : Type 0 where
  pub size : length out ≡ length old
  pub inside : (i : ℕ) → i < k → i < length xs → j ≤ i % n → i % n < j + w → get_or out i 0 ≡ get_or xs i 0
  pub outside : (i : ℕ) → (i % n < j) ⊎ (j + w ≤ i % n) → get_or out i 0 ≡ get_or old i 0
