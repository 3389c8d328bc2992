-- Sorting by insertion. Only contracts between our functions rest on it, none of a public call.
--   earlier u v     the lower of two lists
--   later u v       the other
--   insert u us     us with u inserted: each list keeps the lower of itself and what is carried to it
--   rows n k xs     the first k groups of n words of xs
--   sorted f k      f 0, …, f (k − 1), each inserted into those before it
use Rattle.std.specs.Prelude.{true, false, List, [], ◌∷◌, ℕ, zero, suc, take, drop}
use Rattle.array.specs.Ascending.{lower}

unfoldable pub earlier : List ℕ → List ℕ → List ℕ
earlier u v = elim (lower u v) [ true ↦ u | false ↦ v ]

unfoldable pub later : List ℕ → List ℕ → List ℕ
later u v = elim (lower u v) [ true ↦ v | false ↦ u ]

unfoldable pub insert : List ℕ → List (List ℕ) → List (List ℕ)
insert u [] = u ∷ []
insert u (v ∷ us) = earlier u v ∷ insert (later u v) us

unfoldable pub rows : ℕ → ℕ → List ℕ → List (List ℕ)
rows n zero xs = []
rows n (suc k) xs = take n xs ∷ rows n k (drop n xs)

unfoldable pub sorted : (ℕ → List ℕ) → ℕ → List (List ℕ)
sorted f zero = []
sorted f (suc k) = insert (f k) (sorted f k)
