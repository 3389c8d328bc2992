-- The powers of a residue S, or its multiples X^k·S, as the columns of a matrix, and the product of a matrix with a residue.
--   Powers p k t s m         column j of m holds S^j modulo T, for j < k
--   Frobenius p n t m        column j of m holds (X^p)^j modulo T, for j < n: where p is prime, the matrix of u ↦ u^p
--   multiple p t s k         X^k·S modulo T
--   Multiples p k t s m      column j of m holds X^j·S modulo T, for j < k, and all words of m are below p
--   Placed n j u m m'        m' is m with the first n words of u in column j
--   Kept n m m'              from column n on m' is as m is
--   column n m j             the first n words of column j
--   matrix_product p n m u   the products of the first n rows with u, modulo p
--   dot f u                  f 0·u_0 + f 1·u_1 + …, over all words of u
--   Rows p n m               the matrix has 256 words, and its first n rows n words below p and zeros after them
--   Begins n u w             the array w has 16 words of 32 bits, and the first n are those of u
--   Factors p n i m u        of row i of m and of the array u the first n words are below p, and of each later two one is 0
use Rattle.std.specs.Prelude.{◌≡◌, List, [], ◌∷◌, map, ℕ, zero, suc, ◌+◌, ◌*◌, ◌%◌, ◌≤◌, ◌<◌, length, get_or, take}
use Rattle.algebra.specs.Lists.{range}
use Rattle.array.specs.Array.{entry, Square, row_product}
use Rattle.array.specs.Words.{word_bound}
use Rattle.quotient.specs.Residue.{times_x, power, residue_of_x}

pub record Powers (p k : ℕ) (t s m : List ℕ) : Type 0 where
  pub size : length m ≡ 256
  pub words : (i j : ℕ) → i < length t → j < k → entry m i j ≡ get_or (power p t s j) i 0

abbrev pub Frobenius : ℕ → ℕ → List ℕ → List ℕ → Type 0
Frobenius p n t m = Powers p n t (power p t (residue_of_x p t) p) m

unfoldable pub multiple : ℕ → List ℕ → List ℕ → ℕ → List ℕ
multiple p t s zero = s
multiple p t s (suc k) = times_x p t (multiple p t s k)

pub record Multiples (p k : ℕ) (t s m : List ℕ) : Type 0 where
  pub words : (i j : ℕ) → i < length t → j < k → entry m i j ≡ get_or (multiple p t s j) i 0
  pub square : Square p 16 m

pub record Placed (n j : ℕ) (u m m' : List ℕ) : Type 0 where
  pub size : length m' ≡ length m
  pub words : (i : ℕ) → i < n → entry m' i j ≡ get_or u i 0
  pub others : (i k : ℕ) → k < 16 → (k ≡ j → ⊥) → entry m' i k ≡ entry m i k
  pub rest : (i : ℕ) → n ≤ i → entry m' i j ≡ entry m i j

pub record Kept (n : ℕ) (m m' : List ℕ) : Type 0 where
  pub words : (i j : ℕ) → n ≤ j → j < 16 → entry m' i j ≡ entry m i j

unfoldable pub column : ℕ → List ℕ → ℕ → List ℕ
column n m j = map (λ i. entry m i j) (range 0 n)

unfoldable pub matrix_product : ℕ → ℕ → List ℕ → List ℕ → List ℕ
matrix_product p n m u = map (λ i. row_product m i 0 u % p) (range 0 n)

unfoldable pub dot : (ℕ → ℕ) → List ℕ → ℕ
dot f [] = 0
dot f (a ∷ u) = f 0 * a + dot (λ j. f (suc j)) u

pub record Rows (p n : ℕ) (m : List ℕ) : Type 0 where
  pub square : Square p n m
  pub zeros : (i j : ℕ) → i < n → n ≤ j → j < 16 → entry m i j ≡ 0

pub record Begins (n : ℕ) (u w : List ℕ) : Type 0 where
  pub size : length w ≡ 16
  pub low : (j : ℕ) → get_or w j 0 < word_bound
  pub words : take n w ≡ take n u

pub record Factors (p n i : ℕ) (m u : List ℕ) : Type 0 where
  pub size : length u ≡ 16
  pub low : (j : ℕ) → get_or u j 0 < word_bound
  pub below : (j : ℕ) → j < n → (entry m i j < p) × (get_or u j 0 < p)
  pub rest : (j : ℕ) → n ≤ j → j < 16 → entry m i j * get_or u j 0 ≡ 0
