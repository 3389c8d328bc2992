-- Gauss–Jordan elimination, column by column. A row operation changes neither the solutions of M·v = b nor those of M·v = 0.
--   Identity p n c m             the first c columns are those of the identity
--   Reduced p n c m b            the same of the system M·v = b; its words are below p, and b is 0 past n
--   SolvesTimes p n m t b v      M·v = t·b modulo p; the system itself is t = 1, and t = 0 is M·v = 0
--   Equivalent p n m b m' b'     M·v = t·b and M'·v = t·b' have the same solutions, for every t
--   RowStep p n c x w m b m' b'  a row operation on row x: in column c the word of that row is now w, and no other word of that column has changed
--   Advanced p n c m b m' b'     an equivalent system whose first c columns are those of the identity
--   Prepared p n c m b m' b'     the same, and the word in row c and column c is not 0
--   Pivot n c m r                r is the first row from row c on whose word in column c is not 0, or n where there is none
use Rattle.std.specs.Prelude.{◌≡◌, List, ℕ, ◌*◌, ◌%◌, ◌≤◌, ◌<◌, length, get_or}
use Rattle.array.specs.Array.{entry, row_product, Square}

pub record Identity (p n c : ℕ) (m : List ℕ) : Type 0 where
  pub square : Square p n m
  pub diagonal : (j : ℕ) → j < c → entry m j j ≡ 1
  pub others : (i j : ℕ) → i < n → j < c → (i ≡ j → ⊥) → entry m i j ≡ 0

pub record Reduced (p n c : ℕ) (m b : List ℕ) : Type 0 where
  pub matrix : Identity p n c m
  pub size : length b ≡ 16
  pub below : (i : ℕ) → i < n → get_or b i 0 < p
  pub zeros : (i : ℕ) → n ≤ i → get_or b i 0 ≡ 0

abbrev pub SolvesTimes : ℕ → ℕ → List ℕ → ℕ → List ℕ → List ℕ → Type 0
SolvesTimes p n m t b v = (i : ℕ) → i < n → row_product m i 0 v % p ≡ (t * get_or b i 0) % p

pub record Equivalent (p n : ℕ) (m b m' b' : List ℕ) : Type 0 where
  pub forth : (t : ℕ) (v : List ℕ) → length v ≡ n → SolvesTimes p n m t b v → SolvesTimes p n m' t b' v
  pub back : (t : ℕ) (v : List ℕ) → length v ≡ n → SolvesTimes p n m' t b' v → SolvesTimes p n m t b v

pub record RowStep (p n c x w : ℕ) (m b m' b' : List ℕ) : Type 0 where
  pub reduced : Reduced p n c m' b'
  pub equivalent : Equivalent p n m b m' b'
  pub changed : entry m' x c ≡ w
  pub others : (i : ℕ) → i < n → (i ≡ x → ⊥) → entry m' i c ≡ entry m i c

pub record Advanced (p n c : ℕ) (m b m' b' : List ℕ) : Type 0 where
  pub reduced : Reduced p n c m' b'
  pub equivalent : Equivalent p n m b m' b'

pub record Prepared (p n c : ℕ) (m b m' b' : List ℕ) : Type 0 where
  pub advanced : Advanced p n c m b m' b'
  pub positive : 0 < entry m' c c

pub record Pivot (n c : ℕ) (m : List ℕ) (r : ℕ) : Type 0 where
  pub from : c ≤ r
  pub to : r ≤ n
  pub zeros : (i : ℕ) → c ≤ i → i < r → entry m i c ≡ 0
  pub nonzero : r < n → entry m r c ≡ 0 → ⊥
