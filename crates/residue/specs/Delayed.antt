-- Words whose reduction modulo p is put off, inside the product of two residues. The rows of a product stand in two arrays: those of the words of u with an even
-- index in e, those with an odd index in o, one place lower than they count.
--   reduced p u               each word of u modulo p
--   Delayed p n k s xs        the array xs holds n words that are s modulo p, each at most 3·k·p², and zeros after them
--   Stepped p n t c v xs ys   the array ys holds X·xs + c·v modulo T, and the bound on its words has grown by 3·p²
--   joined_words n i e o      the n words e[i + j] + o[i + j − 1] for j from 0 on
--   joined n i e o            the array that holds these words
--   Added i c q v t k z z'    z' is z with c·v + q·t added to the k words from word i on
--   Half p n k i z            the array z has words of at most 3·k·p² below word i + n, and zeros below word i
--   Halves p n k i s e o      two such arrays, with 3·(k + 1)·p², whose joined words are s modulo p, each at most 3·k·p²
use Rattle.std.specs.Prelude.{◌≡◌, List, [], ◌∷◌, ℕ, zero, suc, ◌+◌, ◌*◌, ◌%◌, ◌≤◌, ◌<◌, length, get_or, take}
use Rattle.algebra.specs.Lists.{All}
use Rattle.quotient.specs.Residue.{sum, scale, times_x}
use Rattle.array.specs.Array.{padded}

unfoldable pub reduced : ℕ → List ℕ → List ℕ
reduced p [] = []
reduced p (a ∷ u) = a % p ∷ reduced p u

pub record Delayed (p n k : ℕ) (s xs : List ℕ) : Type 0 where
  pub words : reduced p (take n xs) ≡ s
  pub small : All (λ a. a ≤ k * (3 * (p * p))) (take n xs)
  pub zeros : xs ≡ padded (take n xs)

pub record Stepped (p n : ℕ) (t : List ℕ) (c : ℕ) (v xs ys : List ℕ) : Type 0 where
  pub next : (k : ℕ) (s : List ℕ) → Delayed p n k s xs → Delayed p n (k + 1) (sum p (scale p c v) (times_x p t s)) ys

unfoldable pub joined_words : ℕ → ℕ → List ℕ → List ℕ → List ℕ
joined_words zero i e o = []
joined_words (suc n) i e o = (get_or e i 0 + get_or (0 ∷ o) i 0) ∷ joined_words n (suc i) e o

abbrev pub joined : ℕ → ℕ → List ℕ → List ℕ → List ℕ
joined n i e o = padded (joined_words n i e o)

pub record Added (i c q : ℕ) (v t : List ℕ) (k : ℕ) (z z' : List ℕ) : Type 0 where
  pub size : length z' ≡ 32
  pub words : (j : ℕ) → j < k → get_or z' (i + j) 0 ≡ get_or z (i + j) 0 + c * get_or v j 0 + q * get_or t j 0
  pub before : (m : ℕ) → m < i → get_or z' m 0 ≡ get_or z m 0
  pub after : (m : ℕ) → i + k ≤ m → get_or z' m 0 ≡ get_or z m 0

pub record Half (p n k i : ℕ) (z : List ℕ) : Type 0 where
  pub size : length z ≡ 32
  pub small : (m : ℕ) → m < i + n → get_or z m 0 ≤ k * (3 * (p * p))
  pub blank : (m : ℕ) → m < i → get_or z m 0 ≡ 0

pub record Halves (p n k i : ℕ) (s e o : List ℕ) : Type 0 where
  pub even : Half p n (k + 1) i e
  pub odd : Half p n (k + 1) i o
  pub delayed : Delayed p n k s (joined n i e o)
