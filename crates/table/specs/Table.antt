-- Tables of residues (document 01, "The session"): "The k-th group of n words in the output is the image of the k-th group of the input."
--   most_words                   the most words that one conversion takes
--   each_group n f k table       f of each of the first k groups of n words, one after the other
--   converted p n t s table      the images of a table's groups under u ↦ u(S) modulo T
--   refuse_table n table out rest   9 and 10, by the lengths of a table and of the list lent for its image; then what comes after
--   table_number p n table out   the refusals by a table and the list lent for its image: 9, 10, 4
--   Images n f table image       image has the table's length, and its k-th group of n words is f of the table's k-th group, for every k
use Rattle.std.specs.Prelude.{◌≡◌, ◌||◌, not, List, [], ◌∷◌, ◌++◌, ℕ, zero, suc, ◌*◌, ◌/◌, ◌%◌, ◌<◌, ltb, eqb, length, take, drop}
use Rattle.refusal.specs.Refusal.{refuse, bad_word}
use Rattle.quotient.specs.Residue.{substitute}

abbrev pub most_words : ℕ
most_words = 16384

unfoldable pub each_group : ℕ → (List ℕ → List ℕ) → ℕ → List ℕ → List ℕ
each_group n f zero table = []
each_group n f (suc k) table = f (take n table) ++ each_group n f k (drop n table)

unfoldable pub converted : ℕ → ℕ → List ℕ → List ℕ → List ℕ → List ℕ
converted p n t s table = each_group n (substitute p t s) (length table / n) table

abbrev pub refuse_table : ℕ → List ℕ → List ℕ → ℕ → ℕ
refuse_table n table out rest =
    refuse 9 (ltb most_words (length table) || not (eqb (length table % n) 0)) (refuse 10 (not (eqb (length out) (length table))) rest)

unfoldable pub table_number : ℕ → ℕ → List ℕ → List ℕ → ℕ
table_number p n table out = refuse_table n table out (refuse 4 (bad_word p (table ∷ [])) 0)

pub record Images (n : ℕ) (f : List ℕ → List ℕ) (table image : List ℕ) : Type 0 where
  pub same_length : length image ≡ length table
  pub groups : (k : ℕ) → k < length table / n → take n (drop (k * n) image) ≡ f (take n (drop (k * n) table))
