-- The joined words of the arrays of even and odd words, as a table.
--   joined_word i e o j   word j: e[i + j] + o[i + j − 1]
use mathlib.Core.Path.{◌≡◌, refl, sym, ap, ap₂, ◌∙◌}
use mathlib.Core.List.{List, ◌∷◌}
use Prim.Native.Nat.{ℕ, zero, suc, ◌+◌, ◌<◌}
use native.Mathlib.Omega.{arith}
use lib.ListN.{get_or, take}
use lib.Seq.{get_or-take}
use Rattle.array.specs.Array.{padded}
use Rattle.array.proofs.Painted.{table, table-length}
use Rattle.array.proofs.Padded.{take-padded}
use Rattle.residue.specs.Delayed.{joined_words, joined}

unfoldable pub joined_word : ℕ → List ℕ → List ℕ → ℕ → ℕ
joined_word i e o j = get_or e (i + j) 0 + get_or (0 ∷ o) (i + j) 0

pub table_same : (f g : ℕ → ℕ) (n : ℕ) → ((k : ℕ) → k < n → f k ≡ g k) → table f n ≡ table g n
unfolding table
table_same f g zero h = refl
table_same f g (suc n) h = ap₂ ◌∷◌ (h 0 (omega arith)) (table_same (λ k. f (suc k)) (λ k. g (suc k)) n (λ k l. h (suc k) (omega arith)))

table_word : (f : ℕ → ℕ) (n k : ℕ) → k < n → get_or (table f n) k 0 ≡ f k
unfolding table
table_word f zero k l = absurd (omega arith)
table_word f (suc n) zero l = refl
table_word f (suc n) (suc k) l = table_word (λ j. f (suc j)) n k (omega arith)

pub padded_word : (f : ℕ → ℕ) (n k : ℕ) → k < n → get_or (padded (table f n)) k 0 ≡ f k
padded_word f n k l = sym (get_or-take n (padded (table f n)) k 0 l) ∙ ap (λ u. get_or u k 0) (take-padded n (table f n) (table-length f n)) ∙ table_word f n k l

words_table : (n i : ℕ) (e o : List ℕ) → joined_words n i e o ≡ table (joined_word i e o) n
unfolding joined_words table joined_word
words_table zero i e o = refl
words_table (suc n) i e o =
    let here : i ≡ i + 0 = omega arith in
    ap₂ ◌∷◌ (ap (λ k. get_or e k 0 + get_or (0 ∷ o) k 0) here)
    (words_table n (suc i) e o ∙ table_same (joined_word (suc i) e o) (λ k. joined_word i e o (suc k)) n (λ k l. next k))
  where
    next : (k : ℕ) → joined_word (suc i) e o k ≡ joined_word i e o (suc k)
    next k =
        let up : suc i + k ≡ i + suc k = omega arith in
        ap (λ m. get_or e m 0 + get_or (0 ∷ o) m 0) up

pub joined-table : (n i : ℕ) (e o : List ℕ) → joined n i e o ≡ padded (table (joined_word i e o) n)
joined-table n i e o = ap padded (words_table n i e o)

pub joined_zeros : (n i : ℕ) (e o : List ℕ) → joined n i e o ≡ padded (take n (joined n i e o))
joined_zeros n i e o =
    joined-table n i e o
    ∙ ap padded (sym (ap (take n) (joined-table n i e o) ∙ take-padded n (table (joined_word i e o) n) (table-length (joined_word i e o) n)))

pub joined_word_lem : (n i k : ℕ) (e o : List ℕ) → k < n → get_or (joined n i e o) k 0 ≡ joined_word i e o k
joined_word_lem n i k e o l = ap (λ u. get_or u k 0) (joined-table n i e o) ∙ padded_word (joined_word i e o) n k l
