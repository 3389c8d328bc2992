-- The loop that writes the words of a product into a list.
use mathlib.Core.Path.{◌≡◌, subst, sym, ap, ◌∙◌}
use mathlib.Core.List.{List}
use Prim.Native.Nat.{ℕ, ◌*◌, ◌%◌, ◌^◌, ◌≤◌, ◌<◌}
use native.Mathlib.Nat as Nat
use native.Mathlib.Decide.{dec_lt}
use native.Mathlib.Omega.{arith}
use lib.ListN.{length, get_or, take, length-take}
use lib.Seq.{length-take-le, get_or-take, take-append-le, take-take}
use mir.Syntax.{w32}
use mir.Val.{Fits}
use Rattle.array.specs.Words.{Words, word_bound}
use Rattle.array.specs.Array.{padded, Holds, Square}
use Rattle.array.proofs.Padded.{holds_is, holds_word, words_at, array_length}
use Rattle.array.proofs.Painted.{painted}
use Rattle.array.proofs.Words.{words_length, words_up, take_words}
use Rattle.modular.specs.declared.barrett.Barrett.{Barrett}
use Rattle.matrix.specs.Matrix.{matrix_product, Rows, Begins, Factors}
use Rattle.array.proofs.Ranges.{painted-range}
use Rattle.matrix.proofs.product.ProductLoop.{product_word}
use Rattle.matrix.proofs.product.RowLoop.{zero_word}

pub word_fits : (d : Barrett) (r x : ℕ) → r ≡ x % d.p → Fits w32 r
word_fits d r x e =
    let l : x % d.p < d.p = Nat.mod-lt x (omega (arith, d.reduces.big)) in
    omega (arith, d.reduces.small)

module _ (p n i : ℕ) (m u out₀ out : List ℕ) (e : out ≡ painted out₀ (product_word p m u) i) where
  pub list_done : length out₀ ≡ n → i ≤ n → n ≤ i → out ≡ matrix_product p n m u
  unfolding matrix_product product_word
  list_done size l l' = painted-range (product_word p m u) n i out₀ out size l l' e

-- of an array that begins with the words of v
pub loaded_done : (p n i : ℕ) (m u v out₀ out : List ℕ) → Begins n v u → length out₀ ≡ n → i ≤ length out₀ → length out₀ ≤ i
    → out ≡ painted out₀ (product_word p m (take n u)) i → out ≡ matrix_product p n m (take n v)
loaded_done p n i m u v out₀ out h size l l' e =
    list_done p n i m (take n u) out₀ out e size (omega arith) (omega arith) ∙ ap (matrix_product p n m) h.words

pub loaded_factors : (p n i : ℕ) (m u v : List ℕ) → i < n → Rows p n m → n ≤ length v → Words p (length v) v → Begins n v u → Factors p n i m u
loaded_factors p n i m u v li x long w h =
    record {
      size = h.size;
      low = h.low;
      below = λ j l. (x.square.below i j li l, rw (same j l) (words_at w j (omega arith)));
      rest = λ j l l'. ap (λ a. a * get_or u j 0) (x.zeros i j li l l') ∙ Nat.zero-mul (get_or u j 0);
    }
  where
    same : (j : ℕ) → j < n → get_or u j 0 ≡ get_or v j 0
    same j l = sym (get_or-take n u j 0 l) ∙ ap (λ xs. get_or xs j 0) h.words ∙ get_or-take n v j 0 l

-- an array of the first k words of u, of at least n
pub begins_loaded : (n k : ℕ) (u w : List ℕ) → n ≤ k → k ≤ 16 → k ≤ length u → Words word_bound (length u) u → w ≡ padded (take k u) → Begins n u w
unfolding padded
begins_loaded n k u w few short long wu e =
    let wk : Words word_bound k (take k u) = take_words wu k long in
    let held : Holds word_bound k w = holds_is e wk in
    record {
      size = array_length k w short held.zeros;
      low = λ j. low held j (dec_lt j k);
      words = ap (take n) e ∙ take-append-le n (take k u) _ (omega (arith, words_length wk)) ∙ take-take n k u few;
    }
  where
    low : Holds word_bound k w → (j : ℕ) → Dec (j < k) → get_or w j 0 < word_bound
    low held j (yes l) = holds_word held j l
    low held j (no l) = omega (arith, zero_word held j (omega arith))

-- the front of a list

pub front_count : (k : ℕ) (u : List ℕ) → k ≤ length u → k ≡ length (take k u)
front_count k u h = sym (length-take-le k u h)

pub front_short : (k : ℕ) (u : List ℕ) → k ≤ 16 → length (take k u) ≤ 16
front_short k u h = rw length-take (omega arith)

pub front_words : (p n : ℕ) (u : List ℕ) → n ≤ length u → Words p (length u) u → Words p n (take n u)
front_words p n u l w = take_words w n l

-- what is asked of few words, for the constant k that is their number
pub few_given : (p n k : ℕ) (m u : List ℕ) → n ≡ k → Rows p n m → n ≤ length u → Words p (length u) u → Square p k m × Words p k (take n u)
few_given p n k m u e h l w = subst (λ j. Square p j m × Words p j (take n u)) e (h.square, front_words p n u l w)

pub words_fit : (p : ℕ) (u : List ℕ) → p ≤ 2 ^ 20 → Words p (length u) u → Words word_bound (length u) u
words_fit p u few w = words_up (omega arith) w
