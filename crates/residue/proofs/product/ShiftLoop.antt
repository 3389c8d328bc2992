-- X times the joined words: the words of that, read one after another and reduced.
--   shifted n q t e o   the array that holds X times the joined words, whose top word has gone out as q·t
use mathlib.Core.Path.{◌≡◌, sym, ap, ap₂, ◌∙◌}
use mathlib.Core.List.{List, [], ◌∷◌}
use Prim.Native.Nat.{ℕ, suc, ◌+◌, ◌-◌, ◌*◌, ◌%◌, ◌^◌, ◌≤◌, ◌<◌}
use native.Mathlib.Nat as Nat
use native.Mathlib.Omega.{arith}
use lib.ListN.{length, get_or, take, set, replicate}
use lib.Seq.{length-take-le}
use mir.Syntax.{w64}
use mir.Val.{Fits}
use Rattle.quotient.specs.Residue.{times_x}
use Rattle.quotient.proofs.Operations.{times_x_words}
use Rattle.array.specs.Words.{Words, none, more}
use Rattle.array.specs.Array.{padded, Holds}
use Rattle.array.proofs.Painted.{painted, table, table-length, painted_turn}
use Rattle.array.proofs.Padded.{array_fits, painted-table, take-padded}
use Rattle.residue.specs.Delayed.{reduced, joined, Halves}
use Rattle.residue.proofs.Horner.{term, step_mod}
use Rattle.residue.proofs.Step.{word_short, taken_small, delayed_word}
use Rattle.residue.proofs.Remainders.{remainder, table-remainder}
use Rattle.residue.proofs.DelayedProduct.{zero_times_plus, joined_top_small}
use Rattle.residue.proofs.product.Joined.{padded_word, joined_zeros}

unfoldable pub shifted : ℕ → ℕ → List ℕ → List ℕ → List ℕ → List ℕ
shifted n q t e o = padded (table (term q 0 0 t t (joined n 0 e o)) n)

pub lowest_short : {p n j : ℕ} {t : List ℕ} → Holds p n t → p ≤ 2 ^ 20 → j < n → get_or t 0 0 < 2 ^ 32
lowest_short h b l = word_short h b 0 (omega arith)

module _ (p n j q : ℕ) (s t e o : List ℕ) (small : p ≤ 2 ^ 20) (short : n ≤ 16) (l : j < n) (lq : q ≤ 2 * p) (ht : Holds p n t) (H : Halves p n n 0 s e o) where
  pub shift_lowest : (r : ℕ) → j ≡ 0 → r ≡ q * get_or t 0 0 → r ≡ get_or (0 ∷ joined n 0 e o) j 0 + q * get_or t j 0
  shift_lowest r z f = rw z (f ∙ sym (Nat.zero-add (q * get_or t 0 0)))

  pub shift_lowest_small : (r : ℕ) → j ≡ 0 → r ≡ q * get_or t 0 0 → r ≤ 64 * (p * p)
  shift_lowest_small r z f = omega (arith, taken_small p n 0 q t short lq ht (omega arith))

  module _ (x y : ℕ) (f : x ≡ get_or (joined n 0 e o) (j - 1) 0) (g : y ≡ q * get_or t j 0) (d : j ≡ 0 → ⊥) where
    sum_bound : x + y ≤ 50 * (p * p)
    sum_bound =
        omega (arith, delayed_word H.delayed short (j - 1) (omega arith), Nat.mul-le-mul_right (3 * (p * p)) short, taken_small p n j q t short lq ht l)

    pub shift_fits : Fits w64 (x + y)
    shift_fits = omega (arith, sum_bound, Nat.mul-le-mul small small)

    pub shift_small : x + y ≤ 64 * (p * p)
    shift_small = omega (arith, sum_bound)

    pub shift_is : x + y ≡ get_or (0 ∷ joined n 0 e o) j 0 + q * get_or t j 0
    shift_is =
        let up : suc (j - 1) ≡ j = omega arith in
        ap₂ (λ a b. a + b) (f ∙ ap (λ k. get_or (0 ∷ joined n 0 e o) k 0) up) g

pub shift_turn : (p n j q x r : ℕ) (t e o w : List ℕ) → j < n → x ≡ get_or (0 ∷ joined n 0 e o) j 0 + q * get_or t j 0 → r ≡ x % p
    → w ≡ painted (replicate 16 0) (remainder p (shifted n q t e o)) j → set w j r ≡ painted (replicate 16 0) (remainder p (shifted n q t e o)) (j + 1)
unfolding remainder shifted term
shift_turn p n j q x r t e o w l f h g =
    let plain : x ≡ get_or (0 ∷ joined n 0 e o) j 0 + q * get_or t j 0 + 0 * get_or t j 0 = omega arith in
    painted_turn (remainder p (shifted n q t e o)) j r (replicate 16 0) w
    (h ∙ ap (λ y. y % p) (plain ∙ sym (padded_word (term q 0 0 t t (joined n 0 e o)) n j l))) g

reduced_below : {p : ℕ} → 0 < p → (u : List ℕ) → Words p (length u) (reduced p u)
unfolding reduced
reduced_below pos [] = none
reduced_below pos (a ∷ u) = more (Nat.mod-lt a pos) (reduced_below pos u)

pub shift_done : (p n j q : ℕ) (t e o w : List ℕ) → 2 ≤ p → 1 ≤ n → n ≤ 16 → Holds p n t → (q + get_or (joined n 0 e o) (n - 1) 0) % p ≡ 0
    → j ≤ n → n ≤ j → w ≡ painted (replicate 16 0) (remainder p (shifted n q t e o)) j
    → w ≡ padded (times_x p (take n t) (reduced p (take n (joined n 0 e o))))
unfolding shifted
shift_done p n j q t e o w big some short ht oq l l' f =
    painted-table (remainder p (shifted n q t e o)) n j w short l l' f
    ∙ ap padded
    (table-remainder p n (shifted n q t e o) (array_fits n (shifted n q t e o) short zeros)
    ∙ ap (reduced p) front
    ∙ step_mod p q 0 n t t (joined n 0 e o) (omega arith) some (array_fits n t short ht.zeros) (array_fits n t short ht.zeros) fits oq
    ∙ zero_times_plus big ht.words (times_x_words big ht.words below))
  where
    front : take n (padded (table (term q 0 0 t t (joined n 0 e o)) n)) ≡ table (term q 0 0 t t (joined n 0 e o)) n
    front = take-padded n (table (term q 0 0 t t (joined n 0 e o)) n) (table-length (term q 0 0 t t (joined n 0 e o)) n)

    zeros : padded (table (term q 0 0 t t (joined n 0 e o)) n) ≡ padded (take n (padded (table (term q 0 0 t t (joined n 0 e o)) n)))
    zeros = ap padded (sym front)

    fits : n ≤ length (joined n 0 e o)
    fits = array_fits n (joined n 0 e o) short (joined_zeros n 0 e o)

    below : Words p n (reduced p (take n (joined n 0 e o)))
    below = rw (length-take-le n (joined n 0 e o) fits) at (reduced_below {p = p} (omega arith) (take n (joined n 0 e o)))

-- both endings of a product
module _ (p n top : ℕ) (t s e o w : List ℕ) (H : Halves p n n 0 s e o) where
  pub top_small : 1 ≤ n → n ≤ 16 → top ≡ get_or (joined n 0 e o) (n - 1) 0 → top ≤ 64 * (p * p)
  top_small some short f = joined_top_small p n n 0 top s e o H short some short f

  pub top_opposite : (q : ℕ) → top ≡ get_or (joined n 0 e o) (n - 1) 0 → (q + top) % p ≡ 0 → (q + get_or (joined n 0 e o) (n - 1) 0) % p ≡ 0
  top_opposite q f h = ap (λ a. (q + a) % p) (sym f) ∙ h

  pub shifted_is : w ≡ padded (times_x p (take n t) (reduced p (take n (joined n 0 e o)))) → w ≡ padded (times_x p (take n t) s)
  shifted_is f = f ∙ ap (λ r. padded (times_x p (take n t) r)) H.delayed.words

  pub joined_is : w ≡ padded (reduced p (take n (joined n 0 e o))) → w ≡ padded s
  joined_is f = f ∙ ap padded H.delayed.words
