-- What two steps of Horner's rule ask for, and what they leave: from the product of the words of u from word i + 2 on to that of the words from word i on.
use mathlib.Core.Path.{◌≡◌, sym, ap, ap₂, subst, ◌∙◌}
use mathlib.Core.List.{List, ◌∷◌}
use Prim.Native.Nat.{ℕ, suc, ◌+◌, ◌-◌, ◌*◌, ◌%◌, ◌≤◌, ◌<◌}
use native.Mathlib.Nat as Nat
use native.Mathlib.Omega.{arith}
use lib.ListN.{get_or, take, drop}
use Rattle.quotient.specs.Residue.{product}
use Rattle.array.specs.Array.{padded, Holds}
use Rattle.array.proofs.Painted.{table}
use Rattle.array.proofs.Padded.{painted_array, holds_word}
use Rattle.residue.specs.Delayed.{Delayed, Stepped, joined, Added, Half, Halves}
use Rattle.residue.proofs.Horner.{term}
use Rattle.residue.proofs.Step.{step_done, delayed_word}
use Rattle.residue.proofs.DelayedProduct.{product_turn, joined_top_small}
use Rattle.residue.proofs.product.Joined.{joined_word, joined_zeros, joined_word_lem}
use Rattle.residue.proofs.product.TwoRows.{half_next, middle, middle_word, joined_after}

-- words below p, and bounds that a call may assume
half_more : {p n j k i i' : ℕ} {z : List ℕ} → j ≤ k → i' ≤ i → Half p n j i z → Half p n k i' z
half_more {p} l low H =
    record {
      size = H.size;
      small = λ m g. Nat.le_trans (H.small m (omega arith)) (Nat.mul-le-mul_right (3 * (p * p)) l);
      blank = λ m g. H.blank m (omega arith);
    }

pub coefficient_below : (p n i : ℕ) (u : List ℕ) → i + 2 ≤ n → Holds p n u → get_or u i 0 < p
coefficient_below p n i u low y = holds_word y i (omega arith)

pub next_below : (p n i : ℕ) (u : List ℕ) → i + 2 ≤ n → Holds p n u → get_or u (i + 1) 0 < p
next_below p n i u low y = holds_word y (i + 1) (omega arith)

module _ (p n i h : ℕ) (t u v e o : List ℕ) (short : n ≤ 16) (low : i + 2 ≤ n)
    (H : Halves p n (n - (i + 2)) (i + 2) (product p (take n t) (drop (i + 2) (take n u)) (take n v)) e o) where
  few : n - (i + 2) + 1 ≤ 16
  few = omega arith

  pub even_here : Half p n 16 (i + 2) e
  even_here = half_more few (omega arith) H.even

  pub odd_here : Half p n 16 (i + 2) o
  odd_here = half_more few (omega arith) H.odd

  pub even_given : Half p n 16 i e
  even_given = half_more few (omega arith) H.even

  pub odd_given : Half p n 16 i o
  odd_given = half_more few (omega arith) H.odd

  module _ (top : h ≡ get_or (joined n (i + 2) e o) (n - 1) 0) where
    pub top_small : h ≤ 64 * (p * p)
    top_small = joined_top_small p n (n - (i + 2)) (i + 2) h (product p (take n t) (drop (i + 2) (take n u)) (take n v)) e o H (omega arith) (omega arith) short top

    module _ (r x : ℕ) (big : 2 ≤ p) (ht : Holds p n t) (hu : Holds p n u) (hv : Holds p n v) (lr : r ≤ 2 * p) (or : (r + h) % p ≡ 0)
        (ex : x ≡ get_or e (i + n) 0 + (get_or o (i + n - 1) 0 + get_or u (i + 1) 0 * get_or v (n - 1) 0 + r * get_or t (n - 1) 0)) where
      between : List ℕ
      between = middle p n (n - (i + 2) + 1) i 0 0 (get_or u (i + 1) 0) r t v e o short H.even H.odd

      between_stepped : Stepped p n (take n t) (get_or u (i + 1) 0) (take n v) (joined n (i + 2) e o) between
      unfolding between
      between_stepped =
          step_done p n n r (get_or u (i + 1) 0) t v (joined n (i + 2) e o) between big (omega arith) short (next_below p n i u low hu) ht hv lr
          (ap (λ y. (r + y) % p) (sym top) ∙ or) (omega arith) (omega arith)
          (sym (painted_array n (term r (get_or u (i + 1) 0) 0 t v (joined n (i + 2) e o)) (joined n (i + 2) e o) short (joined_zeros n (i + 2) e o)))

      between_delayed : Delayed p n (n - (i + 1)) (product p (take n t) (drop (i + 1) (take n u)) (take n v)) between
      between_delayed =
          let up : i + 2 ≡ i + 1 + 1 = omega arith in
          product_turn p n (i + 1) t u v (joined n (i + 2) e o) between (omega arith) short hu
          (subst (λ m. Delayed p n (n - m) (product p (take n t) (drop m (take n u)) (take n v)) (joined n (i + 2) e o)) up H.delayed) between_stepped

      between_top : x ≡ get_or between (n - 1) 0
      unfolding between
      between_top =
          let above : i + n ≡ i + suc (n - 1) = omega arith in
          let here : i + n - 1 ≡ i + (n - 1) = omega arith in
          ex
          ∙ ap₂ (λ a b. get_or e a 0 + (get_or o b 0 + get_or u (i + 1) 0 * get_or v (n - 1) 0 + r * get_or t (n - 1) 0)) above here
          ∙ sym (middle_word p n (n - (i + 2) + 1) i 0 0 (get_or u (i + 1) 0) r t v e o short H.even H.odd (n - 1) (omega arith))

      pub between_small : x ≤ 64 * (p * p)
      between_small =
          let less : n - (i + 1) ≤ 16 = omega arith in
          omega (arith, between_top, delayed_word between_delayed short (n - 1) (omega arith), Nat.mul-le-mul_right (3 * (p * p)) less)

      module _ (q : ℕ) (e' o' : List ℕ) (lq : q ≤ 2 * p) (oq : (q + x) % p ≡ 0) (A : Added i (get_or u i 0) q v t n e e') (B : Added i (get_or u (i + 1) 0) r v t n o o') where
        ended : joined n i e' o' ≡ padded (table (term q (get_or u i 0) 0 t v between) n)
        unfolding between
        ended = joined_after p n (n - (i + 2) + 1) i (get_or u i 0) q (get_or u (i + 1) 0) r t v e o short H.even H.odd e' o' A B

        ended_stepped : Stepped p n (take n t) (get_or u i 0) (take n v) between (joined n i e' o')
        unfolding between
        ended_stepped =
            step_done p n n q (get_or u i 0) t v between (joined n i e' o') big (omega arith) short (coefficient_below p n i u low hu) ht hv lq
            (ap (λ y. (q + y) % p) (sym between_top) ∙ oq) (omega arith) (omega arith)
            (ended ∙ sym (painted_array n (term q (get_or u i 0) 0 t v between) between short between_delayed.zeros))

        steps_done : Halves p n (n - i) i (product p (take n t) (drop i (take n u)) (take n v)) e' o'
        steps_done =
            let all : n - (i + 2) + 1 + 2 ≡ n - i + 1 = omega arith in
            record {
              even = subst (λ k. Half p n k i e') all (half_next p n (n - (i + 2) + 1) i (get_or u i 0) q v t e e' ht hv (coefficient_below p n i u low hu) lq H.even A);
              odd = subst (λ k. Half p n k i o') all (half_next p n (n - (i + 2) + 1) i (get_or u (i + 1) 0) r v t o o' ht hv (next_below p n i u low hu) lr H.odd B);
              delayed = product_turn p n i t u v between (joined n i e' o') (omega arith) short hu between_delayed ended_stepped;
            }

        steps_top : (y : ℕ)
            → y ≡ get_or e (i + n - 1) 0 + get_or u i 0 * get_or v (n - 1) 0 + q * get_or t (n - 1) 0 + (get_or o (i + n - 2) 0 + get_or u (i + 1) 0 * get_or v (n - 2) 0 + r * get_or t (n - 2) 0)
            → y ≡ get_or (joined n i e' o') (n - 1) 0
        unfolding joined_word
        steps_top y f =
            let even : i + n - 1 ≡ i + (n - 1) = omega arith in
            let odd : i + n - 2 ≡ i + (n - 2) = omega arith in
            let up : suc (i + (n - 2)) ≡ i + (n - 1) = omega arith in
            f
            ∙ ap₂ (λ a b. get_or e a 0 + get_or u i 0 * get_or v (n - 1) 0 + q * get_or t (n - 1) 0 + (get_or o b 0 + get_or u (i + 1) 0 * get_or v (n - 2) 0 + r * get_or t (n - 2) 0)) even odd
            ∙ ap₂ (λ a b. a + b) (sym (A.words (n - 1) (omega arith))) (sym (B.words (n - 2) (omega arith)))
            ∙ ap (λ m. get_or e' (i + (n - 1)) 0 + get_or (0 ∷ o') m 0) up
            ∙ sym (joined_word_lem n i (n - 1) e' o' (omega arith))

        pub steps_end : (y : ℕ)
            → y ≡ get_or e (i + n - 1) 0 + get_or u i 0 * get_or v (n - 1) 0 + q * get_or t (n - 1) 0 + (get_or o (i + n - 2) 0 + get_or u (i + 1) 0 * get_or v (n - 2) 0 + r * get_or t (n - 2) 0)
            → Halves p n (n - i) i (product p (take n t) (drop i (take n u)) (take n v)) e' o' × (y ≡ get_or (joined n i e' o') (n - 1) 0)
        steps_end y f = (steps_done, steps_top y f)
