-- Before the first two steps: nothing is written where n is even, and one step is done where n is odd.
use mathlib.Core.Path.{◌≡◌, refl, sym, ap, subst, ◌∙◌}
use mathlib.Core.List.{List, ◌∷◌}
use Prim.Native.Nat.{ℕ, zero, suc, ◌+◌, ◌-◌, ◌*◌, ◌/◌, ◌%◌, ◌≤◌, ◌<◌}
use native.Mathlib.Decide.{dec_lt}
use native.Mathlib.Omega.{arith}
use lib.ListN.{length, get_or, take, drop, replicate, length-replicate}
use Rattle.quotient.specs.Residue.{product}
use Rattle.array.specs.Array.{padded, Holds}
use Rattle.array.proofs.Painted.{table}
use Rattle.array.proofs.Padded.{painted_array, padded_zeros, take_zeros, holds_word}
use Rattle.residue.specs.Delayed.{Delayed, Stepped, joined, Added, Half, Halves}
use Rattle.residue.proofs.Horner.{term}
use Rattle.residue.proofs.Step.{step_done}
use Rattle.residue.proofs.DelayedProduct.{product_starts, product_turn, zero_opposite}
use Rattle.residue.proofs.product.Joined.{joined_word, table_same, joined-table, joined_word_lem}
use Rattle.residue.proofs.product.TwoRows.{half_next}

-- arrays of zeros

zero_word : (m k : ℕ) → get_or (replicate {A = ℕ} m 0) k 0 ≡ 0
zero_word zero k = refl
zero_word (suc m) zero = refl
zero_word (suc m) (suc k) = zero_word m k

zero_before : (k : ℕ) → get_or (0 ∷ replicate {A = ℕ} 16 0) k 0 ≡ 0
zero_before zero = refl
zero_before (suc k) = zero_word 16 k

blank_word : (z : List ℕ) → z ≡ replicate 32 0 → (k : ℕ) → get_or z k 0 ≡ 0
blank_word z e k = ap (λ l. get_or l k 0) e ∙ zero_word 32 k

pub blank_half : (p n k i : ℕ) (z : List ℕ) → z ≡ replicate 32 0 → Half p n k i z
blank_half p n k i z e =
    record { size = ap length e ∙ length-replicate {A = ℕ} 32 0; small = λ m l. omega (arith, blank_word z e m); blank = λ m l. blank_word z e m }

table_zeros : (n : ℕ) → table (λ k. 0) n ≡ replicate n 0
unfolding table
table_zeros zero = refl
table_zeros (suc n) = ap (λ l. 0 ∷ l) (table_zeros n)

blank_joined : (n i : ℕ) (e o : List ℕ) → n ≤ 16 → e ≡ replicate 32 0 → o ≡ replicate 32 0 → joined n i e o ≡ replicate 16 0
unfolding joined_word
blank_joined n i e o short ze zo =
    joined-table n i e o ∙ ap padded (table_same (joined_word i e o) (λ k. 0) n (λ k l. word k) ∙ table_zeros n) ∙ sym (padded_zeros n short)
  where
    before : (m : ℕ) → get_or (0 ∷ o) m 0 ≡ 0
    before zero = refl
    before (suc m) = blank_word o zo m

    word : (k : ℕ) → joined_word i e o k ≡ 0
    word k = omega (arith, blank_word e ze (i + k), before (i + k))

-- n is even
module _ (p n : ℕ) (t u v e o : List ℕ) (short : n ≤ 16) (ht : Holds p n t) (hu : Holds p n u) (ze : e ≡ replicate 32 0) (zo : o ≡ replicate 32 0) (even : n % 2 ≡ 0) where
  whole : n ≡ 2 * (n / 2)
  whole = omega arith

  pub even_start : Halves p n (n - 2 * (n / 2)) (2 * (n / 2)) (product p (take n t) (drop (2 * (n / 2)) (take n u)) (take n v)) e o
  even_start =
      subst (λ i. Halves p n (n - i) i (product p (take n t) (drop i (take n u)) (take n v)) e o) whole
      (record {
        even = blank_half p n (n - n + 1) n e ze;
        odd = blank_half p n (n - n + 1) n o zo;
        delayed = product_starts p n t u v (joined n n e o) short ht hu (blank_joined n n e o short ze zo);
      })

  pub even_top : 0 ≡ get_or (joined n (2 * (n / 2)) e o) (n - 1) 0
  even_top = sym (ap (λ l. get_or l (n - 1) 0) (blank_joined n (2 * (n / 2)) e o short ze zo) ∙ zero_word 16 (n - 1))

-- n is odd
module _ (p n : ℕ) (t u v e o e' o' : List ℕ) (big : 2 ≤ p) (some : 1 ≤ n) (short : n ≤ 16) (ht : Holds p n t) (hu : Holds p n u) (hv : Holds p n v)
    (ze : e ≡ replicate 32 0) (zo : o ≡ replicate 32 0) (odd : n % 2 ≡ 0 → ⊥)
    (A : Added (n - 1) (get_or u (n - 1) 0) 0 v t n e e') (B : Added (n - 1) 0 0 v t n o o') where
  less : n - 1 ≡ 2 * (n / 2)
  less = omega arith

  odd_blank : (m : ℕ) → m < n - 1 + n → get_or o' m 0 ≡ 0
  odd_blank m l = go (dec_lt m (n - 1))
    where
      go : Dec (m < n - 1) → get_or o' m 0 ≡ 0
      go (yes g) = B.before m g ∙ blank_word o zo m
      go (no g) =
          let same : n - 1 + (m - (n - 1)) ≡ m = omega arith in
          let word : get_or o' (n - 1 + (m - (n - 1))) 0 ≡ 0 = omega (arith, B.words (m - (n - 1)) (omega arith), blank_word o zo (n - 1 + (m - (n - 1)))) in
          ap (λ k. get_or o' k 0) (sym same) ∙ word

  odd_before : (m : ℕ) → m ≤ n - 1 + n → get_or (0 ∷ o') m 0 ≡ 0
  odd_before zero l = refl
  odd_before (suc m) l = odd_blank m (omega arith)

  only_word : (j : ℕ) → j < n → joined_word (n - 1) e' o' j ≡ term 0 (get_or u (n - 1) 0) 0 t v (replicate 16 0) j
  unfolding joined_word term
  only_word j l = omega (arith, A.words j l, blank_word e ze (n - 1 + j), odd_before (n - 1 + j) (omega arith), zero_before j)

  only : joined n (n - 1) e' o' ≡ padded (table (term 0 (get_or u (n - 1) 0) 0 t v (replicate 16 0)) n)
  only = joined-table n (n - 1) e' o' ∙ ap padded (table_same (joined_word (n - 1) e' o') (term 0 (get_or u (n - 1) 0) 0 t v (replicate 16 0)) n only_word)

  only_stepped : Stepped p n (take n t) (get_or u (n - 1) 0) (take n v) (replicate 16 0) (joined n (n - 1) e' o')
  only_stepped =
      step_done p n n 0 (get_or u (n - 1) 0) t v (replicate 16 0) (joined n (n - 1) e' o') big some short (holds_word hu (n - 1) (omega arith)) ht hv (omega arith)
      (zero_opposite p n (replicate 16 0) some short refl) (omega arith) (omega arith)
      (only ∙ sym (painted_array n (term 0 (get_or u (n - 1) 0) 0 t v (replicate 16 0)) (replicate 16 0) short (padded_zeros n short ∙ ap padded (sym (take_zeros n short)))))

  pub odd_start : Halves p n (n - 2 * (n / 2)) (2 * (n / 2)) (product p (take n t) (drop (2 * (n / 2)) (take n u)) (take n v)) e' o'
  odd_start =
      let next : n ≡ n - 1 + 1 = omega arith in
      let two : 0 + 2 ≡ n - (n - 1) + 1 = omega arith in
      subst (λ i. Halves p n (n - i) i (product p (take n t) (drop i (take n u)) (take n v)) e' o') less
      (record {
        even = subst (λ k. Half p n k (n - 1) e') two
            (half_next p n 0 (n - 1) (get_or u (n - 1) 0) 0 v t e e' ht hv (holds_word hu (n - 1) (omega arith)) (omega arith) (blank_half p n 0 (n - 1 + 2) e ze) A);
        odd = subst (λ k. Half p n k (n - 1) o') two (half_next p n 0 (n - 1) 0 0 v t o o' ht hv (omega arith) (omega arith) (blank_half p n 0 (n - 1 + 2) o zo) B);
        delayed =
            product_turn p n (n - 1) t u v (replicate 16 0) (joined n (n - 1) e' o') (omega arith) short hu
            (subst (λ i. Delayed p n (n - i) (product p (take n t) (drop i (take n u)) (take n v)) (replicate 16 0)) next (product_starts p n t u v (replicate 16 0) short ht hu refl))
            only_stepped;
      })

  pub odd_top : (r : ℕ) → r ≡ get_or u (n - 1) 0 * get_or v (n - 1) 0 → r ≡ get_or (joined n (2 * (n / 2)) e' o') (n - 1) 0
  unfolding term
  odd_top r f =
      let word : get_or (joined n (n - 1) e' o') (n - 1) 0 ≡ get_or (0 ∷ replicate 16 0) (n - 1) 0 + 0 * get_or t (n - 1) 0 + get_or u (n - 1) 0 * get_or v (n - 1) 0
      = joined_word_lem n (n - 1) (n - 1) e' o' (omega arith) ∙ only_word (n - 1) (omega arith) in
      let value : r ≡ get_or (joined n (n - 1) e' o') (n - 1) 0 = omega (arith, zero_before (n - 1)) in
      value ∙ ap (λ i. get_or (joined n i e' o') (n - 1) 0) less
