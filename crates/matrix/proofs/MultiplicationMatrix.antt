-- The matrix whose columns are the multiples X^k·S is that of u ↦ u·S. For u·(X^k·S) = u_0·X^k·S + X·(u'·(X^k·S)), where u' are the further
-- words of u, and X·(u'·v) = u'·(X·v).
use mathlib.Core.Path.{◌≡◌, refl, sym, ap, ap₂, fun_ext, ◌∙◌}
use mathlib.Core.List.{List, [], ◌∷◌, ◌++◌, map, append-nil}
use Prim.Native.Nat.{ℕ, zero, suc, ◌+◌, ◌-◌, ◌*◌, ◌%◌, ◌≤◌, ◌<◌}
use native.Mathlib.Nat as Nat
use native.Mathlib.Omega.{arith}
use lib.ListN.{length, get_or, take, replicate, get_or-replicate, length-map}
use lib.Seq.{take-length}
use Rattle.algebra.specs.Lists.{range}
use Rattle.algebra.proofs.Search.{range_length}
use Rattle.array.specs.Words.{Words, none, more}
use Rattle.array.specs.Array.{padded, Holds, entry, row_product}
use Rattle.array.proofs.Words.{words_length, zeros_words, padded_words}
use Rattle.array.proofs.Padded.{array_length, padded-length}
use Rattle.quotient.specs.Residue.{sum, scale, constant, shift, times_x, product}
use Rattle.quotient.proofs.Sums.{scale-zero, scale-suc}
use Rattle.quotient.proofs.TimesX.{times_x-sum, times_x_zeros}
use Rattle.quotient.proofs.Operations.{constant-zero, scale_words, times_x_words, product_words}
use Rattle.quotient.proofs.Ring.{mul_residue, mul_comm}
use Rattle.quotient.proofs.SumOfPowers.{sum_word, scale_word}
use Rattle.matrix.specs.Matrix.{multiple, Multiples, matrix_product}
use Rattle.array.proofs.Ranges.{words_range}

row_zeros : (m : List ℕ) (i j k : ℕ) (u : List ℕ) → row_product m i j (u ++ replicate k 0) ≡ row_product m i j u
unfolding row_product
row_zeros m i j zero [] = refl
row_zeros m i j (suc k) [] = rw (row_zeros m i (suc j) k []) (omega arith)
row_zeros m i j k (a ∷ u) = ap (λ x. entry m i j * a + x) (row_zeros m i (suc j) k u)

-- X·0 = 0, X·(c·v) = c·(X·v) and X·(u·v) = u·(X·v)

times_x-zero : {p n : ℕ} {t : List ℕ} → 2 ≤ p → Words p n t → times_x p t (constant n 0) ≡ constant n 0
unfolding constant times_x shift scale sum
times_x-zero big none = refl
times_x-zero big (more {n = k} h w) = times_x_zeros (more h w) [] k (zeros_words (suc k) (omega arith))

module _ {p n : ℕ} {t : List ℕ} (big : 2 ≤ p) (wt : Words p n t) where
  times_x-scale : (c : ℕ) {v : List ℕ} → Words p n v → times_x p t (scale p c v) ≡ scale p c (times_x p t v)
  times_x-scale zero w = ap (times_x p t) (scale-zero w) ∙ times_x-zero big wt ∙ sym (scale-zero (times_x_words big wt w))
  times_x-scale (suc c) {v} w =
      ap (times_x p t) (scale-suc c w) ∙ times_x-sum big wt w (scale_words c w)
      ∙ ap (sum p (times_x p t v)) (times_x-scale c w) ∙ sym (scale-suc c (times_x_words big wt w))

  times_x-product : (u : List ℕ) {v : List ℕ} → Words p n v → times_x p t (product p t u v) ≡ product p t u (times_x p t v)
  unfolding product
  times_x-product [] w = rw (words_length wt) (times_x-zero big wt)
  times_x-product (c ∷ u) w =
      times_x-sum big wt (scale_words c w) (times_x_words big wt (product_words big wt u w)) ∙ ap₂ (λ x y. sum p x (times_x p t y)) (times_x-scale c w) (times_x-product u w)

  pub product_comm : {u v : List ℕ} → Words p n u → Words p n v → product p t u v ≡ product p t v u
  unfolding mul_residue
  product_comm {u} {v} wu wv = ap (λ x. x.0) (mul_comm big wt (u, wu) (v, wv))

  module _ {s : List ℕ} (ws : Words p n s) where
    pub multiple_words : (k : ℕ) → Words p n (multiple p t s k)
    unfolding multiple
    multiple_words zero = ws
    multiple_words (suc k) = times_x_words big wt (multiple_words k)

    -- the word in row i of u·(X^k·S)
    pub row_multiplies : {q : ℕ} {m : List ℕ} → Multiples p q t s m → (i : ℕ) → i < n → (u : List ℕ) (k : ℕ) → k + length u ≤ q
        → row_product m i k u % p ≡ get_or (product p t u (multiple p t s k)) i 0
    unfolding row_product product multiple
    row_multiplies h i l [] k b =
        Nat.zero-mod p ∙ sym (ap (λ x. get_or x i 0) (ap (λ x. constant x 0) (words_length wt) ∙ constant-zero n) ∙ get_or-replicate n i 0 0 l)
    row_multiplies {q} {m} h i l (c ∷ u) k b =
        let wk : Words p n (multiple p t s k) = multiple_words k in
        sym (sum_word (scale_words c wk) (times_x_words big wt (product_words big wt u wk)) i l
        ∙ ap₂ (λ x y. (x + y) % p)
        (scale_word c wk i l ∙ ap (λ x. x % p) (ap (λ x. c * x) (sym (h.words i k (rw (words_length wt) l) (omega arith))) ∙ Nat.mul_comm c (entry m i k)))
        (ap (λ x. get_or x i 0) (times_x-product u wk) ∙ sym (row_multiplies h i l u (suc k) (omega arith)))
        ∙ Nat.mod-add-mod (entry m i k * c) p _ ∙ Nat.add-mod-mod (entry m i k * c) _ p)

    matrix_multiplies : {m u : List ℕ} → Multiples p n t s m → Words p n u → matrix_product p n m u ≡ product p t u s
    unfolding matrix_product multiple
    matrix_multiplies {m} {u} h wu =
        let fits : 0 + length u ≤ n = omega (arith, words_length wu) in
        words_range (λ i. row_product m i 0 u % p) (product_words big wt u ws) (λ i l. row_multiplies h i l u 0 fits)

-- the same of arrays that hold T, S and u; all 16 words of u are taken

module _ {p n : ℕ} {u : List ℕ} (short : n ≤ 16) (y : Holds p n u) where
  whole : take 16 u ≡ u
  whole = ap (λ k. take k u) (sym (array_length n u short y.zeros)) ∙ take-length u

  whole_words : take 16 u ≡ take n u ++ replicate (16 - n) 0
  unfolding padded
  whole_words = whole ∙ y.zeros ∙ ap (λ k. take n u ++ replicate (16 - k) 0) (words_length y.words)

  whole_padded : u ≡ padded (take 16 u)
  unfolding padded
  whole_padded = sym (ap padded whole ∙ ap (λ k. u ++ replicate (16 - k) 0) (array_length n u short y.zeros) ∙ append-nil u)

pub whole_holds : (p n : ℕ) (u : List ℕ) → 2 ≤ p → n ≤ 16 → Holds p n u → Holds p 16 u
whole_holds p n u big short y =
    let size : n + (16 - n) ≡ 16 = omega arith in
    record { words = rw (whole_words short y) (rw size at (padded_words (omega arith) y.words (16 - n))); zeros = whole_padded short y }

pub products_size : (p n : ℕ) (m u r : List ℕ) → n ≤ 16 → r ≡ padded (matrix_product p n m u) → length r ≡ 16
unfolding matrix_product
products_size p n m u r short e =
    ap length e ∙ padded-length _ (omega (arith, length-map (range 0 n) (λ i. row_product m i 0 u % p), range_length 0 n))

pub products_multiply : (p n : ℕ) (t s m u r : List ℕ) → 2 ≤ p → n ≤ 16 → Holds p n t → Holds p n s → Holds p n u → Multiples p n (take n t) (take n s) m
    → r ≡ padded (matrix_product p n m (take 16 u)) → r ≡ padded (product p (take n t) (take n s) (take n u))
unfolding matrix_product
products_multiply p n t s m u r big short x y z h e =
    e ∙ ap (λ v. padded (matrix_product p n m v)) (whole_words short z)
    ∙ ap padded (ap (λ f. map f (range 0 n)) (fun_ext (λ i. ap (λ a. a % p) (row_zeros m i 0 (16 - n) (take n u))))
    ∙ matrix_multiplies big x.words y.words h z.words ∙ product_comm big x.words z.words y.words)
