-- Rows added to both arrays are two steps of Horner's rule, one after the other: the array between the steps is never written, but its words are known.
--   start    the joined words before the steps, from word i + 2 on
--   middle   the array between the steps, with the words `first`
--   second   the words after both steps
use mathlib.Core.Path.{◌≡◌, refl, sym, ap, ap₂, subst, ◌∙◌}
use mathlib.Core.List.{List, ◌∷◌}
use Prim.Native.Nat.{ℕ, zero, suc, ◌+◌, ◌-◌, ◌*◌, ◌≤◌, ◌<◌}
use native.Mathlib.Nat as Nat
use native.Mathlib.Decide.{dec_lt}
use native.Mathlib.Omega.{arith}
use lib.ListN.{get_or}
use Rattle.array.specs.Array.{padded, Holds}
use Rattle.array.proofs.Painted.{table}
use Rattle.array.proofs.Padded.{holds_word}
use Rattle.residue.specs.Delayed.{joined, Added, Half}
use Rattle.residue.proofs.Horner.{term}
use Rattle.residue.proofs.product.Joined.{joined_word, table_same, padded_word, joined-table, joined_word_lem}

-- one of the two arrays: its bound grows, and it is 0 below word i
pub half_next : (p n k i c q : ℕ) (v t z z' : List ℕ) → Holds p n t → Holds p n v → c < p → q ≤ 2 * p → Half p n k (i + 2) z → Added i c q v t n z z' → Half p n (k + 2) i z'
half_next p n k i c q v t z z' ht hv lc lq H A =
    record { size = A.size; small = λ m l. go m l (dec_lt m i); blank = λ m l. A.before m l ∙ H.blank m (omega arith) }
  where
    added : (j : ℕ) → j < n → get_or z' (i + j) 0 ≤ (k + 2) * (3 * (p * p))
    added j l =
        let x : c * get_or v j 0 ≤ p * p = Nat.mul-le-mul (Nat.le_of_lt lc) (Nat.le_of_lt (holds_word hv j l)) in
        let y : q * get_or t j 0 ≤ 2 * p * p = Nat.mul-le-mul lq (Nat.le_of_lt (holds_word ht j l)) in
        let w : get_or z (i + j) 0 ≤ k * (3 * (p * p)) = H.small (i + j) (omega arith) in
        omega (arith, A.words j l)

    go : (m : ℕ) → m < i + n → Dec (m < i) → get_or z' m 0 ≤ (k + 2) * (3 * (p * p))
    go m l (yes g) = omega (arith, A.before m g, H.blank m (omega arith))
    go m l (no g) =
        let same : i + (m - i) ≡ m = omega arith in
        subst (λ x. get_or z' x 0 ≤ (k + 2) * (3 * (p * p))) same (added (m - i) (omega arith))

module _ (p n k i c q b r : ℕ) (t v e o : List ℕ) (short : n ≤ 16) (He : Half p n k (i + 2) e) (Ho : Half p n k (i + 2) o) where
  abbrev pub start : List ℕ
  start = joined n (i + 2) e o

  abbrev pub first : ℕ → ℕ
  first = term r b 0 t v start

  abbrev pub middle : List ℕ
  middle = padded (table first n)

  abbrev pub second : ℕ → ℕ
  second = term q c 0 t v middle

  -- the words below, which are what word m of the array between the steps has beside its products
  below_words : (m : ℕ) → m < n → get_or e (i + suc m) 0 + get_or o (i + m) 0 ≡ get_or (0 ∷ start) m 0
  unfolding joined_word
  below_words zero l = ap₂ (λ x y. x + y) (He.blank (i + 1) (omega arith)) (Ho.blank (i + 0) (omega arith))
  below_words (suc m) l =
      let even : i + suc (suc m) ≡ i + 2 + m = omega arith in
      let odd : suc (i + suc m) ≡ i + 2 + m = omega arith in
      ap₂ (λ x y. get_or e x 0 + get_or (0 ∷ o) y 0) even odd ∙ sym (joined_word_lem n (i + 2) m e o (omega arith))

  pub middle_word : (m : ℕ) → m < n → get_or middle m 0 ≡ get_or e (i + suc m) 0 + (get_or o (i + m) 0 + b * get_or v m 0 + r * get_or t m 0)
  unfolding term
  middle_word m l =
      padded_word first n m l ∙ ap (λ x. x + r * get_or t m 0 + b * get_or v m 0) (sym (below_words m l)) ∙ omega arith

  module _ (e' o' : List ℕ) (A : Added i c q v t n e e') (B : Added i b r v t n o o') where
    after : (j : ℕ) → j < n → joined_word i e' o' j ≡ second j
    unfolding joined_word term
    after zero l =
        let blank : get_or e (i + 0) 0 ≡ 0 = He.blank (i + 0) (omega arith) in
        let none : get_or (0 ∷ o') (i + 0) 0 ≡ 0 = before (i + 0) (omega arith) in
        omega (arith, A.words 0 l)
      where
        before : (m : ℕ) → m ≤ i → get_or (0 ∷ o') m 0 ≡ 0
        before zero g = refl
        before (suc m) g = B.before m (omega arith) ∙ Ho.blank m (omega arith)
    after (suc m) l =
        let up : i + suc m ≡ suc (i + m) = omega arith in
        let odd : get_or (0 ∷ o') (i + suc m) 0 ≡ get_or o (i + m) 0 + b * get_or v m 0 + r * get_or t m 0 = ap (λ x. get_or (0 ∷ o') x 0) up ∙ B.words m (omega arith) in
        omega (arith, A.words (suc m) l, middle_word m (omega arith))

    pub joined_after : joined n i e' o' ≡ padded (table second n)
    joined_after = joined-table n i e' o' ∙ ap padded (table_same (joined_word i e' o') second n after)
