-- The loop over the terms of the resolvent. The images are words below p, because the products of the matrix with residues are reduced.
use mathlib.Core.Path.{◌≡◌}
use mathlib.Core.List.{List, map}
use Prim.Native.Nat.{ℕ, zero, suc, ◌+◌, ◌*◌, ◌%◌, ◌≤◌, ◌<◌}
use native.Mathlib.Decide.{dec_lt}
use native.Mathlib.Nat as Nat
use native.Mathlib.Omega.{arith}
use lib.ListN.{length, get_or, get_or-eq_default}
use Rattle.algebra.specs.Lists.{range}
use Rattle.array.specs.Array.{padded, Holds, row_product}
use Rattle.array.specs.Words.{Words, none, more}
use Rattle.array.proofs.Padded.{array_length, holds_is, holds_word}
use Rattle.array.proofs.Words.{words_up}
use Rattle.matrix.specs.Matrix.{matrix_product}
use Rattle.matrix.proofs.MultiplicationMatrix.{whole_holds}
use Rattle.modular.specs.declared.barrett.Barrett.{Barrett}
use Rattle.resolvent.specs.Sums.{Sums}

-- past its 16 words an array reads as 0
whole_word : {p : ℕ} {x : List ℕ} → Holds (suc p) 16 x → (i : ℕ) → get_or x i 0 < suc p
whole_word {p} {x} h i = by_place (dec_lt i 16)
  where
    by_place : Dec (i < 16) → get_or x i 0 < suc p
    by_place (yes l) = holds_word h i l
    by_place (no l) =
        let past : length x ≤ i = omega (arith, array_length 16 x (omega arith) h.zeros) in
        rw (get_or-eq_default x 0 past) (omega arith)

range_words : {p : ℕ} (f : ℕ → ℕ) (a n : ℕ) → ((i : ℕ) → i < a + n → f i < p) → Words p n (map f (range a n))
unfolding range
range_words f a zero h = none
range_words f a (suc n) h = more (h a (omega arith)) (range_words f (suc a) n (λ i l. h i (omega arith)))

module _ (d : Barrett) (n : ℕ) (x : List ℕ) (short : n ≤ 16) where
  -- the list of ones
  module _ (h : Holds 2 n x) where
    pub first_holds : Holds d.p n x
    first_holds = record { words = words_up d.reduces.big h.words; zeros = h.zeros }

    pub first_sums : Sums d.p 1 x
    first_sums = record { size = array_length n x short h.zeros; small = word }
      where
        word : (i : ℕ) → get_or x i 0 ≤ 1 * (d.p * d.p)
        word i =
            let one : get_or x i 0 < 2 = whole_word (whole_holds 2 n x (omega arith) short h) i in
            let some : 1 ≤ d.p = omega (arith, d.reduces.big) in
            omega (arith, Nat.mul-le-mul some some)

  -- F^j(x) from the one before
  module _ (m u : List ℕ) (e : x ≡ padded (matrix_product d.p n m u)) where
    pub next_holds : Holds d.p n x
    unfolding matrix_product
    next_holds = holds_is e (range_words (λ i. row_product m i 0 u % d.p) 0 n (λ i l. Nat.mod-lt (row_product m i 0 u) (omega (arith, d.reduces.big))))

    pub next_whole : Holds d.p 16 x
    next_whole = whole_holds d.p n x d.reduces.big short next_holds
