-- The matrix of u ↦ u·S modulo T: column 0 is S, and each further column is X times the column before.
use mathlib.Core.Path.{◌≡◌, sym, ap, subst, ◌∙◌}
use mathlib.Core.List.{List}
use Prim.Native.Nat.{ℕ, suc, ◌+◌, ◌-◌, ◌*◌, ◌≤◌, ◌<◌}
use native.Mathlib.Omega.{arith}
use lib.ListN.{length, get_or, take, replicate, length-replicate, get_or-replicate}
use Rattle.array.specs.Words.{Words}
use Rattle.array.specs.Array.{padded, Holds, entry, Square}
use Rattle.array.proofs.Words.{words_length}
use Rattle.array.proofs.Padded.{array_length, holds_is, front_is}
use Rattle.quotient.specs.Residue.{times_x}
use Rattle.matrix.specs.Matrix.{multiple, Multiples, Placed}
use Rattle.matrix.proofs.Placed.{placed_next, placed_below}
use Rattle.matrix.proofs.MultiplicationMatrix.{multiple_words}

zeros_below : (p : ℕ) (m : List ℕ) → 2 ≤ p → m ≡ replicate 256 0 → Square p 16 m
zeros_below p m big e = record {
  size = ap length e ∙ length-replicate {A = ℕ} 256 0;
  below = λ i j li lj. subst (λ a. a < p) (sym (ap (λ l. entry l i j) e ∙ get_or-replicate 256 (16 * i + j) 0 0 (omega arith))) (omega arith);
}

pub zeros_size : (m : List ℕ) → m ≡ replicate 256 0 → length m ≡ 256
zeros_size m e = ap length e ∙ length-replicate {A = ℕ} 256 0

pub multiple_holds : (p n k : ℕ) (t s w : List ℕ) → w ≡ padded (multiple p (take n t) (take n s) k) → 2 ≤ p → Holds p n t → Holds p n s → Holds p n w
multiple_holds p n k t s w e big x y = holds_is e (multiple_words big x.words y.words k)

module _ (p n : ℕ) (t s : List ℕ) (big : 2 ≤ p) (short : n ≤ 16) (x : Holds p n t) (y : Holds p n s) where
  words : (k : ℕ) → Words p n (multiple p (take n t) (take n s) k)
  words k = multiple_words big x.words y.words k

  module _ (k : ℕ) (w : List ℕ) (e : w ≡ padded (multiple p (take n t) (take n s) k)) where
    multiples_next : (m m' : List ℕ) → k < 16 → Square p 16 m
        → ((i j : ℕ) → i < length (take n t) → j < k → entry m i j ≡ get_or (multiple p (take n t) (take n s) j) i 0)
        → Placed n k w m m' → Multiples p (k + 1) (take n t) (take n s) m'
    multiples_next m m' low below before placed = record {
      words = λ i j li. placed_next (multiple p (take n t) (take n s)) k w m m' low (words k) placed e
          (λ i j li. before i j (rw (words_length x.words) li)) i j (rw (words_length x.words) at li);
      square = placed_below below (multiple_holds p n k t s w e big x y) placed;
    }

  -- column 0
  pub multiple_first : s ≡ padded (multiple p (take n t) (take n s) (1 - 1))
  unfolding multiple
  multiple_first = y.zeros

  pub multiples_one : (m m' : List ℕ) → m ≡ replicate 256 0 → Placed n 0 s m m' → Multiples p 1 (take n t) (take n s) m'
  multiples_one m m' e placed =
      multiples_next 0 s multiple_first m m' (omega arith) (zeros_below p m big e) (λ i j li lj. absurd (omega arith)) placed

  -- column k
  module _ (k : ℕ) (w w' : List ℕ) (some : 1 ≤ k) (e : w ≡ padded (multiple p (take n t) (take n s) (k - 1)))
      (f : w' ≡ padded (times_x p (take n t) (take n w))) where
    next : w' ≡ padded (multiple p (take n t) (take n s) k)
    unfolding multiple
    next =
        let up : suc (k - 1) ≡ k = omega arith in
        f ∙ ap padded (ap (times_x p (take n t)) (front_is e (words (k - 1))) ∙ ap (multiple p (take n t) (take n s)) up)

    pub multiple_size : length w' ≡ 16
    multiple_size = array_length n w' short (multiple_holds p n k t s w' next big x y).zeros

    pub multiple_turn : w' ≡ padded (multiple p (take n t) (take n s) (k + 1 - 1))
    multiple_turn =
        let same : k ≡ k + 1 - 1 = omega arith in
        next ∙ ap (λ j. padded (multiple p (take n t) (take n s) j)) same

    pub multiples_turn : (m m' : List ℕ) → k < n → Multiples p k (take n t) (take n s) m → Placed n k w' m m' → Multiples p (k + 1) (take n t) (take n s) m'
    multiples_turn m m' l h placed = multiples_next k w' next m m' (omega arith) h.square h.words placed

pub multiples_size : (p k : ℕ) (t s m : List ℕ) → Multiples p k t s m → length m ≡ 256
multiples_size p k t s m h = h.square.size

pub multiples_done : (p n k : ℕ) (t s m : List ℕ) → k ≤ n → n ≤ k → Multiples p k t s m → Multiples p n t s m
multiples_done p n k t s m l l' h =
    let same : k ≡ n = omega arith in
    subst (λ j. Multiples p j t s m) same h
