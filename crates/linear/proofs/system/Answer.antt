-- What the reduced system says of the one that elimination began with: the right side has become its solution, or a vector is taken to 0.
use mathlib.Core.Path.{◌≡◌, sym, ap, subst, ◌∙◌}
use mathlib.Core.Bool.{true, false}
use mathlib.Core.List.{List}
use Prim.Native.Nat.{ℕ, ◌+◌, ◌*◌, ◌%◌, ◌≤◌, ◌<◌}
use native.Mathlib.Nat.{mod-eq_of_lt, zero-mod}
use native.Mathlib.Omega.{arith}
use lib.ListN.{length, get_or, take}
use lib.Seq.{get_or-take}
use Rattle.array.specs.Words.{Words}
use Rattle.linear.proofs.Pivoting.{equivalent_refl, equivalent_trans}
use Rattle.linear.proofs.system.Sum.{product_single}
use Rattle.linear.proofs.system.Vectors.{zero_beyond, holds_of, holds_past}
use Rattle.array.specs.Array.{row_product, Holds, Square}
use Rattle.array.proofs.Words.{words_length, words_same, zeros_words}
use Rattle.array.proofs.Padded.{array_length, words_at, holds_word}
use Rattle.linear.specs.System.{Solves, Regular, Singular, Outcome}
use Rattle.linear.specs.Elimination.{Identity, Reduced, SolvesTimes, Equivalent, Advanced}

nothing : (x : ℕ) → 0 * x ≡ 0
nothing x = omega arith

-- A row of the identity times w is a word of w.
identity_row : (p n : ℕ) (m w : List ℕ) → Identity p n n m → length w ≡ n → (i : ℕ) → i < n → row_product m i 0 w ≡ get_or w i 0
identity_row p n m w I l i h =
    product_single m i n w l i h (λ j g d. rw (I.others i j h g (λ e. d (sym e))) (omega arith)) ∙ rw (I.diagonal i h) (omega arith)

-- The system of the identity has the solution b, and t·b for t·b.
module _ (p n k : ℕ) (m b m' b' : List ℕ) (positive : 0 < p) (small : n ≤ 16) (R : Reduced p n k m' b') (E : Equivalent p n m b m' b') (from : n ≤ k) (to : k ≤ n) where
  identity : Identity p n n m'
  identity = let e : k ≡ n = omega arith in subst (λ z. Identity p n z m') e R.matrix

  pub solution_holds : Holds p n b'
  solution_holds = holds_of p n b' small R.size R.below R.zeros

  times_one : (x : ℕ) → (1 * x) % p ≡ x % p
  times_one x = ap (λ z. z % p) (omega arith)

  solution_solves : Solves p n m b (take n b')
  solution_solves i h =
      E.back 1 (take n b') size (λ j g. ap (λ z. z % p) (identity_row p n m' (take n b') identity size j g ∙ get_or-take n b' j 0 g) ∙ sym (times_one (get_or b' j 0))) i h
      ∙ times_one (get_or b i 0)
    where
      size : length (take n b') ≡ n
      size = words_length solution_holds.words

  -- w_i = t·b_i modulo p for every solution w of M·w = t·b
  solution_word : (t : ℕ) (w : List ℕ) → Words p n w → SolvesTimes p n m t b w → (i : ℕ) → i < n → get_or w i 0 ≡ (t * get_or b' i 0) % p
  solution_word t w a h i g =
      sym (mod-eq_of_lt (words_at a i g)) ∙ ap (λ z. z % p) (sym (identity_row p n m' w identity (words_length a) i g))
      ∙ E.forth t w (words_length a) h i g

  pub solution_regular : Regular p n m b (take n b')
  solution_regular =
      record {
        solves = solution_solves;
        only =
            λ w a h.
            words_same a solution_holds.words
            (λ i g. solution_word 1 w a (λ j l. h j l ∙ sym (times_one (get_or b j 0))) i g ∙ times_one (get_or b' i 0) ∙ mod-eq_of_lt (R.below i g)
            ∙ sym (get_or-take n b' i 0 g));
        trivial =
            λ w a h.
            words_same a (zeros_words n positive)
            (λ i g. solution_word 0 w a (λ j l. h j l ∙ ap (λ z. z % p) (omega arith)) i g ∙ ap (λ z. z % p) (nothing (get_or b' i 0)) ∙ zero-mod p ∙ sym (zero_beyond n i));
      }

-- What is taken to 0 by the matrix at the end is taken to 0 by the first.
pub singular_back : (p n : ℕ) (m b m' b' w : List ℕ) → Equivalent p n m b m' b' → length w ≡ n → Singular p n m' w → Singular p n m w
singular_back p n m b m' b' w E l S =
    record {
      nonzero = S.nonzero;
      solves = λ i h. E.back 0 w l (λ j g. S.solves j g ∙ ap (λ z. z % p) (sym (nothing (get_or b' j 0)))) i h ∙ ap (λ z. z % p) (nothing (get_or b i 0));
    }

-- The walk over the columns: its start, a turn, and its two ends.
pub walk_start : (p n : ℕ) (m b : List ℕ) → n ≤ 16 → Square p n m → Holds p n b → Advanced p n 0 m b m b
walk_start p n m b small S held =
    record {
      reduced =
          record {
            matrix = record { square = S; diagonal = λ j h. absurd (omega arith); others = λ i j h g. absurd (omega arith) };
            size = array_length n b small held.zeros;
            below = holds_word held;
            zeros = holds_past held;
          };
      equivalent = equivalent_refl p n m b;
    }

pub walk_turn : (p q n c : ℕ) (m b m' b' x y : List ℕ) → q ≡ p → Advanced p n c m b m' b' → Advanced q n (c + 1) m' b' x y → Advanced p n (c + 1) m b x y
walk_turn p q n c m b m' b' x y e A B =
    let C : Advanced p n (c + 1) m' b' x y = rw e at B in
    record { reduced = C.reduced; equivalent = equivalent_trans A.equivalent C.equivalent }

pub outcome_singular : (p n c : ℕ) (m b m' b' v : List ℕ) → Advanced p n c m b m' b' → Holds p n v → Singular p n m' (take n v) → Outcome p n m b false v
outcome_singular p n c m b m' b' v A held S =
    record {
      holds = held;
      if_regular = λ e. absurd (let z : ◌≡◌ {A = ℕ} 0 1 = cc in omega arith);
      if_singular = λ _. singular_back p n m b m' b' (take n v) A.equivalent (words_length held.words) S;
    }

pub outcome_regular : (p n k : ℕ) (m b m' b' : List ℕ) → 2 ≤ p → n ≤ 16 → Advanced p n k m b m' b' → n ≤ k → k ≤ n → Outcome p n m b true b'
outcome_regular p n k m b m' b' prime small A from to =
    record {
      holds = solution_holds p n k m b m' b' (omega arith) small A.reduced A.equivalent from to;
      if_regular = λ _. solution_regular p n k m b m' b' (omega arith) small A.reduced A.equivalent from to;
      if_singular = λ e. absurd (let z : ◌≡◌ {A = ℕ} 0 1 = cc in omega arith);
    }
