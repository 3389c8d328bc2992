-- The loop of `plane`: before turn i there are the words for all H of i words, p^i of them, and w is X^i·D. One word more makes p blocks of them.
use mathlib.Core.Path.{◌≡◌, refl, sym, ap, ap₂, subst, ◌∙◌}
use mathlib.Core.List.{List}
use Prim.Native.Nat.{ℕ, zero, suc, ◌+◌, ◌*◌, ◌/◌, ◌%◌, ◌^◌, ◌≤◌, ◌<◌}
use native.Mathlib.Nat as Nat
use native.Mathlib.Numerals.{add-one}
use native.Mathlib.Omega.{arith}
use lib.ListN.{length, get_or, take, set, length-set}
use lib.Seq.{get_or-set_same, get_or-take}
use Rattle.array.specs.Array.{padded, Holds}
use Rattle.array.specs.Words.{Words}
use Rattle.array.proofs.Digits.{digit_below}
use Rattle.array.proofs.Padded.{holds_is, front_is, holds_word, words_at}
use Rattle.array.proofs.Ranges.{zeros_word}
use Rattle.matrix.specs.Matrix.{multiple}
use Rattle.matrix.proofs.MultiplicationMatrix.{multiple_words}
use Rattle.quotient.specs.Residue.{times_x}
use Rattle.quotient.proofs.Operations.{constant-zero, scale_words, times_x_words}
use Rattle.quotient.proofs.SumOfPowers.{sum_word, scale_word}
use Rattle.sieve.specs.Clauses.{WordsBelow, Extended, Plane}
use Rattle.sieve.specs.Multiples.{times}
use Rattle.sieve.proofs.LowerWords.{times_words, times_none, times_next}

pub word_small : (p n j : ℕ) (w : List ℕ) → p ≤ 256 → j < n → Holds p n w → get_or w j 0 < 65536
word_small p n j w small place h = omega (arith, holds_word h j place)

pub word_below : (p n j r : ℕ) (w : List ℕ) → j < n → Holds p n w → r ≡ get_or w j 0 → r < p
word_below p n j r w place h e = subst (λ a. a < p) (sym e) (holds_word h j place)

-- word j of H·D with one word more
times_word : {p m : ℕ} {d : List ℕ} → 2 ≤ p → Words p (suc m) d → (k x j : ℕ) → x < p ^ suc k → j < suc m
    → get_or (times p d (suc k) x) j 0 ≡ (get_or (times p d k (x % p ^ k)) j 0 + x / p ^ k * get_or (multiple p d d k) j 0) % p
times_word {p} {m} {d} big wd k x j l place =
    let c : ℕ = x / p ^ k in
    let w : Words p (suc m) (multiple p d d k) = multiple_words big wd wd k in
    ap (λ u. get_or u j 0) (times_next big wd k x l) ∙ sum_word (times_words big wd k (x % p ^ k)) (scale_words c w) j place
    ∙ ap (λ a. (get_or (times p d k (x % p ^ k)) j 0 + a) % p) (scale_word c w j place)
    ∙ Nat.add-mod-mod (get_or (times p d k (x % p ^ k)) j 0) (c * get_or (multiple p d d k) j 0) p

module _ (p n : ℕ) (t : List ℕ) (big : 2 ≤ p) (h : Holds p n t) where
  -- X^i·D

  pub shifted_first : t ≡ padded (multiple p (take n t) (take n t) 0)
  unfolding multiple
  shifted_first = h.zeros

  pub shifted_turn : (i : ℕ) (w w' : List ℕ) → w ≡ padded (multiple p (take n t) (take n t) i) → w' ≡ padded (times_x p (take n t) (take n w))
      → w' ≡ padded (multiple p (take n t) (take n t) (i + 1))
  unfolding multiple
  shifted_turn i w w' e f =
      f ∙ ap (λ u. padded (times_x p (take n t) u)) (front_is e (multiple_words big h.words h.words i))
      ∙ ap (λ k. padded (multiple p (take n t) (take n t) k)) (sym (add-one i))

pub shifted_holds : (p n : ℕ) (t w w' : List ℕ) → w' ≡ padded (times_x p (take n t) (take n w)) → Holds p n w → Holds p n t → 2 ≤ p → Holds p n w'
shifted_holds p n t w w' f k h big = holds_is f (times_x_words big h.words k.words)

module _ (p n j : ℕ) (t : List ℕ) (big : 2 ≤ p) (some : 1 ≤ n) (place : j < n) (h : Holds p n t) where
  abbrev D : List ℕ
  D = take n t

  -- the words for all H of i words

  pub plane_below : (i size q : ℕ) (xs : List ℕ) → q ≡ p → size ≡ p ^ i → Plane p (take n t) i j xs → WordsBelow q size xs
  plane_below i size q xs f e plane = subst (λ q. WordsBelow q size xs) (sym f) (below n h.words some place)
    where
      below : (n : ℕ) → Words p n D → 1 ≤ n → j < n → WordsBelow p size xs
      below zero w some place = absurd (omega arith)
      below (suc m) w some place = record {
        size = plane.size;
        words = λ x l. subst (λ a. a < p) (sym (plane.words x (rw e at l))) (words_at (times_words big w i x) j place);
      }

  pub plane_first : (xs : List ℕ) → length xs ≡ 32768 → Plane p (take n t) 0 j (set xs 0 0)
  plane_first xs size = by_degree n h.words some
    where
      by_degree : (n : ℕ) → Words p n D → 1 ≤ n → Plane p D 0 j (set xs 0 0)
      by_degree zero w some = absurd (omega arith)
      by_degree (suc m) w some = record {
        size = length-set xs 0 0 ∙ size;
        words = λ x l.
            let none : x ≡ 0 = omega (arith, l, Nat.pow-zero p) in
            ap (λ k. get_or (set xs 0 0) k 0) none ∙ get_or-set_same xs 0 0 0 (omega arith)
            ∙ sym (ap (λ u. get_or u j 0) (times_none big w x ∙ constant-zero (suc m)) ∙ zeros_word (suc m) j);
      }

  module _ (i size c : ℕ) (w xs ys : List ℕ) (power : size ≡ p ^ i) (e : w ≡ padded (multiple p (take n t) (take n t) i)) (same : c ≡ get_or w j 0) where
    shifted_is : get_or w j 0 ≡ get_or (multiple p D D i) j 0
    shifted_is = sym (get_or-take n w j 0 place) ∙ ap (λ u. get_or u j 0) (front_is e (multiple_words big h.words h.words i))

    by_degree : Plane p D i j xs → Extended p p size c xs ys → (n : ℕ) → Words p n D → j < n → Plane p D (suc i) j ys
    by_degree plane x zero wd place = absurd (omega arith)
    by_degree plane x (suc m) wd place = record {
      size = x.same_length ∙ plane.size;
      words = λ y l.
          let positive : 0 < p ^ i = Nat.one-le-pow i p (omega arith) in
          let low : y % p ^ i < p ^ i = Nat.mod-lt y positive in
          let index : y / p ^ i * size + y % p ^ i ≡ y = ap (λ k. y / p ^ i * k + y % p ^ i) power ∙ Nat.div-add-mod' y (p ^ i) in
          ap (λ k. get_or ys k 0) (sym index) ∙ x.words (y / p ^ i) (y % p ^ i) (digit_below p i y (omega arith) l) (subst (λ k. y % p ^ i < k) (sym power) low)
          ∙ ap₂ (λ a b. (a + y / p ^ i * b) % p) (plane.words (y % p ^ i) low) (same ∙ shifted_is) ∙ sym (times_word big wd i y j l place);
    }

    pub plane_turn : (q : ℕ) → q ≡ p → Plane p (take n t) i j xs → Extended q q size c xs ys → Plane p (take n t) (i + 1) j ys
    plane_turn q f plane x =
        subst (λ k. Plane p D k j ys) (sym (add-one i)) (by_degree plane (subst (λ q. Extended q q size c xs ys) f x) n h.words place)

  pub shifted_end : (i k c : ℕ) (w : List ℕ) → i ≤ k → k ≤ i → w ≡ padded (multiple p (take n t) (take n t) i) → c ≡ get_or w j 0
      → c ≡ get_or (multiple p (take n t) (take n t) k) j 0
  shifted_end i k c w l l' e same =
      let done : i ≡ k = omega arith in
      same ∙ sym (get_or-take n w j 0 place) ∙ ap (λ u. get_or u j 0) (front_is e (multiple_words big h.words h.words i))
      ∙ ap (λ i. get_or (multiple p D D i) j 0) done

pub plane_some : (p i size : ℕ) → 2 ≤ p → size ≡ p ^ i → 1 ≤ size
plane_some p i size big e = rw e (Nat.one-le-pow i p (omega arith))

-- there is room for one word more
pub plane_power : (p i q size size' : ℕ) → q ≡ p → size ≡ p ^ i → size' ≡ q * size → size' ≡ p ^ (i + 1)
plane_power p i q size size' f e g = g ∙ ap₂ ◌*◌ f e ∙ sym (Nat.pow-succ' p i) ∙ ap (λ k. p ^ k) (sym (add-one i))

pub plane_room : (p i k q size : ℕ) → 2 ≤ p → p ^ k ≤ 32768 → i < k → q ≡ p → size ≡ p ^ i → q * size ≤ 32768
plane_room p i k q size big few less f e =
    let more : p ^ (i + 1) ≤ p ^ k = Nat.pow-le-pow_right (omega arith) (omega arith) in
    omega (arith, more, plane_power p i q size (q * size) f e refl)

pub plane_done : (p i k j : ℕ) (d xs : List ℕ) → i ≤ k → k ≤ i → Plane p d i j xs → Plane p d k j xs
plane_done p i k j d xs l l' h = subst (λ i. Plane p d i j xs) (omega arith) h
