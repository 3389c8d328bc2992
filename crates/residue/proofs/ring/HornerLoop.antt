-- Substitution by Horner's rule on arrays: w ↦ S·w + c, where adding the constant c changes the lowest word only.
use mathlib.Core.Path.{◌≡◌, refl, sym, ap, ap₂, ◌∙◌}
use mathlib.Core.List.{List, [], ◌∷◌}
use Prim.Native.Nat.{ℕ, suc, ◌+◌, ◌-◌, ◌%◌, ◌≤◌, ◌<◌}
use native.Mathlib.Nat as Nat
use native.Mathlib.Omega.{arith}
use lib.ListN.{length, get_or, take, drop, set, replicate, drop_of_length-le}
use lib.Seq.{drop-cons, get_or-take}
use Rattle.array.specs.Words.{Words, none, more}
use Rattle.quotient.specs.Residue.{sum, constant, product, substitute}
use Rattle.algebra.proofs.RingLaws.{mul-zero}
use Rattle.quotient.proofs.Sums.{sum-zero}
use Rattle.quotient.proofs.Operations.{constant_words, product_words, substitute_words}
use Rattle.array.proofs.Words.{words_length, drop_words}
use Rattle.quotient.proofs.Ring.{residue_ring, mul_residue, zero_residue, constant_residue}
use Rattle.array.specs.Array.{padded, Holds}
use Rattle.array.proofs.Padded.{holds_word, holds_is, front_is}
use Rattle.residue.proofs.Power.{constant_array}

zeros_sum : {p n : ℕ} {u : List ℕ} → Words p n u → sum p (replicate n 0) u ≡ u
unfolding sum
zeros_sum none = refl
zeros_sum (more h w) = ap₂ ◌∷◌ (simp (Nat.zero-add, Nat.mod-eq_of_lt h)) (zeros_sum w)

-- c + u, in place
constant-sum : {p n : ℕ} {u : List ℕ} → 1 ≤ n → Words p n u → (c : ℕ) → set (padded u) 0 ((get_or (padded u) 0 0 + c) % p) ≡ padded (sum p (constant n c) u)
unfolding sum constant padded
constant-sum h none c = absurd (omega arith)
constant-sum {p} h (more {a = a} k w) c = rw (zeros_sum w, Nat.add_comm c a)

-- the value of the words from i − 1 on, from that of the words from i on
substitute_at : (p n i : ℕ) (t s u : List ℕ) → 0 < i → i ≤ n → length (take n u) ≡ n
    → substitute p t s (drop (i - 1) (take n u)) ≡ sum p (constant (length t) (get_or u (i - 1) 0)) (product p t s (substitute p t s (drop i (take n u))))
unfolding substitute
substitute_at p n i t s u h l m =
    let e : suc (i - 1) ≡ i = omega arith in
    ap (substitute p t s) (drop-cons (take n u) (i - 1) 0 (omega arith))
    ∙ ap₂ (λ a k. sum p (constant (length t) a) (product p t s (substitute p t s (drop k (take n u))))) (get_or-take n u (i - 1) 0 (omega arith)) e

-- before the first turn: the top word of u, as a constant

product_zero : {p n : ℕ} {t s : List ℕ} → 2 ≤ p → Words p n t → Words p n s → product p t s (constant n 0) ≡ constant n 0
unfolding residue_ring mul_residue zero_residue constant_residue
product_zero {s = s} big wt ws = ap (λ x. x.0) (mul-zero (residue_ring big wt) (s, ws))

pub substitute_starts : (p n : ℕ) (t s u : List ℕ) → 2 ≤ p → 1 ≤ n → n ≤ 16 → Holds p n t → Holds p n s → Holds p n u
    → set (replicate 16 0) 0 (get_or u (n - 1) 0) ≡ padded (substitute p (take n t) (take n s) (drop (n - 1) (take n u)))
unfolding substitute
substitute_starts p n t s u big h l x y z =
    let c : ℕ = get_or u (n - 1) 0 in
    let none : drop n (take n u) ≡ [] = drop_of_length-le (take n u) (Nat.le_of_eq (words_length z.words)) in
    constant_array n c h l
    ∙ ap padded
    (sym (sum-zero (constant_words n (holds_word z (n - 1) (omega arith))))
    ∙ ap (sum p (constant n c)) (sym (product_zero big x.words y.words))
    ∙ ap (λ k. sum p (constant k c) (product p (take n t) (take n s) (constant k 0))) (sym (words_length x.words))
    ∙ ap (λ l. sum p (constant (length (take n t)) c) (product p (take n t) (take n s) (substitute p (take n t) (take n s) l))) (sym none)
    ∙ sym (substitute_at p n n (take n t) (take n s) u h (Nat.le_refl n) (words_length z.words)))

module _ (p n i : ℕ) (t s u w : List ℕ) (e : w ≡ padded (substitute p (take n t) (take n s) (drop i (take n u))))
    (big : 2 ≤ p) (x : Holds p n t) (y : Holds p n s) (z : Holds p n u) where
  rest_words : Words p n (substitute p (take n t) (take n s) (drop i (take n u)))
  rest_words = substitute_words big x.words y.words (drop_words z.words i)

  pub substitute_holds : Holds p n w
  substitute_holds = holds_is e rest_words

  module _ (r : List ℕ) (f : r ≡ padded (product p (take n t) (take n s) (take n w))) (l : 0 < i) (m : i ≤ n - 1) where
    next_words : Words p n (product p (take n t) (take n s) (take n w))
    next_words = product_words big x.words (take n s) substitute_holds.words

    pub lowest_below : get_or r 0 0 < p
    lowest_below = holds_word (holds_is f next_words) 0 (omega arith)

    pub substitute_turn : (a : ℕ) → a ≡ (get_or r 0 0 + get_or u (i - 1) 0) % p → set r 0 a ≡ padded (substitute p (take n t) (take n s) (drop (i - 1) (take n u)))
    substitute_turn a h =
        let c : ℕ = get_or u (i - 1) 0 in
        ap (set r 0) h
        ∙ ap (λ l. set l 0 ((get_or l 0 0 + c) % p)) f
        ∙ constant-sum (omega arith) next_words c
        ∙ ap padded
        (ap₂ (λ k l. sum p (constant k c) (product p (take n t) (take n s) l)) (sym (words_length x.words)) (front_is e rest_words)
        ∙ sym (substitute_at p n i (take n t) (take n s) u l (omega arith) (words_length z.words)))
