-- The product of two residues with delayed reduction: what holds before the first step, between steps and after the last.
use mathlib.Core.Path.{◌≡◌, refl, sym, ap, subst, ◌∙◌}
use mathlib.Core.List.{List, [], ◌∷◌}
use Prim.Native.Nat.{ℕ, zero, suc, ◌+◌, ◌-◌, ◌*◌, ◌%◌, ◌≤◌, ◌<◌}
use native.Mathlib.Nat as Nat
use native.Mathlib.Omega.{arith}
use lib.ListN.{get_or, take, drop, replicate, drop_of_length-le, get_or-replicate}
use Rattle.algebra.specs.Lists.{All}
use Rattle.quotient.specs.Residue.{sum, scale, constant, product}
use Rattle.quotient.proofs.Sums.{sum_comm, sum-zero, scale-zero}
use Rattle.quotient.proofs.Operations.{constant-zero, constant_words}
use Rattle.array.specs.Words.{Words}
use Rattle.array.proofs.Words.{words_length}
use Rattle.array.specs.Array.{padded, Holds}
use Rattle.residue.specs.Delayed.{reduced, Delayed, Stepped, joined, Halves}
use Rattle.array.proofs.Padded.{array_fits, padded_zeros, take_zeros, holds_word}
use Rattle.residue.proofs.Horner.{product_at}
use Rattle.residue.proofs.Step.{delayed_word}

reduced_zeros : (p n : ℕ) → reduced p (replicate n 0) ≡ replicate n 0
unfolding reduced
reduced_zeros p zero = refl
reduced_zeros p (suc n) = rw (Nat.zero-mod, reduced_zeros p n)

all_zeros : (b n : ℕ) → All (λ a. a ≤ b) (replicate n 0)
all_zeros b zero = tt
all_zeros b (suc n) = (omega arith, all_zeros b n)

all_weaker : (b c : ℕ) (u : List ℕ) → b ≤ c → All (λ a. a ≤ b) u → All (λ a. a ≤ c) u
all_weaker b c [] l h = tt
all_weaker b c (a ∷ u) l h = (omega (arith, h.0), all_weaker b c u l h.1)

-- before the first step: no word of u, and zeros
pub product_starts : (p n : ℕ) (t u v w : List ℕ) → n ≤ 16 → Holds p n t → Holds p n u → w ≡ replicate 16 0
    → Delayed p n (n - n) (product p (take n t) (drop n (take n u)) (take n v)) w
unfolding product
product_starts p n t u v w h x y e =
    let front : take n w ≡ replicate n 0 = ap (take n) e ∙ take_zeros n h in
    record {
      words = ap (reduced p) front ∙ reduced_zeros p n ∙ sym (constant-zero n)
          ∙ ap (λ k. constant k 0) (sym (words_length x.words))
          ∙ ap (λ l. product p (take n t) l (take n v)) (sym (drop_of_length-le (take n u) (Nat.le_of_eq (words_length y.words))));
      small = subst (All (λ a. a ≤ (n - n) * (3 * (p * p)))) (sym front) (all_zeros ((n - n) * (3 * (p * p))) n);
      zeros = e ∙ padded_zeros n h ∙ ap padded (sym front);
    }

pub zero_opposite : (p n : ℕ) (w : List ℕ) → 1 ≤ n → n ≤ 16 → w ≡ replicate 16 0 → (0 + get_or w (n - 1) 0) % p ≡ 0
zero_opposite p n w some short e = ap (λ l. (0 + get_or l (n - 1) 0) % p) e ∙ ap (λ a. (0 + a) % p) (get_or-replicate 16 (n - 1) 0 0 (omega arith)) ∙ Nat.zero-mod p

-- a step takes the next word of u

pub top_word : (p n : ℕ) (u : List ℕ) → 1 ≤ n → Holds p n u → get_or u (n - 1) 0 < p
top_word p n u some y = holds_word y (n - 1) (omega arith)

pub product_turn : (p n j : ℕ) (t u v w w' : List ℕ) → j < n → n ≤ 16 → Holds p n u
    → Delayed p n (n - (j + 1)) (product p (take n t) (drop (j + 1) (take n u)) (take n v)) w → Stepped p n (take n t) (get_or u j 0) (take n v) w w'
    → Delayed p n (n - j) (product p (take n t) (drop j (take n u)) (take n v)) w'
product_turn p n j t u v w w' l short y d step =
    let more : n - (j + 1) + 1 ≡ n - j = omega arith in
    subst (λ k. Delayed p n k (product p (take n t) (drop j (take n u)) (take n v)) w') more
    (subst (λ s. Delayed p n (n - (j + 1) + 1) s w') (sym (product_at p n j (take n t) u (take n v) l (array_fits n u short y.zeros)))
    (step.next (n - (j + 1)) (product p (take n t) (drop (j + 1) (take n u)) (take n v)) d))

-- 0·v + u = u, for a step that multiplies by X alone
pub zero_times_plus : {p n : ℕ} {u v : List ℕ} → 2 ≤ p → Words p n v → Words p n u → sum p (scale p 0 v) u ≡ u
zero_times_plus {p} {n} {u} {v} big wv wu = ap (λ s. sum p s u) (scale-zero wv) ∙ sum_comm (constant_words n (omega arith)) wu ∙ sum-zero wu

-- what the next step and the reductions may assume of the words

pub delayed_more : {p n j k : ℕ} {s w : List ℕ} → j ≤ k → Delayed p n j s w → Delayed p n k s w
delayed_more {p} {n} {j} {k} {s} {w} l d =
    record { words = d.words; small = all_weaker (j * (3 * (p * p))) (k * (3 * (p * p))) (take n w) (Nat.mul-le-mul_right (3 * (p * p)) l) d.small; zeros = d.zeros }

pub delayed_same : {p n k : ℕ} {s w : List ℕ} → Delayed p n k s w → Delayed p n k (reduced p (take n w)) w
delayed_same d = record { words = refl; small = d.small; zeros = d.zeros }

-- the product in the arrays of even and odd words

pub halves_same : {p n k i : ℕ} {s e o : List ℕ} → Halves p n k i s e o → Halves p n k i (reduced p (take n (joined n i e o))) e o
halves_same H = record { even = H.even; odd = H.odd; delayed = delayed_same H.delayed }

pub joined_top_small : (p n k i h : ℕ) (s e o : List ℕ) → Halves p n k i s e o → k ≤ 16 → 1 ≤ n → n ≤ 16 → h ≡ get_or (joined n i e o) (n - 1) 0 → h ≤ 64 * (p * p)
joined_top_small p n k i h s e o H few some short f = omega (arith, delayed_word H.delayed short (n - 1) (omega arith), Nat.mul-le-mul_right (3 * (p * p)) few)
