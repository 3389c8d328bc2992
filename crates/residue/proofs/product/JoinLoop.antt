-- The joined words, read one after another and reduced.
use mathlib.Core.Path.{◌≡◌, sym, ap, ◌∙◌}
use mathlib.Core.List.{List, ◌∷◌}
use Prim.Native.Nat.{ℕ, suc, ◌+◌, ◌-◌, ◌*◌, ◌%◌, ◌^◌, ◌≤◌, ◌<◌}
use native.Mathlib.Nat as Nat
use native.Mathlib.Omega.{arith}
use lib.ListN.{get_or, take, set, replicate}
use mir.Syntax.{w64}
use mir.Val.{Fits}
use Rattle.array.specs.Array.{padded}
use Rattle.array.proofs.Painted.{painted, painted_none, painted_turn}
use Rattle.array.proofs.Padded.{array_fits, painted-table}
use Rattle.residue.specs.Delayed.{reduced, joined, Halves}
use Rattle.residue.proofs.Step.{delayed_word}
use Rattle.residue.proofs.Remainders.{remainder, table-remainder}
use Rattle.residue.proofs.product.Joined.{joined_word, joined_word_lem, joined_zeros}

module _ (p n j : ℕ) (s e o : List ℕ) (small : p ≤ 2 ^ 20) (short : n ≤ 16) (l : j < n) (H : Halves p n n 0 s e o) where
  word_bound_lem : get_or (joined n 0 e o) j 0 ≤ 48 * (p * p)
  word_bound_lem = omega (arith, delayed_word H.delayed short j l, Nat.mul-le-mul_right (3 * (p * p)) short)

  pub lowest_is : j ≡ 0 → get_or e 0 0 ≡ get_or (joined n 0 e o) j 0
  unfolding joined_word
  lowest_is z =
      let first : get_or (joined n 0 e o) 0 0 ≡ get_or e 0 0 + 0 = joined_word_lem n 0 0 e o (omega arith) in
      let same : get_or (joined n 0 e o) j 0 ≡ get_or (joined n 0 e o) 0 0 = ap (λ k. get_or (joined n 0 e o) k 0) z in
      omega arith

  pub lowest_small : j ≡ 0 → get_or e 0 0 ≤ 64 * (p * p)
  lowest_small z = omega (arith, lowest_is z, word_bound_lem)

  pub higher_is : (j ≡ 0 → ⊥) → get_or e j 0 + get_or o (j - 1) 0 ≡ get_or (joined n 0 e o) j 0
  unfolding joined_word
  higher_is d =
      let even : j ≡ 0 + j = omega arith in
      let odd : suc (j - 1) ≡ 0 + j = omega arith in
      ap (λ k. get_or e k 0 + get_or o (j - 1) 0) even ∙ ap (λ k. get_or e (0 + j) 0 + get_or (0 ∷ o) k 0) odd ∙ sym (joined_word_lem n 0 j e o l)

  pub higher_fits : (j ≡ 0 → ⊥) → Fits w64 (get_or e j 0 + get_or o (j - 1) 0)
  higher_fits d = omega (arith, higher_is d, word_bound_lem, Nat.mul-le-mul small small)

  pub higher_small : (j ≡ 0 → ⊥) → get_or e j 0 + get_or o (j - 1) 0 ≤ 64 * (p * p)
  higher_small d = omega (arith, higher_is d, word_bound_lem)

-- the loops

pub painted_start : (f : ℕ → ℕ) (w : List ℕ) → w ≡ replicate 16 0 → w ≡ painted (replicate 16 0) f 0
painted_start f w e = e ∙ painted_none (replicate 16 0) f

pub reduce_turn : (p n j x r : ℕ) (e o w : List ℕ) → x ≡ get_or (joined n 0 e o) j 0 → r ≡ x % p → w ≡ painted (replicate 16 0) (remainder p (joined n 0 e o)) j
    → set w j r ≡ painted (replicate 16 0) (remainder p (joined n 0 e o)) (j + 1)
unfolding remainder
reduce_turn p n j x r e o w f h g = painted_turn (remainder p (joined n 0 e o)) j r (replicate 16 0) w (h ∙ ap (λ y. y % p) f) g

pub reduce_done : (p n j : ℕ) (e o w : List ℕ) → n ≤ 16 → j ≤ n → n ≤ j → w ≡ painted (replicate 16 0) (remainder p (joined n 0 e o)) j
    → w ≡ padded (reduced p (take n (joined n 0 e o)))
reduce_done p n j e o w short l l' f =
    painted-table (remainder p (joined n 0 e o)) n j w short l l' f
    ∙ ap padded (table-remainder p n (joined n 0 e o) (array_fits n (joined n 0 e o) short (joined_zeros n 0 e o)))
