-- The vector 2X + t1 for n = 2: two words below p, the second of them not 0.
use mathlib.Core.Path.{◌≡◌, sym, ap, ◌∙◌}
use mathlib.Core.List.{List}
use Prim.Native.Nat.{ℕ, ◌-◌, ◌%◌, ◌<◌}
use native.Mathlib.Omega.{arith}
use lib.ListN.{get_or, set, take, replicate}
use Rattle.array.specs.Array.{padded, Holds}
use Rattle.array.specs.Words.{none, more}
use Rattle.array.proofs.Padded.{holds_padded, holds_word}
use Rattle.quotient.specs.Residue.{constant}
use Rattle.roots.specs.Roots.{Admissible}

pub odd_prime : (p n : ℕ) → Admissible p n → n ≡ 2 → 2 < p
odd_prime p n h e =
    let two : (p - 1) % 2 ≡ 0 = ap (λ k. (p - 1) % k) (sym e) ∙ h.divides in
    omega (arith, h.prime.0)

module _ (p n b : ℕ) (t : List ℕ) (big : 2 < p) (e : n ≡ 2) (ht : Holds p n t) (eb : b ≡ get_or t 1 0) where
  pub square_holds : Holds p n (set (set (replicate 16 0) 0 b) 1 2)
  unfolding padded
  square_holds =
      let below : get_or t 1 0 < p = holds_word ht 1 (omega arith) in
      rw e (holds_padded (more (omega arith) (more big none)))

  pub square_not_zero : take n (set (set (replicate 16 0) 0 b) 1 2) ≡ constant n 0 → ⊥
  unfolding constant
  square_not_zero f =
      let g : take 2 (set (set (replicate 16 0) 0 b) 1 2) ≡ constant 2 0 = rw e at f in
      let o : ◌≡◌ {A = ℕ} 2 0 = ap (λ u. get_or u 1 0) g in
      omega arith
