-- The powers of X on arrays. Below X^n they are unit lists. Any other comes from the square of the power to half the exponent, and one more
-- multiplication by X where the exponent is odd.
use mathlib.Core.Path.{◌≡◌, sym, ap, ap₂, ◌∙◌}
use mathlib.Core.List.{List, [], ◌∷◌, ◌++◌}
use Prim.Native.Nat.{ℕ, zero, suc, ◌+◌, ◌-◌, ◌/◌, ◌%◌, ◌≤◌, ◌<◌}
use native.Mathlib.Omega.{arith}
use lib.ListN.{length, take, set, replicate, length-set, length-replicate}
use lib.Seq.{set-append_left}
use Rattle.array.specs.Words.{Words, more}
use Rattle.quotient.specs.Residue.{constant, times_x, product, power, residue_of_x}
use Rattle.quotient.proofs.TimesX.{times_x_zeros}
use Rattle.quotient.proofs.Operations.{product_words, residue_of_x_words, power_words}
use Rattle.array.proofs.Words.{words_length, zeros_words, padded_words, snoc_words}
use Rattle.quotient.proofs.Ring.{residue_module, mul_residue, x_residue, mul_x}
use Rattle.array.specs.Array.{padded, Holds}
use Rattle.array.proofs.Padded.{padded_zeros, front_is}
use Rattle.residue.proofs.Power.{power_holds, power_even, power_odd}

-- the product with X is times_x
product_x : {p n : ℕ} {t u : List ℕ} → 2 ≤ p → Words p n t → Words p n u → product p t (residue_of_x p t) u ≡ times_x p t u
unfolding mul_residue x_residue residue_module
product_x {u = u} big wt w = ap (λ x. x.0) (mul_x big wt (u, w))

-- below X^n

unit_list : (n e j : ℕ) → suc e + j ≡ n → set {A = ℕ} (replicate n 0) e 1 ≡ replicate e 0 ++ 1 ∷ [] ++ replicate j 0
unit_list zero e j h = absurd (omega arith)
unit_list (suc n) zero j h =
    let same : n ≡ j = omega arith in
    ap (λ k. 1 ∷ replicate k 0) same
unit_list (suc n) (suc e) j h = ap (◌∷◌ 0) (unit_list n e j (omega arith))

power_below : {p n : ℕ} {t : List ℕ} → 2 ≤ p → Words p n t → (e j : ℕ) → suc e + j ≡ n → power p t (residue_of_x p t) e ≡ replicate e 0 ++ 1 ∷ [] ++ replicate j 0
unfolding power constant
power_below {p} {n} {t} big wt zero j h =
    let l : length t ≡ suc j = words_length wt ∙ omega arith in
    ap (λ k. constant k 1) l
power_below {p} {n} {t} big wt (suc e) j h =
    let pos : 0 < p = omega arith in
    let l : suc e + suc j ≡ n = omega arith in
    let w : Words p n (0 ∷ replicate e 0 ++ 1 ∷ [] ++ replicate j 0) = rw h at (padded_words pos (more pos (snoc_words (zeros_words e pos) big)) j) in
    product_x big wt (power_words big wt (residue_of_x_words big wt) e)
    ∙ ap (times_x p t) (power_below big wt e (suc j) l)
    ∙ times_x_zeros wt (replicate e 0 ++ 1 ∷ []) j w

set-padded : (u : List ℕ) (i a : ℕ) → i < length u → set (padded u) i a ≡ padded (set u i a)
unfolding padded
set-padded u i a h = set-append_left u (replicate (16 - length u) 0) i a h ∙ ap (λ k. set u i a ++ replicate (16 - k) 0) (sym (length-set u i a))

pub monomial_below : (p n e : ℕ) (t w : List ℕ) → 2 ≤ p → n ≤ 16 → e < n → Holds p n t → w ≡ replicate 16 0
    → set w e 1 ≡ padded (power p (take n t) (residue_of_x p (take n t)) e)
monomial_below p n e t w big b l x z =
    let h : suc e + (n - suc e) ≡ n = omega arith in
    ap (λ v. set v e 1) (z ∙ padded_zeros n b)
    ∙ set-padded (replicate n 0) e 1 (rw (length-replicate {A = ℕ} n 0) l)
    ∙ ap padded (unit_list n e (n - suc e) h ∙ sym (power_below big x.words e (n - suc e) h))

-- from the power to half the exponent

pub half_holds : (p n k : ℕ) (t h : List ℕ) → h ≡ padded (power p (take n t) (residue_of_x p (take n t)) k) → 2 ≤ p → Holds p n t → Holds p n h
half_holds p n k t h m big x = power_holds p n k t (residue_of_x p (take n t)) h m big x (residue_of_x_words big x.words)

module _ (p n e : ℕ) (t h w : List ℕ) (m : h ≡ padded (power p (take n t) (residue_of_x p (take n t)) (e / 2))) (big : 2 ≤ p) (x : Holds p n t) where
  half : take n h ≡ power p (take n t) (residue_of_x p (take n t)) (e / 2)
  half = front_is m (power_words big x.words (residue_of_x_words big x.words) (e / 2))

  pub raise_even : e % 2 ≡ 0 → w ≡ padded (product p (take n t) (take n h) (take n h)) → w ≡ padded (power p (take n t) (residue_of_x p (take n t)) e)
  raise_even even f = f ∙ ap padded (ap₂ (product p (take n t)) half half ∙ power_even big x.words (residue_of_x_words big x.words) e even)

  pub raise_odd : (e % 2 ≡ 0 → ⊥) → w ≡ padded (times_x p (take n t) (product p (take n t) (take n h) (take n h)))
      → w ≡ padded (power p (take n t) (residue_of_x p (take n t)) e)
  raise_odd odd f =
      f
      ∙ ap padded
      (sym (product_x big x.words (product_words big x.words (take n h) (half_holds p n (e / 2) t h m big x).words))
      ∙ ap (product p (take n t) (residue_of_x p (take n t))) (ap₂ (product p (take n t)) half half)
      ∙ power_odd big x.words (residue_of_x_words big x.words) e odd)
