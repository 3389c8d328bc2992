-- The first word of an array, and the array with 0 in its place.
use mathlib.Core.Path.{◌≡◌, refl, ap, ap₂, ◌∙◌}
use mathlib.Core.List.{List, [], ◌∷◌}
use Prim.Native.Nat.{ℕ, zero, suc, ◌-◌, ◌≤◌, ◌<◌}
use native.Mathlib.Nat.{pos_of_ne-zero}
use native.Mathlib.Omega.{arith}
use lib.ListN.{get_or, take, set}
use Rattle.algebra.specs.Prime.{Prime}
use Rattle.array.specs.Array.{padded, Holds}
use Rattle.array.specs.Words.{Words, none, more}
use Rattle.array.proofs.Padded.{holds_is, holds_word, front_is}
use Rattle.modular.specs.Inverse.{inverse}
use Rattle.quotient.specs.Residue.{scale}
use Rattle.tower.specs.Equation.{without_constant}

set_first : (u : List ℕ) {p n : ℕ} → Words p (suc n) u → set (padded u) 0 0 ≡ padded (without_constant u)
unfolding padded without_constant
set_first [] {p = p} {n = n} x = elim x [ ]
set_first (a ∷ u) (more l w) = refl

-- any word below p may stand in its place
replaced : {p n : ℕ} (x : ℕ) → x < p → 1 ≤ n → (v : List ℕ) → Words p n v → (w : List ℕ) × (set (padded v) 0 x ≡ padded w) × Words p n w
unfolding padded
replaced x l low [] none = absurd (omega arith)
replaced x l low (a ∷ v) (more k w) = (x ∷ v, refl, more l w)

without_words : {p n : ℕ} {u : List ℕ} → 0 < p → Words p n u → Words p n (without_constant u)
unfolding without_constant
without_words {u = []} pos w = w
without_words {u = a ∷ u} pos (more l w) = more {a = 0} pos w

module _ (p n : ℕ) (u : List ℕ) (prime : Prime p) (low : 1 ≤ n) (h : Holds p n u) where
  words : Words p n (without_constant (take n u))
  words = without_words (omega (arith, prime.0)) h.words

  changed : set u 0 0 ≡ padded (without_constant (take n u))
  changed = ap (λ x. set x 0 0) h.zeros ∙ by_degree n low (take n u) h.words
    where
      by_degree : (n : ℕ) → 1 ≤ n → (v : List ℕ) → Words p n v → set (padded v) 0 0 ≡ padded (without_constant v)
      by_degree zero l v w = absurd (omega arith)
      by_degree (suc n) l v w = set_first v w

  pub changed_holds : (x : ℕ) → x ≤ 1 → Holds p n (set u 0 x)
  changed_holds x small =
      let below : x < p = omega (arith, prime.0) in
      let (w, e, ww) = replaced x below low (take n u) h.words in
      holds_is (ap (λ y. set y 0 x) h.zeros ∙ e) ww

  pub divided_is : (x y : ℕ) → x ≡ p - get_or u 0 0 → y ≡ inverse p x → (r : List ℕ) → r ≡ padded (scale p y (take n (set u 0 0)))
      → r ≡ padded (scale p (inverse p (p - get_or u 0 0)) (without_constant (take n u)))
  divided_is x y ex ey r e = e ∙ ap padded (ap₂ (scale p) (ey ∙ ap (inverse p) ex) (front_is changed words))

  pub first_fits : get_or u 0 0 ≤ p
  first_fits = omega (arith, holds_word h 0 low)

  pub rest_below : 0 < get_or u 0 0 → p - get_or u 0 0 < p
  rest_below positive = omega (arith, holds_word h 0 low)

  pub rest_positive : 0 < p - get_or u 0 0
  rest_positive = omega (arith, holds_word h 0 low)

pub first_positive : (u : List ℕ) → (get_or u 0 0 ≡ 0 → ⊥) → 0 < get_or u 0 0
first_positive u other = pos_of_ne-zero other
