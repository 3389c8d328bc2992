-- Multiplication of a residue by X: it preserves sums, it raises the words of a list that ends in a zero, and it agrees with X in every
-- module up to a multiple of T.
use mathlib.Core.Path.{◌≡◌, refl, sym, ap, ap₂, ◌∙◌}
use mathlib.Core.List.{List, [], ◌∷◌, ◌++◌}
use Prim.Native.Nat.{ℕ, zero, suc, ◌+◌, ◌-◌, ◌%◌, ◌<◌, ◌≤◌}
use native.Mathlib.Nat as Nat
use native.Mathlib.Decide.{dec_lt}
use native.Mathlib.Omega.{arith}
use lib.ListN.{length, replicate}
use Rattle.array.specs.Words.{Words, none, more}
use Rattle.quotient.specs.Residue.{sum, scale, shift, top, times_x}
use Rattle.quotient.specs.Divisor.{monic}
use Rattle.quotient.proofs.Action.{PolynomialModule, multiple, multiple-zero, multiple-add, multiple_sum, zero-add, linear_zero, linear_multiple, times_x_linear, act, act-nil, act-cons, act-sum, act-scale, act-monic, iterate}
use Rattle.quotient.proofs.Sums.{sum_cross, sum-zero, scale-sum, scale_more, scale_modulus}
use Rattle.quotient.proofs.Operations.{shift_words, scale_words, top_below}
use Rattle.array.proofs.Words.{words_length}

-- X·(u + v) = X·u + X·v

shift-sum : {p n : ℕ} (c d : ℕ) {u v : List ℕ} → Words p n u → Words p n v
    → shift ((c + d) % p) (sum p u v) ≡ sum p (shift c u) (shift d v)
unfolding shift sum
shift-sum c d none none = refl
shift-sum {p} c d (more {a = a} h w) (more {a = b} k v) = ap (◌∷◌ ((c + d) % p)) (shift-sum a b w v)

top-sum : {p n : ℕ} (c d : ℕ) {u v : List ℕ} → Words p n u → Words p n v → top ((c + d) % p) (sum p u v) ≡ (top c u + top d v) % p
unfolding top sum
top-sum c d none none = refl
top-sum c d (more {a = a} h w) (more {a = b} k v) = top-sum a b w v

-- −(a + b) = −a − b
scale_negated : {p n : ℕ} (a b : ℕ) → a < p → b < p → {u : List ℕ} → Words p n u
    → scale p (p - (a + b) % p) u ≡ sum p (scale p (p - a) u) (scale p (p - b) u)
scale_negated {p} a b h k {u} w = cases (dec_lt (a + b) p) ∙ scale-sum (p - a) (p - b) w
  where
    cases : Dec (a + b < p) → scale p (p - (a + b) % p) u ≡ scale p ((p - a) + (p - b)) u
    cases (yes l) =
        let e : (p - a) + (p - b) ≡ (p - (a + b)) + p = omega arith in
        rw (Nat.mod-eq_of_lt l, e) (sym (scale_more _ w))
    cases (no l) =
        let e : (p - a) + (p - b) ≡ p - (a + b - p) = omega arith in
        let g : p ≤ a + b = omega arith in
        let d : a + b - p < p = omega arith in
        rw (Nat.mod-eq-sub-mod g, Nat.mod-eq_of_lt d, e)

pub times_x-sum : {p n : ℕ} {t u v : List ℕ} → 2 ≤ p → Words p n t → Words p n u → Words p n v
    → times_x p t (sum p u v) ≡ sum p (times_x p t u) (times_x p t v)
unfolding times_x
times_x-sum {p} {n} {t} {u} {v} big wt w k =
    let z : 0 < p = omega arith in
    ap₂ (λ x y. sum p x (scale p (p - y) t)) (ap (λ c. shift c (sum p u v)) (sym (Nat.zero-mod p)) ∙ shift-sum 0 0 w k)
    (ap (λ c. top c (sum p u v)) (sym (Nat.zero-mod p)) ∙ top-sum 0 0 w k)
    ∙ ap (sum p _) (scale_negated (top 0 u) (top 0 v) (top_below z w) (top_below z k) wt)
    ∙ sum_cross (shift_words z w) (shift_words z k) (scale_words _ wt) (scale_words _ wt)

-- X raises the words of a list that ends in a zero

shift_zeros : (c : ℕ) (u : List ℕ) (j : ℕ) → shift c (u ++ replicate (suc j) 0) ≡ c ∷ u ++ replicate j 0
unfolding shift
shift_zeros c [] zero = refl
shift_zeros c [] (suc j) = ap (◌∷◌ c) (shift_zeros 0 [] j)
shift_zeros c (a ∷ u) j = ap (◌∷◌ c) (shift_zeros a u j)

pub top_zeros : (c : ℕ) (u : List ℕ) (j : ℕ) → top c (u ++ replicate (suc j) 0) ≡ 0
unfolding top
top_zeros c [] zero = refl
top_zeros c [] (suc j) = top_zeros 0 [] j
top_zeros c (a ∷ u) j = top_zeros a u j

pub top_last : (c : ℕ) (u : List ℕ) (a : ℕ) → top c (u ++ a ∷ []) ≡ a
unfolding top
top_last c [] a = refl
top_last c (b ∷ u) a = top_last b u a

pub times_x_zeros : {p n : ℕ} {t : List ℕ} → Words p n t → (u : List ℕ) (j : ℕ)
    → Words p n (0 ∷ u ++ replicate j 0) → times_x p t (u ++ replicate (suc j) 0) ≡ 0 ∷ u ++ replicate j 0
unfolding times_x
times_x_zeros wt u j w = simp (shift_zeros, top_zeros, Nat.sub-zero, scale_modulus wt) (sum-zero w)

-- X in a module

module _ {p : ℕ} {G : Type 0} (M : PolynomialModule p G) where
  -- X·(u·v) + c·v is (the words of u shifted up behind c)·v and the top word of u times X^n·v
  act-shift : (c : ℕ) (u : List ℕ) (v : G)
      → M.add (M.times_x (act M u v)) (multiple M c v) ≡ M.add (act M (shift c u) v) (multiple M (top c u) (iterate M (length u) v))
  unfolding shift top iterate
  act-shift c [] v = simp (act-nil, linear_zero (times_x_linear M))
  act-shift c (a ∷ u) v =
      M.add_comm _ _ ∙ ap (λ x. M.add (multiple M c v) (M.times_x x)) (simp act-cons (M.add_comm _ _) ∙ act-shift a u v)
      ∙ simp (act-cons, M.times_x-add, M.add_assoc, linear_multiple (times_x_linear M))

  -- (p − k)·b and k·b make p·b = 0
  multiples_vanish : (k : ℕ) → k ≤ p → (a b c : G) → M.add (M.add a (multiple M (p - k) b)) (M.add (multiple M k b) c) ≡ M.add a c
  unfolding multiple
  multiples_vanish k h a b c =
      M.add_assoc _ _ _ ∙ ap (M.add a) (sym (M.add_assoc _ _ _)
      ∙ ap (λ x. M.add x c) (sym (multiple_sum M (p - k) k b) ∙ simp (Nat.sub-add_cancel h, M.vanishes)) ∙ zero-add M c)

  -- X·(u·v) = (X·u modulo T)·v + (top word of u)·(T·v): where T·v = 0, residues modulo T act on v
  pub act-times_x : {n : ℕ} {t u : List ℕ} → 2 ≤ p → Words p n t → Words p n u → (v : G)
      → M.times_x (act M u v) ≡ M.add (act M (times_x p t u) v) (multiple M (top 0 u) (act M (monic t) v))
  unfolding times_x
  act-times_x {t = t} {u = u} big wt w v =
      let l : length u ≡ length t = words_length w ∙ sym (words_length wt) in
      let h : top 0 u ≤ p = Nat.le_of_suc-le (top_below (Nat.le_of_suc-le big) w) in
      sym (M.add-zero _) ∙ ap (M.add _) (sym (multiple-zero M v)) ∙ act-shift 0 u v ∙ sym (multiples_vanish (top 0 u) h _ (act M t v) _)
      ∙ simp (act-sum, act-scale, act-monic, multiple-add, l)
