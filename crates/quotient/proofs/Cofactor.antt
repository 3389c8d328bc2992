-- If a monic D divides T, then T = D·E with a monic E, and E divides T too; the degrees of D and E add up to that of T. So a T with a divisor of
-- degree 1 to n − 1 has one of degree 1 to n/2. The quotient of T by D shows E: each of its words is the top word of the remainder of
-- the words behind it, so it is 0 where fewer than deg D words stand behind it, and 1 where they are deg D and the last is the 1 of T; n − deg D words come before.
--   MonicQuotient j s   the quotient by D of the monic polynomial with the lower words s is monic of degree j, with zeros at its end
use mathlib.Core.Path.{◌≡◌, refl, sym, ap, ap₂, ◌∙◌}
use mathlib.Core.List.{List, [], ◌∷◌, ◌++◌, append-nil}
use Prim.Native.Nat.{ℕ, zero, suc, ◌+◌, ◌-◌, ◌<◌, ◌≤◌}
use native.Mathlib.Nat as Nat
use native.Mathlib.Decide.{dec_le}
use native.Mathlib.Omega.{arith}
use lib.ListN.{length, replicate}
use Rattle.array.specs.Words.{Words, none, more}
use Rattle.array.proofs.Words.{words_length, snoc_words}
use Rattle.quotient.specs.Residue.{Residue, top}
use Rattle.quotient.specs.Divisor.{Same, Divides, HasDivisor, polynomial_product, monic}
use Rattle.quotient.proofs.Action.{PolynomialModule, act, act_same, act_zeros, act_comm, act_product}
use Rattle.quotient.proofs.Operations.{constant-zero, top_below}
use Rattle.quotient.proofs.TimesX.{top_zeros, top_last}
use Rattle.quotient.proofs.Ring.{residue_module, one_residue, act_one_padded}
use Rattle.quotient.proofs.Substitution.{evaluate_x}
use Rattle.quotient.proofs.Reduction.{zero_is, reduce}
use Rattle.quotient.proofs.Remainder.{quotient, division, same_of_actions}
use Rattle.quotient.proofs.Divisor.{divides_zero}
use Rattle.quotient.proofs.Units.{zeros_same}

module _ {p m : ℕ} {d : List ℕ} (big : 2 ≤ p) (wd : Words p (suc m) d) where
  -- a polynomial with at most as many words as the degree of D has the quotient 0
  quotient_short : {k : ℕ} {f : List ℕ} → Words p k f → k ≤ suc m → quotient big wd f ≡ replicate k 0
  unfolding quotient
  quotient_short none l = refl
  quotient_short (more {n = k} {u = f} h w) l =
      let fits : k + suc (m - k) ≡ suc m = omega arith in
      ap₂ ◌∷◌ (ap (top 0) (act_one_padded big wd w (suc (m - k)) fits) ∙ top_zeros 0 f (m - k)) (quotient_short w (omega arith))

  -- a monic polynomial of the degree of D has the quotient 1
  quotient-one : (a : ℕ) {s : List ℕ} → Words p m s → quotient big wd (a ∷ monic s) ≡ 1 ∷ replicate (suc m) 0
  unfolding quotient monic
  quotient-one a {s} w =
      let w' : Words p (suc m) (s ++ 1 ∷ []) = snoc_words w big in
      ap₂ ◌∷◌
      (ap (top 0) (act_one_padded big wd w' 0 (Nat.add-zero (suc m)) ∙ append-nil (s ++ 1 ∷ [])) ∙ top_last 0 s 1)
      (quotient_short w' (Nat.le_refl (suc m)))

  abbrev MonicQuotient : ℕ → List ℕ → Type 0
  MonicQuotient j s = (e : List ℕ) × Words p j e × (quotient big wd (monic s) ≡ monic e ++ replicate (suc m) 0)

  -- each word more in front of a monic polynomial is one more in front of its quotient
  quotient_monic : (j n : ℕ) (s : List ℕ) → n ≡ suc m + j → Words p n s → MonicQuotient j s
  unfolding quotient monic
  quotient_monic zero n s h none = absurd (omega arith)
  quotient_monic zero n s h (more {a = a} {n = k} {u = u} l w) =
      let k_is : k ≡ m = omega arith in
      ([], none, quotient-one a (rw k_is at w))
  quotient_monic (suc j) n s h none = absurd (omega arith)
  quotient_monic (suc j) n s h (more {u = u} l w) =
      let (e, we, q) = quotient_monic j _ u (omega arith) w in
      let r : Residue p (suc m) = act (residue_module big wd) (monic u) (one_residue big) in
      (top 0 r.0 ∷ e, more (top_below {c = 0} (omega arith) r.1) we, ap (top 0 r.0 ∷◌) q)

  module _ (t : List ℕ) (h : Divides p d t) where
    remainder_zero : (act (residue_module big wd) (monic t) (one_residue big)).0 ≡ replicate (suc m) 0
    unfolding reduce
    remainder_zero = ap (λ u. u.0) (sym (evaluate_x big wd (monic t)) ∙ divides_zero big wd t h) ∙ zero_is big wd ∙ constant-zero (suc m)

    -- T = E·D in every module
    cofactor_acts : (e : List ℕ) → quotient big wd (monic t) ≡ monic e ++ replicate (suc m) 0
        → (G : Type 0) (M : PolynomialModule p G) (v : G) → act M (polynomial_product p (monic e) (monic d)) v ≡ act M (monic t) v
    cofactor_acts e q G M v =
        let quotient_acts : act M (quotient big wd (monic t)) v ≡ act M (monic e) v
        = ap (λ f. act M f v) q ∙ act_same M (monic e ++ replicate (suc m) 0) (monic e) (zeros_same p (suc m) (monic e)) v in
        act_product M (monic e) (monic d) v ∙ act_comm M (monic e) (monic d) v
        ∙ sym (division big wd M (monic t) v
        ∙ ap₂ M.add (ap (act M (monic d)) quotient_acts) (ap (λ r. act M r v) remainder_zero ∙ act_zeros M (suc m) v)
        ∙ M.add-zero _)

    -- T = E·D with a monic E
    pub cofactor : (j n : ℕ) → n ≡ suc m + j → Words p n t → (e : List ℕ) × Words p j e × Same p (polynomial_product p (monic e) (monic d)) (monic t)
    cofactor j n l wt =
        let (e, we, q) = quotient_monic j n t l wt in
        (e, we, same_of_actions big (polynomial_product p (monic e) (monic d)) (monic t) (cofactor_acts e q))

-- of two degrees that add up to n one is at most n/2
pub half_degree : {p n : ℕ} {t : List ℕ} → 2 ≤ p → Words p n t → HasDivisor p t
    → (m : ℕ) × (0 < m) × (m + m ≤ n) × (d : List ℕ) × Words p m d × Divides p d t
half_degree big wt (zero, pos, l, d, wd, h) = absurd (omega arith)
half_degree {p} {n} {t} big wt (suc m, pos, l, d, wd, h) = by_degree (dec_le (suc m + suc m) n)
  where
    size : length t ≡ n
    size = words_length wt

    by_degree : Dec (suc m + suc m ≤ n) → (m : ℕ) × (0 < m) × (m + m ≤ n) × (d : List ℕ) × Words p m d × Divides p d t
    by_degree (yes low) = (suc m, pos, low, d, wd, h)
    by_degree (no high) =
        let (e, we, same) = cofactor big wd t h (n - suc m) n (omega (arith, size)) wt in
        (n - suc m, omega (arith, size), omega arith, e, we, (monic d, same))
