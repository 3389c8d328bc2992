-- An element α with n distinct conjugates α, α^p, …, α^(p^(n − 1)) has independent powers 1, α, …, α^(n − 1) over the constants: for a polynomial f over the
-- constants f(α)^p = f(α^p), so that f(α) = 0 makes every conjugate a root of f. An eigenvector α^p = z·α, where z has order n, has the conjugates α, z·α, …, z^(n − 1)·α.
--   Apart R p a n   the first n conjugates of a are distinct
--   conjugates      the list of them
use mathlib.Core.Path.{◌≡◌, refl, sym, ap, ap₂, ◌∙◌}
use mathlib.Core.List.{List, ◌∷◌, map}
use Prim.Native.Nat.{ℕ, suc, ◌-◌, ◌^◌, ◌≤◌, ◌<◌}
use native.Mathlib.Nat.{one-le-pow, pos_of_ne-zero}
use native.Mathlib.Decide.{ℕ_discrete}
use native.Mathlib.Omega.{arith}
use lib.ListN.{length-map, replicate}
use Rattle.algebra.specs.Lists.{Member, Distinct, range}
use Rattle.algebra.specs.Prime.{Prime}
use Rattle.algebra.specs.Ring.{CommutativeRing, Field, numeral, power}
use Rattle.algebra.proofs.RingLaws.{one-mul, zero-mul, add-mul, power_of_zero, numeral-suc}
use Rattle.algebra.proofs.FieldLaws.{mul_left_cancel}
use Rattle.algebra.proofs.Lists.{member_all, map_member, distinct_map}
use Rattle.algebra.proofs.Search.{range_length, range_bounds, range_distinct}
use Rattle.algebra.proofs.Roots.{Zero, Root, zero_of_roots}
use Rattle.algebra.proofs.Order.{HasOrder, powers_distinct}
use Rattle.array.specs.Words.{Words, none, more}
use Rattle.quotient.specs.Residue.{sum, scale, constant}
use Rattle.quotient.proofs.Conjugates.{evaluate_conjugate}
use Rattle.quotient.proofs.Evaluation.{evaluate, evaluate-sum, evaluate-scale}
use Rattle.quotient.proofs.Sums.{sum_comm, sum_assoc, sum-zero, sum_negation}
use Rattle.quotient.proofs.Operations.{sum_words, scale_words, constant_words, constant-zero}
use Rattle.array.proofs.Words.{words_length}
use Rattle.algebra.proofs.Constants.{numeral_nonzero}
use Rattle.galois.proofs.Eigenvector.{Eigen, iterated_power}

-- f − g = 0 only if f = g
difference_zero : {p n : ℕ} {f g : List ℕ} → 2 ≤ p → Words p n f → Words p n g → sum p f (scale p (p - 1) g) ≡ constant n 0 → f ≡ g
difference_zero {p} {n} {f} {g} big wf wg e =
    let s = scale p (p - 1) g in
    let ws : Words p n s = scale_words (p - 1) wg in
    sym (sum-zero wf) ∙ ap (sum p f) (sym (sum_negation big wg) ∙ sum_comm wg ws) ∙ sym (sum_assoc wf ws wg) ∙ ap (λ u. sum p u g) e
    ∙ sum_comm (constant_words n (omega arith)) wg ∙ sum-zero wg

abbrev pub Apart : {A : Type 0} → CommutativeRing A → ℕ → A → ℕ → Type 0
Apart R p a n = (j k : ℕ) → j < n → k < n → power R a (p ^ j) ≡ power R a (p ^ k) → j ≡ k

module _ {A : Type 0} (F : Field A) (p : ℕ) (prime : Prime p) (characteristic : numeral F.ring p ≡ F.ring.zero) (a : A) where
  abbrev R : CommutativeRing A
  R = F.ring

  conjugate_root : (f : List ℕ) → evaluate R f a ≡ R.zero → (k : ℕ) → evaluate R f (power R a (p ^ k)) ≡ R.zero
  conjugate_root f e k =
      let exponent : suc (p ^ k - 1) ≡ p ^ k = omega (arith, one-le-pow k p (omega (arith, prime.0))) in
      sym (evaluate_conjugate R prime characteristic f a k) ∙ ap (λ x. power R x (p ^ k)) e ∙ ap (power R R.zero) (sym exponent) ∙ power_of_zero R (p ^ k - 1)

  -- a list of words whose constants are 0
  zero_words : {n : ℕ} {f : List ℕ} → Words p n f → Zero R (map (numeral R) f) → f ≡ replicate n 0
  zero_words none h = refl
  zero_words (more {a = c} l w) h = ap₂ ◌∷◌ (by_value (ℕ_discrete c 0)) (zero_words w h.1)
    where
      by_value : Dec (c ≡ 0) → c ≡ 0
      by_value (yes e) = e
      by_value (no n) = absurd (numeral_nonzero R p prime characteristic F.one-ne-zero c (pos_of_ne-zero n) l h.0)

  module _ (n : ℕ) (apart : Apart R p a n) where
    abbrev conjugates : List A
    conjugates = map (λ k. power R a (p ^ k)) (range 0 n)

    conjugates_distinct : Distinct conjugates
    conjugates_distinct = distinct_map (λ k. power R a (p ^ k)) (range 0 n) (λ j k l m. apart j k (below j l) (below k m)) (range_distinct 0 n)
      where
        below : (j : ℕ) → Member j (range 0 n) → j < n
        below j m = omega (arith, range_bounds 0 n j m)

    powers_independent : {f : List ℕ} → Words p n f → evaluate R f a ≡ R.zero → f ≡ replicate n 0
    unfolding evaluate
    powers_independent {f} w e =
        zero_words w (zero_of_roots F conjugates (map (numeral R) f) conjugates_distinct
        (member_all (Root F (map (numeral R) f)) conjugates
        (λ b m. let (k, l, g) = map_member (λ k. power R a (p ^ k)) (range 0 n) b m in ap (evaluate R f) g ∙ conjugate_root f e k))
        (omega (arith, length-map (range 0 n) (λ k. power R a (p ^ k)), range_length 0 n, length-map f (numeral R), words_length w)))

    -- f(α) = g(α) only if f = g: the difference f + (p − 1)·g vanishes
    pub evaluate_injective : {f g : List ℕ} → Words p n f → Words p n g → evaluate R f a ≡ evaluate R g a → f ≡ g
    evaluate_injective {f} {g} wf wg e =
        difference_zero prime.0 wf wg (powers_independent (sum_words wf (scale_words (p - 1) wg)) vanishes ∙ sym (constant-zero n))
      where
        opposite : (x : A) → R.add x (R.mul (numeral R (p - 1)) x) ≡ R.zero
        opposite x =
            let s : suc (p - 1) ≡ p = omega arith in
            ap (λ y. R.add y (R.mul (numeral R (p - 1)) x)) (sym (one-mul R x)) ∙ sym (add-mul R R.one (numeral R (p - 1)) x)
            ∙ ap (λ y. R.mul y x) (sym (numeral-suc R (p - 1)) ∙ ap (numeral R) s ∙ characteristic) ∙ zero-mul R x

        vanishes : evaluate R (sum p f (scale p (p - 1) g)) a ≡ R.zero
        vanishes =
            evaluate-sum R p characteristic a f (scale p (p - 1) g)
            ∙ ap (R.add (evaluate R f a)) (evaluate-scale R p characteristic a (p - 1) g ∙ ap (R.mul (numeral R (p - 1))) (sym e)) ∙ opposite (evaluate R f a)

  pub eigen_apart : (z : A) → power R z p ≡ z → Eigen R p z a → (n : ℕ) → HasOrder R z n → Apart R p a n
  eigen_apart z fixed eigen n order j k l m e =
      let conjugate : (i : ℕ) → power R a (p ^ i) ≡ R.mul a (power R z i) = λ i. iterated_power R p z fixed a eigen.power_is i ∙ R.mul_comm (power R z i) a in
      powers_distinct R z n order j k l m (mul_left_cancel F a (power R z j) (power R z k) eigen.nonzero (sym (conjugate j) ∙ e ∙ conjugate k))
