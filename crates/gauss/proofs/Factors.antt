-- Divisors of monic polynomials, by reduction modulo them: a divisor has at most the degree of what it divides; a D without proper divisors that divides E·D1
-- divides E or D1, for modulo D the residues are a field; and it divides a D1 without proper divisors only where they are equal.
--   Irreducible p m d   d is m + 1 words, and their monic polynomial has no monic divisor of degree 1 to m
use mathlib.Core.Path.{◌≡◌, sym, ap, subst, ◌∙◌}
use mathlib.Core.List.{List, [], ◌∷◌, ◌++◌, append_assoc}
use mathlib.Core.Logic.{◌⊎◌, inl, inr, ⊎_elim}
use Prim.Native.Nat.{ℕ, suc, ◌+◌, ◌-◌, ◌≤◌, ◌<◌}
use native.Mathlib.Nat.{eq-or-lt_of_le}
use native.Mathlib.Decide.{dec_le}
use native.Mathlib.Omega.{arith}
use lib.ListN.{length, replicate}
use Rattle.algebra.specs.Prime.{Prime}
use Rattle.algebra.specs.Ring.{CommutativeRing, Field, power}
use Rattle.algebra.proofs.FieldLaws.{mul_left_cancel}
use Rattle.algebra.proofs.RingLaws.{add_left_cancel, mul-zero}
use Rattle.array.specs.Words.{Words}
use Rattle.array.proofs.Words.{snoc_words, words_length}
use Rattle.quotient.specs.Divisor.{Same, Divides, HasDivisor, polynomial_product, monic}
use Rattle.quotient.specs.Residue.{Residue}
use Rattle.quotient.proofs.Divisor.{divides_zero, zero_divides}
use Rattle.quotient.proofs.Evaluation.{evaluate-monic}
use Rattle.quotient.proofs.Field.{residue_field}
use Rattle.quotient.proofs.FieldModulus.{one_among_zeros}
use Rattle.quotient.proofs.Operations.{constant-zero, residue_discrete}
use Rattle.quotient.proofs.Reduction.{characteristic, reduce, reduce_modulus, reduce_product, reduce_residue, reduce_same, zero_is}
use Rattle.quotient.proofs.Ring.{act_one_padded, residue_ring, x_residue}
use Rattle.quotient.proofs.Substitution.{evaluate_x}

abbrev pub Irreducible : ℕ → ℕ → List ℕ → Type 0
Irreducible p m d = Words p (suc m) d × (HasDivisor p d → ⊥)

module _ {p m : ℕ} {d : List ℕ} (big : 2 ≤ p) (wd : Words p (suc m) d) where
  abbrev K : CommutativeRing (Residue p (suc m))
  K = residue_ring big wd

  -- a monic polynomial of lower degree than D is not 0 modulo D: its words are its residue, and one of them is 1
  pub lower_degree_nonzero : {k : ℕ} {f : List ℕ} → Words p k f → k < suc m → reduce big wd (monic f) ≡ K.zero → ⊥
  unfolding reduce monic
  lower_degree_nonzero {k} {f} wf less h =
      let fits : suc k + (m - k) ≡ suc m = omega arith in
      one_among_zeros f (replicate (m - k) 0) (suc m)
      (sym (append_assoc f (1 ∷ []) (replicate (m - k) 0)) ∙ sym (act_one_padded big wd (snoc_words wf big) (m - k) fits)
      ∙ ap (λ u. u.0) (sym (evaluate_x big wd (f ++ 1 ∷ [])) ∙ h) ∙ zero_is big wd ∙ constant-zero (suc m))

  pub divisor_degree : {n : ℕ} {t : List ℕ} → Words p n t → Divides p d t → suc m ≤ n
  divisor_degree {n} {t} wt h = by_size (dec_le (suc m) n)
    where
      by_size : Dec (suc m ≤ n) → suc m ≤ n
      by_size (yes l) = l
      by_size (no l) = absurd (lower_degree_nonzero wt (omega arith) (divides_zero big wd t h))

  -- T = E·D1 modulo D
  pub reduce_factors : (e d1 t : List ℕ) → Same p (polynomial_product p (monic e) (monic d1)) (monic t)
      → K.mul (reduce big wd (monic e)) (reduce big wd (monic d1)) ≡ reduce big wd (monic t)
  reduce_factors e d1 t same =
      sym (reduce_product big wd (monic e) (monic d1)) ∙ reduce_same big wd (polynomial_product p (monic e) (monic d1)) (monic t) same

  -- of its own degree D divides only itself: X^(m + 1) + d and X^(m + 1) + d1 are both 0 modulo D
  equal_degree : {d1 : List ℕ} → Words p (suc m) d1 → Divides p d d1 → d ≡ d1
  unfolding reduce
  equal_degree {d1} w1 h =
      let x = x_residue big wd in
      let same_power : power K x (length d) ≡ power K x (length d1) = ap (power K x) (words_length wd ∙ sym (words_length w1)) in
      let lower : reduce big wd d ≡ reduce big wd d1
      = add_left_cancel K (power K x (length d1)) (reduce big wd d) (reduce big wd d1)
      (ap (λ y. K.add y (reduce big wd d)) (sym same_power) ∙ sym (evaluate-monic K p (characteristic big wd) x d) ∙ reduce_modulus big wd
      ∙ sym (divides_zero big wd d1 h) ∙ evaluate-monic K p (characteristic big wd) x d1) in
      ap (λ u. u.0) (sym (reduce_residue big wd (d, wd)) ∙ lower ∙ reduce_residue big wd (d1, w1))

-- a D of degree at least 1 that divides a D1 without proper divisors is D1
pub divides_irreducible : {p m m1 : ℕ} {d d1 : List ℕ} → 2 ≤ p → Words p (suc m) d → Irreducible p m1 d1 → Divides p d d1 → d ≡ d1
divides_irreducible {p} {m} {m1} {d} {d1} big wd (w1, irreducible) h = ⊎_elim equal less (eq-or-lt_of_le (divisor_degree big wd w1 h))
  where
    equal : suc m ≡ suc m1 → d ≡ d1
    equal e = equal_degree big wd (subst (λ k. Words p k d1) (sym e) w1) h

    less : suc m < suc m1 → d ≡ d1
    less l = absurd (irreducible (suc m, omega arith, omega (arith, words_length w1), d, wd, h))

-- Euclid's lemma
pub divides_factor : {p m : ℕ} {d : List ℕ} → Prime p → Irreducible p m d
    → (e d1 t : List ℕ) → Same p (polynomial_product p (monic e) (monic d1)) (monic t) → Divides p d t → Divides p d e ⊎ Divides p d d1
unfolding residue_field
divides_factor {p} {m} {d} prime (wd, irreducible) e d1 t same h = by_residue (residue_discrete p (suc m) (residue_of e) F.ring.zero)
  where
    F : Field (Residue p (suc m))
    F = residue_field prime wd irreducible

    residue_of : List ℕ → Residue p (suc m)
    residue_of f = reduce prime.0 wd (monic f)

    by_residue : Dec (residue_of e ≡ F.ring.zero) → Divides p d e ⊎ Divides p d d1
    by_residue (yes z) = inl (zero_divides prime.0 wd e z)
    by_residue (no n) =
        inr (zero_divides prime.0 wd d1 (mul_left_cancel F (residue_of e) (residue_of d1) F.ring.zero n
        (reduce_factors prime.0 wd e d1 t same ∙ divides_zero prime.0 wd t h ∙ sym (mul-zero F.ring (residue_of e)))))
