-- What `artin_schreier` answers. Where only 0 is in the kernel of the system there is no solution. A vector u of the kernel with u[0] = 0 is a residue that the p-th power fixes and that is
-- no constant, so that T has a proper divisor; any other gives the solution.
use mathlib.Core.Path.{◌≡◌, refl, sym, ap, subst, ◌∙◌}
use mathlib.Core.Bool.{Bool, true, false}
use mathlib.Core.List.{List, [], ◌∷◌, head-eq_of_cons-eq}
use Prim.Native.Nat.{ℕ, zero, suc, ◌-◌, ◌≤◌, ◌<◌}
use native.Mathlib.Decide.{ℕ_discrete}
use native.Mathlib.Nat.{pos_of_ne-zero, sub-zero}
use native.Mathlib.Omega.{arith}
use lib.ListN.{length, get_or, take, replicate}
use lib.Seq.{get_or-take}
use Rattle.algebra.specs.Prime.{Prime}
use Rattle.array.specs.Array.{padded, entry, Holds, Square}
use Rattle.array.specs.Words.{Words, more}
use Rattle.array.proofs.Padded.{array_length, holds_is, holds_word, front_is}
use Rattle.linear.specs.System.{Solves, Outcome}
use Rattle.matrix.specs.Matrix.{Frobenius, Placed}
use Rattle.matrix.proofs.FrobeniusMatrix.{power_x_words}
use Rattle.modular.specs.Inverse.{inverse}
use Rattle.quotient.specs.Divisor.{HasDivisor}
use Rattle.quotient.specs.DivisorTest.{has_divisor}
use Rattle.quotient.specs.Residue.{sum, scale, power}
use Rattle.quotient.proofs.Decision.{has_divisor_test, has_divisor?}
use Rattle.quotient.proofs.Operations.{constant-zero}
use Rattle.galois.specs.Tower.{ArtinSchreier}
use Rattle.galois.proofs.Alpha.{scale_one}
use Rattle.galois.proofs.ScaledEquation.{scaled_solution, fixed_is_zero}
use Rattle.scalar.specs.Shifted.{Shifted}
use Rattle.scalar.proofs.ShiftedMatrix.{shifted_square}
use Rattle.tower.specs.Equation.{without_constant, Differences, Solved, Unsolved}
use Rattle.tower.proofs.equation.System.{system_equation, equation_system}

module _ {p n : ℕ} {t b c s : List ℕ} (prime : Prime p) (short : suc n ≤ 16) (wt : Words p (suc n) t) (wa : Words p (suc n) (take (suc n) b))
    (matrix : Differences p (suc n) t c) (placed : Placed (suc n) 0 b c s) where
  abbrev a : List ℕ
  a = take (suc n) b

  -- a solution v would make (p − 1, v[1], …) a vector of the kernel
  no_solution : ((w : List ℕ) → Words p (suc n) w → Solves p (suc n) s [] w → w ≡ replicate (suc n) 0) → (v : List ℕ) → Words p (suc n) v → ArtinSchreier p (suc n) t a v → ⊥
  no_solution trivial [] x h = elim x [ ]
  no_solution trivial (x ∷ f) (more l w) h =
      let zero_first : x ≡ 0 = h.constant-zero in
      let one : p - (p - 1) ≡ 1 = omega (arith, prime.0) in
      let wf : Words p (suc n) (0 ∷ f) = more {a = 0} (omega (arith, prime.0)) w in
      let e : power p t (0 ∷ f) p ≡ sum p (0 ∷ f) (scale p (p - (p - 1)) a) =
      subst (λ y. power p t (y ∷ f) p ≡ sum p (y ∷ f) a) zero_first h.equation ∙ ap (sum p (0 ∷ f)) (sym (ap (λ y. scale p y a) one ∙ scale_one wa)) in
      let last : p - 1 < p = omega (arith, prime.0) in
      let o : p - 1 ≡ 0 = head-eq_of_cons-eq (trivial ((p - 1) ∷ f) (more last w) (equation_system prime short wt wa matrix placed (p - 1) wf last e)) in
      omega (arith, prime.0)

  module _ (u : List ℕ) (solves : Solves p (suc n) s [] u) where
    fixed_vector : Words p (suc n) u → get_or u 0 0 ≡ 0 → (u ≡ replicate (suc n) 0 → ⊥) → (HasDivisor p t → ⊥) → ⊥
    fixed_vector wu zero_first other irreducible = by_words u wu solves zero_first other
      where
        by_words : (u : List ℕ) → Words p (suc n) u → Solves p (suc n) s [] u → get_or u 0 0 ≡ 0 → (u ≡ replicate (suc n) 0 → ⊥) → ⊥
        by_words [] x solves z other = elim x [ ]
        by_words (x ∷ f) (more l w) solves z other =
            let pos : 0 < p = omega (arith, prime.0) in
            let wf : Words p (suc n) (0 ∷ f) = more pos w in
            let e : power p t (0 ∷ f) p ≡ sum p (0 ∷ f) (scale p p a) =
            system_equation prime short wt wa matrix placed 0 wf pos (subst (λ y. Solves p (suc n) s [] (y ∷ f)) z solves) ∙ ap (λ y. sum p (0 ∷ f) (scale p y a)) (sub-zero p) in
            other (ap (λ y. y ∷ f) z ∙ fixed_is_zero prime wt wa wf refl irreducible e ∙ constant-zero (suc n))

    solution_of : Words p (suc n) u → (get_or u 0 0 ≡ 0 → ⊥) → ArtinSchreier p (suc n) t a (scale p (inverse p (p - get_or u 0 0)) (without_constant u))
    unfolding without_constant
    solution_of wu other = by_words u wu solves other
      where
        by_words : (u : List ℕ) → Words p (suc n) u → Solves p (suc n) s [] u → (get_or u 0 0 ≡ 0 → ⊥) → ArtinSchreier p (suc n) t a (scale p (inverse p (p - get_or u 0 0)) (without_constant u))
        by_words [] x solves other = elim x [ ]
        by_words (x ∷ f) (more l w) solves other =
            let wf : Words p (suc n) (0 ∷ f) = more {a = 0} (omega (arith, prime.0)) w in
            let pos : 0 < x = pos_of_ne-zero other in
            scaled_solution prime wt wa wf refl (p - x) (omega arith) (omega arith) (system_equation prime short wt wa matrix placed x wf l solves)

-- the same of arrays

module _ (p n : ℕ) (t a c s : List ℕ) (prime : Prime p) (low : 1 ≤ n) (short : n ≤ 16) (ht : Holds p n t) (ha : Holds p n a) (matrix : Differences p n (take n t) c)
    (placed : Placed n 0 a c s) where
  pub system_square : Square p n s
  system_square =
      let before : Square p n c = shifted_square prime ht.words (power_x_words prime.0 ht.words) matrix.frobenius 1 prime.0 matrix.shifted in
      record { size = placed.size ∙ before.size; below = λ i j li lj. by_place before i j li lj (ℕ_discrete j 0) }
    where
      by_place : Square p n c → (i j : ℕ) → i < n → j < n → Dec (j ≡ 0) → entry s i j < p
      by_place before i j li lj (yes e) = rw (e, placed.words i li) (holds_word ha i li)
      by_place before i j li lj (no other) = rw (placed.others i j (omega arith) other) (before.below i j li lj)

-- the answers, from the outcome of the system
record Answers (p n : ℕ) (t a : List ℕ) (regular : Bool) (u : List ℕ) : Type 0 where
  if_regular : regular ≡ true → Unsolved p n t a
  if_fixed : regular ≡ false → get_or u 0 0 ≡ 0 → Unsolved p n t a
  if_solved :
      regular ≡ false → (get_or u 0 0 ≡ 0 → ⊥) → (v : List ℕ)
      → v ≡ padded (scale p (inverse p (p - get_or u 0 0)) (without_constant (take n u))) → Solved p n t a v

answers : (p n : ℕ) (t a c s : List ℕ) → Prime p → 1 ≤ n → n ≤ 16 → Holds p n t → Holds p n a → Differences p n (take n t) c → Placed n 0 a c s
    → (regular : Bool) (u : List ℕ) → Outcome p n s (replicate 16 0) regular u → Answers p n (take n t) (take n a) regular u
answers p zero t a c s prime low short ht ha matrix placed regular u outcome = absurd (omega arith)
answers p (suc n) t a c s prime low short ht ha matrix placed regular u outcome =
    let front : get_or (take (suc n) u) 0 0 ≡ get_or u 0 0 = get_or-take (suc n) u 0 0 (omega arith) in
    record {
      if_regular = λ e w h. absurd (no_solution prime short ht.words ha.words matrix placed (outcome.if_regular e).trivial w h.words h);
      if_fixed = λ e z w h. by_divisor e (front ∙ z) (has_divisor? prime.0 ht.words);
      if_solved = λ e other v f.
          let h : ArtinSchreier p (suc n) (take (suc n) t) (take (suc n) a) (scale p (inverse p (p - get_or u 0 0)) (without_constant (take (suc n) u))) =
          subst (λ x. ArtinSchreier p (suc n) (take (suc n) t) (take (suc n) a) (scale p (inverse p (p - x)) (without_constant (take (suc n) u)))) front
          (solution_of prime short ht.words ha.words matrix placed (take (suc n) u) (outcome.if_singular e).solves outcome.holds.words (λ z. other (sym front ∙ z))) in
          record { holds = holds_is f h.words; solution = subst (ArtinSchreier p (suc n) (take (suc n) t) (take (suc n) a)) (sym (front_is f h.words)) h };
    }
  where
    by_divisor : regular ≡ false → get_or (take (suc n) u) 0 0 ≡ 0 → Dec (HasDivisor p (take (suc n) t)) → has_divisor p (take (suc n) t) ≡ true
    by_divisor e z (yes d) = has_divisor_test prime.0 ht.words d
    by_divisor e z (no d) =
        absurd (fixed_vector prime short ht.words ha.words matrix placed (take (suc n) u) (outcome.if_singular e).solves outcome.holds.words z (outcome.if_singular e).nonzero d)

module _ (p n : ℕ) (t a c s : List ℕ) (prime : Prime p) (low : 1 ≤ n) (short : n ≤ 16) (ht : Holds p n t) (ha : Holds p n a) (matrix : Differences p n (take n t) c)
    (placed : Placed n 0 a c s) where
  each : (regular : Bool) (u : List ℕ) → Outcome p n s (replicate 16 0) regular u → Answers p n (take n t) (take n a) regular u
  each = answers p n t a c s prime low short ht ha matrix placed

  pub regular_answer : (u : List ℕ) → Outcome p n s (replicate 16 0) true u → Unsolved p n (take n t) (take n a)
  regular_answer u outcome = (each true u outcome).if_regular refl

  pub fixed_answer : (u : List ℕ) → Outcome p n s (replicate 16 0) false u → get_or u 0 0 ≡ 0 → Unsolved p n (take n t) (take n a)
  fixed_answer u outcome = (each false u outcome).if_fixed refl

  pub solved_answer : (u : List ℕ) → Outcome p n s (replicate 16 0) false u → (get_or u 0 0 ≡ 0 → ⊥)
      → (v : List ℕ) → v ≡ padded (scale p (inverse p (p - get_or u 0 0)) (without_constant (take n u))) → Solved p n (take n t) (take n a) v
  solved_answer u outcome = (each false u outcome).if_solved refl

-- the matrix of differences
pub differences_are : (p n : ℕ) (t m c : List ℕ) → Frobenius p n t m → Shifted p n 1 m c → Differences p n t c
differences_are p n t m c frobenius shifted = record { m = m; frobenius = frobenius; shifted = shifted }

pub differences_size : (p n : ℕ) (t c : List ℕ) → Differences p n t c → length c ≡ 256
differences_size p n t c d = d.shifted.size

pub residue_size : (p n : ℕ) (a : List ℕ) → n ≤ 16 → Holds p n a → length a ≡ 16
residue_size p n a short h = array_length n a short h.zeros
