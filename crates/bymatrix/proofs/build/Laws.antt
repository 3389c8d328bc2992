-- The building call's number, the matrix that is written, and what the two lists hold after the call.
use mathlib.Core.Path.{◌≡◌, refl, sym, ap, ◌∙◌}
use mathlib.Core.Bool.{Bool, false, not, ◌&&◌, and-true}
use mathlib.Core.List.{List, [], ◌∷◌}
use Prim.Native.Nat.{ℕ, ◌*◌, ◌^◌, ◌≤◌}
use native.Mathlib.Omega.{arith}
use lib.Dec.{eqb}
use lib.ListN.{length, take}
use Rattle.algebra.specs.Lists.{all}
use Rattle.array.specs.Array.{padded, Square, entry}
use Rattle.array.specs.Words.{Words, word_bound}
use Rattle.array.proofs.Padded.{front_is}
use Rattle.matrix.specs.Matrix.{Powers}
use Rattle.matrix.proofs.PowerMatrix.{powers_square}
use Rattle.pair.specs.Pair.{check_number, check_number_or}
use Rattle.pair.proofs.Refusals.{none_of_output}
use Rattle.pair.proofs.Theorem.{checker_theorem}
use Rattle.refusal.specs.Models.{Given}
use Rattle.refusal.specs.Number.{number}
use Rattle.refusal.specs.Refusal.{bad_length}
use Rattle.refusal.specs.declared.number.Refusal.{Refusal}
use Rattle.refusal.proofs.Lists.{lengths_given}
use Rattle.refusal.proofs.Refused.{refused}
use Rattle.refusal.proofs.Written.{output_new, output_old}
use Rattle.bymatrix.specs.ByMatrix.{square, matrix_of, matrices_number, forward_output, back_output}
use Rattle.bymatrix.proofs.Products.{powers_matrix}

-- the arrays a and b that hold T and S, and the matrix m of the powers of S

module _ (p n : ℕ) (t s a b m : List ℕ) (big : 2 ≤ p) (wt : Words p n t) (ws : Words p n s) (e : a ≡ padded t) (f : b ≡ padded s) (h : Powers p n (take n a) (take n b) m) where
  powers : Powers p n t s m
  powers = rw (front_is e wt, front_is f ws) at h

  pub powers_fit : p ≤ 2 ^ 20 → Square word_bound n m
  powers_fit few =
      let square = powers_square big wt ws powers in
      record { size = square.size; below = λ i j li lj. omega (arith, square.below i j li lj) }

  pub matrix_written : (out : List ℕ) → out ≡ square n (entry m) → out ≡ matrix_of p n t s
  matrix_written out g = powers_matrix wt powers out g

-- the call, by its tests a and b of the two lists

module _ (p n : ℕ) (t1 t2 s r forward back : List ℕ) (a b : Bool) (e : a ≡ eqb (length forward) (n * n)) (f : b ≡ eqb (length back) (n * n)) where
  both_lengths : not (a && b) ≡ bad_length (n * n) (forward ∷ back ∷ [])
  unfolding bad_length all
  both_lengths = rw (e, f, and-true (eqb (length back) (n * n)))

  number_is : (k : ℕ) → k ≡ check_number_or (not (a && b)) p n t1 t2 s r → k ≡ matrices_number p n t1 t2 s r forward back
  unfolding matrices_number
  number_is k g = g ∙ ap (λ x. check_number_or x p n t1 t2 s r) both_lengths

  -- refused, both lists are as they were
  module _ (x : Refusal) (g : number x ≡ check_number_or (not (a && b)) p n t1 t2 s r) where
    pub refusal_is : number x ≡ matrices_number p n t1 t2 s r forward back
    refusal_is = number_is (number x) g

    pub forward_kept : forward ≡ forward_output p n t1 t2 s r forward back
    unfolding forward_output
    forward_kept = output_old (number x) (matrices_number p n t1 t2 s r forward back) (matrix_of p n t2 s) forward refusal_is (refused x)

    pub back_kept : back ≡ back_output p n t1 t2 s r forward back
    unfolding back_output
    back_kept = output_old (number x) (matrices_number p n t1 t2 s r forward back) (matrix_of p n t1 r) back refusal_is (refused x)

  -- else the lists are a pair for two models, and each output list gets its matrix
  module _ (g : 0 ≡ check_number_or (not (a && b)) p n t1 t2 s r) where
    pub success_is : 0 ≡ matrices_number p n t1 t2 s r forward back
    success_is = number_is 0 g

    accepted : (bad_length (n * n) (forward ∷ back ∷ []) ≡ false) × (check_number p n t1 t2 s r ≡ 0)
    unfolding matrices_number
    accepted = none_of_output (bad_length (n * n) (forward ∷ back ∷ [])) p n t1 t2 s r (sym success_is)

    given : Given p n t1 t2 s r
    given = ((checker_theorem p n t1 t2 s r).0 accepted.1).0

    sizes : (out : List ℕ) → length out ≡ n * n → (2 ≤ p) × (p ≤ 2 ^ 20) × (1 ≤ n) × (n ≤ 16) × (length out ≡ n * n)
    sizes out room = (given.models.prime.0, omega (arith, given.models.small), given.models.degree.0, given.models.degree.1, room)

    pub forward_sizes : (2 ≤ p) × (p ≤ 2 ^ 20) × (1 ≤ n) × (n ≤ 16) × (length forward ≡ n * n)
    forward_sizes = sizes forward (lengths_given (n * n) (forward ∷ back ∷ []) accepted.0).0

    pub back_sizes : (2 ≤ p) × (p ≤ 2 ^ 20) × (1 ≤ n) × (n ≤ 16) × (length back ≡ n * n)
    back_sizes = sizes back (lengths_given (n * n) (forward ∷ back ∷ []) accepted.0).1.0

    pub forward_words : Words p n t2 × Words p n s
    forward_words = (given.models.modulus2, given.words_s)

    pub back_words : Words p n t1 × Words p n r
    back_words = (given.models.modulus1, given.words_r)

    pub forward_new : (after : List ℕ) → after ≡ matrix_of p n t2 s → after ≡ forward_output p n t1 t2 s r forward back
    unfolding forward_output
    forward_new after h = output_new 0 (matrices_number p n t1 t2 s r forward back) (matrix_of p n t2 s) forward after success_is refl h

    pub back_new : (after : List ℕ) → after ≡ matrix_of p n t1 r → after ≡ back_output p n t1 t2 s r forward back
    unfolding back_output
    back_new after h = output_new 0 (matrices_number p n t1 t2 s r forward back) (matrix_of p n t1 r) back after success_is refl h
