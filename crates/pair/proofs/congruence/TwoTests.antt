-- The two tests of `congruent`, from one matrix of the powers of S modulo T2: what each array holds, and what the tests decide.
use mathlib.Core.Path.{◌≡◌, sym, ap, ap₂, ◌∙◌}
use mathlib.Core.Bool.{Bool, true, false, ◌&&◌}
use mathlib.Core.List.{List}
use Prim.Native.Nat.{ℕ, suc, ◌-◌, ◌≤◌}
use native.Mathlib.Omega.{arith}
use lib.ListN.{length, take}
use Rattle.algebra.specs.Lists.{equal}
use Rattle.array.specs.Words.{Words}
use Rattle.quotient.specs.Residue.{sum, constant, product, power, residue_of_x, substitute, modulus_at}
use Rattle.quotient.proofs.Operations.{power_words, substitute_words}
use Rattle.array.proofs.Words.{words_length}
use Rattle.array.specs.Array.{padded, Holds}
use Rattle.matrix.specs.Matrix.{Powers, column, matrix_product}
use Rattle.matrix.proofs.PowerMatrix.{column_is_power, apply_is_substitute}
use Rattle.array.proofs.Padded.{array_length, holds_is, front_is}
use Rattle.pair.specs.Pair.{congruences_hold}
use Rattle.pair.proofs.CongruenceTest as CongruenceTest

module _ (p n : ℕ) (t s m : List ℕ) (h : Powers p n (take n t) (take n s) m) (x : Holds p n t) (y : Holds p n s) (big : 2 ≤ p) (some : 1 ≤ n)
    (short : n ≤ 16) where
  -- u(S) for any u
  module _ (u image : List ℕ) (z : Holds p n u) (e : image ≡ padded (matrix_product p n m (take n u))) where
    image_is : image ≡ padded (substitute p (take n t) (take n s) (take n u))
    image_is = apply_is_substitute p n t s m big x y h u image z e

    image_words : Words p n (substitute p (take n t) (take n s) (take n u))
    image_words = substitute_words big x.words y.words z.words

    pub image_holds : Holds p n image
    image_holds = holds_is image_is image_words

    pub image-length : length image ≡ 16
    image-length = array_length n image short image_holds.zeros

    image_front : take n image ≡ substitute p (take n t) (take n s) (take n u)
    image_front = front_is image_is image_words

  -- S^(n−1) and S^n
  module _ (last : List ℕ) (e : last ≡ padded (column n m (n - 1))) where
    last_is : last ≡ padded (power p (take n t) (take n s) (n - 1))
    last_is = column_is_power p n t s m big x y h (n - 1) last (omega arith) e

    pub last_holds : Holds p n last
    last_holds = holds_is last_is (power_words big x.words y.words (n - 1))

    module _ (top : List ℕ) (f : top ≡ padded (product p (take n t) (take n s) (take n last))) where
      top_is : top ≡ padded (power p (take n t) (take n s) n)
      unfolding power
      top_is =
          let up : suc (n - 1) ≡ n = omega arith in
          f ∙ ap padded (ap (product p (take n t) (take n s)) (front_is last_is (power_words big x.words y.words (n - 1))) ∙ ap (power p (take n t) (take n s)) up)

      pub top_holds : Holds p n top
      top_holds = holds_is top_is (power_words big x.words y.words n)

      -- T1(S) is S^n and what the lower words of T1 give
      pub root_decides : (t1 rest : List ℕ) (b : Bool) → Holds p n t1 → rest ≡ padded (matrix_product p n m (take n t1)) → b ≡ equal (sum p (take n top) (take n rest)) (constant n 0)
          → b ≡ equal (modulus_at p (take n t) (take n s) (take n t1)) (constant n 0)
      unfolding modulus_at
      root_decides t1 rest b z g k =
          k ∙ ap (λ l. equal l (constant n 0)) (ap₂ (sum p)
          (front_is top_is (power_words big x.words y.words n) ∙ ap (power p (take n t) (take n s)) (sym (words_length z.words)))
          (image_front t1 rest z g))

  -- the two tests
  module _ (t1 r : List ℕ) (z : Holds p n t1) (w : Holds p n r) (b : Bool) (k : b ≡ equal (modulus_at p (take n t) (take n s) (take n t1)) (constant n 0)) where
    tests : (b && equal (substitute p (take n t) (take n s) (take n r)) (residue_of_x p (take n t))) ≡ congruences_hold p (take n t1) (take n t) (take n s) (take n r)
    tests =
        ap (λ a. a && equal (substitute p (take n t) (take n s) (take n r)) (residue_of_x p (take n t))) k
        ∙ CongruenceTest.hold_of_two big n some z.words x.words y.words w.words

    pub root_fails : b ≡ false → b ≡ congruences_hold p (take n t1) (take n t) (take n s) (take n r)
    root_fails f = f ∙ ap (λ a. a && equal (substitute p (take n t) (take n s) (take n r)) (residue_of_x p (take n t))) (sym f) ∙ tests

    pub inverse_decides : (image : List ℕ) (c : Bool) → b ≡ true → image ≡ padded (matrix_product p n m (take n r)) → c ≡ equal (take n image) (residue_of_x p (take n t))
        → c ≡ congruences_hold p (take n t1) (take n t) (take n s) (take n r)
    inverse_decides image c f e g =
        g ∙ ap (λ l. equal l (residue_of_x p (take n t))) (image_front r image w e)
        ∙ ap (λ a. a && equal (substitute p (take n t) (take n s) (take n r)) (residue_of_x p (take n t))) (sym f) ∙ tests
