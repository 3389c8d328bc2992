-- The pair on arrays, from α1 and α2: their powers are independent, so that the systems for P1 and P2 have one solution each, and what is worked out is S and R.
use mathlib.Core.Path.{◌≡◌, sym, ap, ap₂, subst, ◌∙◌}
use mathlib.Core.List.{List}
use Prim.Native.Nat.{ℕ}
use lib.ListN.{take}
use Rattle.array.specs.Array.{padded, Square, Holds}
use Rattle.array.proofs.Padded.{front_is, holds_is}
use Rattle.quotient.specs.Divisor.{HasDivisor}
use Rattle.quotient.specs.Residue.{substitute}
use Rattle.quotient.proofs.Decision.{test_irreducible}
use Rattle.matrix.specs.Matrix.{Powers}
use Rattle.matrix.proofs.PowerMatrix.{square_of_powers}
use Rattle.galois.specs.Express.{express, Independent}
use Rattle.frobenius.specs.Image.{Image}
use Rattle.finder.specs.Construct.{Size, Choices, FoundPair}
use Rattle.finder.specs.Finder.{generator, find_s}
use Rattle.finder.proofs.Values.{ModelLaws, model_laws, pair_laws}
use Rattle.finder.proofs.construct.Numbers.{number_from}

module _ (p n : ℕ) (t1 t2 : List ℕ) (h : Size p n) (h1 : Holds p n t1) (h2 : Holds p n t2) (x y : List ℕ) (e : Choices p n (take n t1) (take n t2) x y) where
  abbrev T1 : List ℕ
  T1 = take n t1

  abbrev T2 : List ℕ
  T2 = take n t2

  first_irreducible : HasDivisor p T1 → ⊥
  first_irreducible = test_irreducible h.prime.0 h1.words e.irreducible1

  second_irreducible : HasDivisor p T2 → ⊥
  second_irreducible = test_irreducible h.prime.0 h2.words e.irreducible2

  first_laws : ModelLaws p n T1
  first_laws = model_laws p n h T1 h1.words

  second_laws : ModelLaws p n T2
  second_laws = model_laws p n h T2 h2.words

  pub alpha1_holds : Holds p n x
  alpha1_holds = holds_is e.alpha1_is (first_laws.words first_irreducible)

  pub alpha2_holds : Holds p n y
  alpha2_holds = holds_is e.alpha2_is (second_laws.words second_irreducible)

  front1 : take n x ≡ generator p n T1
  front1 = front_is e.alpha1_is (first_laws.words first_irreducible)

  front2 : take n y ≡ generator p n T2
  front2 = front_is e.alpha2_is (second_laws.words second_irreducible)

  pub first_square : (m : List ℕ) → Powers p n T1 (take n x) m → Square p n m
  first_square m = square_of_powers p n t1 x m h.prime.0 h1 alpha1_holds

  pub second_square : (w : List ℕ) → Powers p n T2 (take n y) w → Square p n w
  second_square w = square_of_powers p n t2 y w h.prime.0 h2 alpha2_holds

  module _ (m w : List ℕ) (powers1 : Powers p n T1 (take n x) m) (powers2 : Powers p n T2 (take n y) w) where
    independent1 : Independent p n T1 (take n x)
    independent1 = subst (Independent p n T1) (sym front1) (first_laws.independent first_irreducible)

    independent2 : Independent p n T2 (take n y)
    independent2 = subst (Independent p n T2) (sym front2) (second_laws.independent second_irreducible)

    pub pair_is : (s r : List ℕ) → Image p n T1 m w s → Image p n T2 w m r → FoundPair p n T1 T2 0 s r
    unfolding find_s
    pair_is s r is ir =
        record {
          number_is = sym (number_from p n T1 T2 h e.irreducible1 e.irreducible2);
          forward_is = λ _. is.image_is (take n x) T2 (take n y) alpha1_holds.words powers1 independent1 h2.words alpha2_holds.words powers2
              ∙ ap₂ (λ u v. padded (substitute p T2 u (express p T1 v))) front2 front1;
          backward_is = λ _. ir.image_is (take n y) T1 (take n x) alpha2_holds.words powers2 independent2 h1.words alpha1_holds.words powers1
              ∙ ap₂ (λ u v. padded (substitute p T1 u (express p T2 v))) front1 front2
              ∙ ap padded (sym ((pair_laws p h.prime n h.low T1 T2 h1.words h2.words).exchanged h first_irreducible second_irreducible));
        }
