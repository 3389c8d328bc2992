-- The test `equal` of two lists of numbers is true exactly when they are equal. Besides, two laws of tests: when two agree, and when one is false.
use mathlib.Core.Path.{◌≡◌, refl, sym, ap, ap₂, ◌∙◌}
use mathlib.Core.Bool.{Bool, true, false, ◌&&◌, and-eq-true_iff, false≢true}
use mathlib.Core.List.{List, [], ◌∷◌}
use Prim.Native.Nat.{ℕ}
use lib.Dec.{eqb}
use borrow.Author.Tests.{eqb-true, eq-eqb}
use Rattle.algebra.specs.Lists.{equal}

pub equal_refl : (xs : List ℕ) → equal xs xs ≡ true
unfolding equal
equal_refl [] = refl
equal_refl (x ∷ xs) = ap₂ ◌&&◌ (eq-eqb x x refl) (equal_refl xs)

pub equal_of : {xs ys : List ℕ} → xs ≡ ys → equal xs ys ≡ true
equal_of {xs} e = ap (equal xs) (sym e) ∙ equal_refl xs

pub of_equal : (xs ys : List ℕ) → equal xs ys ≡ true → xs ≡ ys
unfolding equal
of_equal [] [] h = refl
of_equal [] (y ∷ ys) h = absurd (false≢true h)
of_equal (x ∷ xs) [] h = absurd (false≢true h)
of_equal (x ∷ xs) (y ∷ ys) h =
    let parts = (and-eq-true_iff (eqb x y) (equal xs ys)).0 h in
    ap₂ ◌∷◌ (eqb-true x y parts.0) (of_equal xs ys parts.1)

-- two Booleans are equal if each is true where the other is
pub equal_tests : (a b : Bool) → (a ≡ true → b ≡ true) → (b ≡ true → a ≡ true) → a ≡ b
equal_tests true b f g = sym (f refl)
equal_tests false true f g = g refl
equal_tests false false f g = refl

-- a test that cannot be true is false
pub test_fails : (b : Bool) → (b ≡ true → ⊥) → b ≡ false
test_fails true h = absurd (h refl)
test_fails false h = refl
