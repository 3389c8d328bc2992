-- Whether each of the records has a direction, as the test of the code says it.
use Rattle.std.specs.List.{All}
use Rattle.std.proofs.Common.{IsTrue, ◌↔◌}
use mathlib.Core.Path.{◌≡◌, refl, sym}
use mathlib.Core.Bool.{Bool, true, false, and-eq-true_iff}
use mathlib.Core.List.{List, [], ◌∷◌}
use Prim.Native.Nat.{zero, suc, ◌≤◌}
use native.Mathlib.Omega.{arith}
use borrow.Author.Tests.{le-leb, leb-true}
use lib.Dec.{leb}
use Rattle.algebra.specs.Lists.{all}
use Rattle.cvalue.specs.Values.{has_direction}
use Rattle.cvalue.specs.declared.RecordValue.{RecordValue}

all_have : (xs : List RecordValue) → All (λ x. x.direction ≤ 1) xs → all has_direction xs ≡ true
unfolding all has_direction
all_have [] h = refl
all_have (x ∷ xs) h = rw (le-leb x.direction 1 (h 0 x (omega arith)), all_have xs (λ k d l. h (suc k) d (omega arith)))

have_all : (xs : List RecordValue) → all has_direction xs ≡ true → All (λ x. x.direction ≤ 1) xs
unfolding all has_direction
have_all [] h k d l = absurd (omega arith)
have_all (x ∷ xs) h zero d l = leb-true x.direction 1 ((and-eq-true_iff (leb x.direction 1) (all has_direction xs)).0 h).0
have_all (x ∷ xs) h (suc k) d l = have_all xs ((and-eq-true_iff (leb x.direction 1) (all has_direction xs)).0 h).1 k d (omega arith)

-- a test that is true exactly where another is
same : (r b : Bool) → (r ≡ true → b ≡ true) → (b ≡ true → r ≡ true) → r ≡ b
same true b f g = sym (f refl)
same false true f g = g refl
same false false f g = refl

pub directions_tested : (xs : List RecordValue) (r : Bool) → (IsTrue r ↔ All (λ x. x.direction ≤ 1) xs) → r ≡ all has_direction xs
directions_tested xs r e = same r (all has_direction xs) (λ h. all_have xs (e.0 h)) (λ h. e.1 (have_all xs h))
