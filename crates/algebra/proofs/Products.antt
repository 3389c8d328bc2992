-- The product of two commutative rings: pairs, with sums and products in each component.
--   pair_ring R S   the product of R and S
use mathlib.Core.Path.{◌≡◌, Σ_path}
use mathlib.Core.HLevel.{Σ_set}
use Rattle.algebra.specs.Ring.{CommutativeRing}

pub pair_path : {A B : Type 0} {x y : A × B} → x.0 ≡ y.0 → x.1 ≡ y.1 → x ≡ y
pair_path = Σ_path

unfoldable pub pair_ring : {A B : Type 0} → CommutativeRing A → CommutativeRing B → CommutativeRing (A × B)
pair_ring R S = record {
  zero = (R.zero, S.zero);
  one = (R.one, S.one);
  add = λ x y. (R.add x.0 y.0, S.add x.1 y.1);
  neg = λ x. (R.neg x.0, S.neg x.1);
  mul = λ x y. (R.mul x.0 y.0, S.mul x.1 y.1);
  is_set = Σ_set R.is_set (λ a. S.is_set);
  add_assoc = λ x y z. pair_path (R.add_assoc x.0 y.0 z.0) (S.add_assoc x.1 y.1 z.1);
  add_comm = λ x y. pair_path (R.add_comm x.0 y.0) (S.add_comm x.1 y.1);
  add-zero = λ x. pair_path (R.add-zero x.0) (S.add-zero x.1);
  add-neg = λ x. pair_path (R.add-neg x.0) (S.add-neg x.1);
  mul_assoc = λ x y z. pair_path (R.mul_assoc x.0 y.0 z.0) (S.mul_assoc x.1 y.1 z.1);
  mul_comm = λ x y. pair_path (R.mul_comm x.0 y.0) (S.mul_comm x.1 y.1);
  mul-one = λ x. pair_path (R.mul-one x.0) (S.mul-one x.1);
  mul-add = λ x y z. pair_path (R.mul-add x.0 y.0 z.0) (S.mul-add x.1 y.1 z.1);
}
