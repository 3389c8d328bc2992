-- Commutative rings and fields.
--   CommutativeRing A   operations on A with their laws
--   Field A             a commutative ring in which every element but 0 has an inverse
--   numeral R k         1 + 1 + … + 1, k times
--   power R a k         a·a·…·a, k times
--   value R f a         f(a) for the polynomial f, a list of coefficients, constant first
use Rattle.std.specs.Prelude.{◌≡◌, List, [], ◌∷◌, ℕ, zero, suc}

pub record CommutativeRing (A : Type 0) : Type 0 where
  pub zero : A
  pub one : A
  pub add : A → A → A
  pub neg : A → A
  pub mul : A → A → A
  pub is_set : IsSet A
  pub add_assoc : (a b c : A) → add (add a b) c ≡ add a (add b c)
  pub add_comm : (a b : A) → add a b ≡ add b a
  pub add-zero : (a : A) → add a zero ≡ a
  pub add-neg : (a : A) → add a (neg a) ≡ zero
  pub mul_assoc : (a b c : A) → mul (mul a b) c ≡ mul a (mul b c)
  pub mul_comm : (a b : A) → mul a b ≡ mul b a
  pub mul-one : (a : A) → mul a one ≡ a
  pub mul-add : (a b c : A) → mul a (add b c) ≡ add (mul a b) (mul a c)

pub record Field (A : Type 0) : Type 0 where
  pub ring : CommutativeRing A
  pub inverse : A → A
  pub mul-inverse : (a : A) → (a ≡ ring.zero → ⊥) → ring.mul a (inverse a) ≡ ring.one
  pub one-ne-zero : ring.one ≡ ring.zero → ⊥
  pub discrete : Discrete A

unfoldable pub numeral : {A : Type 0} → CommutativeRing A → ℕ → A
numeral R zero = R.zero
numeral R (suc k) = R.add R.one (numeral R k)

unfoldable pub power : {A : Type 0} → CommutativeRing A → A → ℕ → A
power R a zero = R.one
power R a (suc k) = R.mul a (power R a k)

unfoldable pub value : {A : Type 0} → CommutativeRing A → List A → A → A
value R [] a = R.zero
value R (c ∷ f) a = R.add c (R.mul a (value R f a))
