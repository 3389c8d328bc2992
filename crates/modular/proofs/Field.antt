-- The words below p with sum and product modulo p: a commutative ring for p ≥ 2, and a field for a prime p, with the inverse that `inverse`
-- finds by search.
--   Below p               the numbers below p
--   modulo p h n          n modulo p, where h : 2 ≤ p
--   word_ring p h         the ring; its operations are those of specs/ by the laws `…-value`
--   word_field p prime    the field; prime_ring p prime is its ring
--   nonzero_words p h     the list of the p − 1 words other than 0
use mathlib.Core.Path.{◌≡◌, refl, sym, ap, ◌∙◌}
use mathlib.Core.HLevel.{Σ_prop_path, Σ_prop_discrete, hedberg}
use mathlib.Core.List.{List, map}
use Prim.Native.Nat.{ℕ, zero, suc, ◌+◌, ◌-◌, ◌*◌, ◌%◌, ◌^◌, ◌≤◌, ◌<◌}
use native.Mathlib.Bridge.{le_prop}
use native.Mathlib.Decide.{ℕ_discrete}
use native.Mathlib.Nat.{mod-lt, mod-eq_of_lt, mod_self, zero-mod, pos_of_ne-zero, pow-zero, pow-succ', add_assoc, add_comm, add-zero, mul_assoc, mul_comm, mul-one, mul-add}
use native.Mathlib.Omega.{arith}
use lib.ListN.{length, length-map}
use Rattle.algebra.specs.Lists.{Member, range}
use Rattle.algebra.specs.Prime.{Prime}
use Rattle.algebra.specs.Ring.{CommutativeRing, Field, numeral, power}
use Rattle.algebra.proofs.Lists.{map_member, member_map, member_equal, distinct_map}
use Rattle.algebra.proofs.Modulo.{mod_laws}
use Rattle.algebra.proofs.Search.{range_bounds, range_member, range_distinct, range_length}
use Rattle.algebra.proofs.Units.{Units}
use Rattle.modular.specs.Inverse.{inverse}
use Rattle.modular.proofs.Inverse.{inverse_product, inverse_bound}

abbrev pub Below : ℕ → Type 0
Below p = (a : ℕ) × (a < p)

module _ (p : ℕ) where
  pub below_equal : (a b : Below p) → a.0 ≡ b.0 → a ≡ b
  below_equal a b e = Σ_prop_path (λ (k : ℕ). le_prop {n = suc k} {m = p}) {u = a} {v = b} e

  pub below_discrete : Discrete (Below p)
  below_discrete = Σ_prop_discrete (λ (k : ℕ). le_prop {n = suc k} {m = p}) ℕ_discrete

pub positive : (p : ℕ) → 2 ≤ p → 0 < p
positive p h = omega arith

module _ (p : ℕ) (h : 2 ≤ p) where
  abbrev pub modulo : ℕ → Below p
  modulo n = (n % p, mod-lt n (positive p h))

  pub add_assoc_mod : (a b c : ℕ) → ((a + b) % p + c) % p ≡ (a + (b + c) % p) % p
  add_assoc_mod a b c = simp mod_laws (ap (λ x. x % p) (add_assoc a b c))

  pub add-zero-mod : (a : ℕ) → (a + 0 % p) % p ≡ a % p
  add-zero-mod a = simp (mod_laws, add-zero)

  pub add_neg_mod : (a : ℕ) → a < p → (a + (p - a) % p) % p ≡ 0 % p
  add_neg_mod a l = let e : a + (p - a) ≡ p = omega arith in simp mod_laws (ap (λ x. x % p) e ∙ mod_self p ∙ sym (zero-mod p))

  pub mul_assoc_mod : (a b c : ℕ) → ((a * b) % p * c) % p ≡ (a * ((b * c) % p)) % p
  mul_assoc_mod a b c = simp mod_laws (ap (λ x. x % p) (mul_assoc a b c))

  pub mul-one-mod : (a : ℕ) → (a * (1 % p)) % p ≡ a % p
  mul-one-mod a = simp (mod_laws, mul-one)

  pub mul-add-mod : (a b c : ℕ) → (a * ((b + c) % p)) % p ≡ ((a * b) % p + (a * c) % p) % p
  mul-add-mod a b c = simp mod_laws (ap (λ x. x % p) (mul-add a b c))

  unfoldable pub word_ring : CommutativeRing (Below p)
  word_ring =
      record {
        zero = modulo 0;
        one = modulo 1;
        add = λ a b. modulo (a.0 + b.0);
        neg = λ a. modulo (p - a.0);
        mul = λ a b. modulo (a.0 * b.0);
        is_set = hedberg (below_discrete p);
        add_assoc = λ a b c. below_equal p _ _ (add_assoc_mod a.0 b.0 c.0);
        add_comm = λ a b. ap modulo (add_comm a.0 b.0);
        add-zero = λ a. below_equal p _ _ (add-zero-mod a.0 ∙ mod-eq_of_lt a.1);
        add-neg = λ a. below_equal p _ _ (add_neg_mod a.0 a.1);
        mul_assoc = λ a b c. below_equal p _ _ (mul_assoc_mod a.0 b.0 c.0);
        mul_comm = λ a b. ap modulo (mul_comm a.0 b.0);
        mul-one = λ a. below_equal p _ _ (mul-one-mod a.0 ∙ mod-eq_of_lt a.1);
        mul-add = λ a b c. below_equal p _ _ (mul-add-mod a.0 b.0 c.0);
      }

  pub zero_value : word_ring.zero.0 ≡ 0
  unfolding word_ring
  zero_value = zero-mod p

  pub one_value : word_ring.one.0 ≡ 1
  unfolding word_ring
  one_value = mod-eq_of_lt h

  pub mul_value : (a b : Below p) → (word_ring.mul a b).0 ≡ (a.0 * b.0) % p
  unfolding word_ring
  mul_value a b = refl

  pub numeral_value : (k : ℕ) → (numeral word_ring k).0 ≡ k % p
  unfolding word_ring numeral
  numeral_value zero = refl
  numeral_value (suc k) =
      let e : 1 + k ≡ suc k = omega arith in
      ap (λ x. (1 % p + x) % p) (numeral_value k) ∙ simp mod_laws (ap (λ x. x % p) e)

  pub power_value : (a : Below p) (k : ℕ) → (power word_ring a k).0 ≡ (a.0 ^ k) % p
  unfolding word_ring power
  power_value a zero = ap (λ x. x % p) (sym (pow-zero a.0))
  power_value a (suc k) =
      ap (λ x. (a.0 * x) % p) (power_value a k) ∙ simp mod_laws (ap (λ x. x % p) (sym (pow-succ' a.0 k)))

  pub nonzero_words : List (Below p)
  nonzero_words = map modulo (range 1 (p - 1))

  pub nonzero_words-length : length nonzero_words ≡ p - 1
  unfolding nonzero_words
  nonzero_words-length = length-map (range 1 (p - 1)) modulo ∙ range_length 1 (p - 1)

module _ (p : ℕ) (prime : Prime p) where
  abbrev pub prime_ring : CommutativeRing (Below p)
  prime_ring = word_ring p prime.0

  abbrev pub inverse_word : Below p → Below p
  inverse_word a = (inverse p a.0, inverse_bound p a.0 (positive p prime.0))

  pub value_positive : (a : Below p) → (a ≡ prime_ring.zero → ⊥) → 0 < a.0
  value_positive a n = pos_of_ne-zero (λ e. n (below_equal p _ _ (e ∙ sym (zero_value p prime.0))))

  pub mul-inverse_word : (a : Below p) → (a ≡ prime_ring.zero → ⊥) → prime_ring.mul a (inverse_word a) ≡ prime_ring.one
  mul-inverse_word a n =
      below_equal p _ _
      (mul_value p prime.0 a (inverse_word a) ∙ inverse_product p a.0 prime (value_positive a n) a.1 ∙ sym (one_value p prime.0))

  pub one-ne-zero : prime_ring.one ≡ prime_ring.zero → ⊥
  one-ne-zero e =
      let z : ◌≡◌ {A = ℕ} 1 0 = sym (one_value p prime.0) ∙ ap (λ a. a.0) e ∙ zero_value p prime.0 in
      omega arith

  unfoldable pub word_field : Field (Below p)
  word_field =
      record { ring = prime_ring; inverse = inverse_word; mul-inverse = mul-inverse_word; one-ne-zero = one-ne-zero; discrete = below_discrete p }

  pub nonzero_words_lem : Units word_field (nonzero_words p prime.0)
  unfolding nonzero_words word_field
  nonzero_words_lem =
      record {
        distinct = distinct_map (modulo p prime.0) (range 1 (p - 1)) same (range_distinct 1 (p - 1));
        nonzero = λ u m e. let (k, l, f) = map_member (modulo p prime.0) (range 1 (p - 1)) u m in apart k l (sym f ∙ e);
        complete = λ u n.
            let positive = value_positive u n in
            member_equal (map (modulo p prime.0) (range 1 (p - 1))) (below_equal p _ _ (mod-eq_of_lt u.1))
            (member_map (modulo p prime.0) (range 1 (p - 1)) u.0 (range_member 1 (p - 1) u.0 positive (omega (arith, u.1))));
      }
    where
      small : (k : ℕ) → Member k (range 1 (p - 1)) → k < p
      small k m = omega (arith, range_bounds 1 (p - 1) k m)

      same : (j k : ℕ) → Member j (range 1 (p - 1)) → Member k (range 1 (p - 1)) → modulo p prime.0 j ≡ modulo p prime.0 k → j ≡ k
      same j k l m e = sym (mod-eq_of_lt (small j l)) ∙ ap (λ a. a.0) e ∙ mod-eq_of_lt (small k m)

      apart : (k : ℕ) → Member k (range 1 (p - 1)) → modulo p prime.0 k ≡ prime_ring.zero → ⊥
      apart k m e =
          let z : k ≡ 0 = sym (mod-eq_of_lt (small k m)) ∙ ap (λ a. a.0) e ∙ zero_value p prime.0 in
          omega (arith, range_bounds 1 (p - 1) k m)
