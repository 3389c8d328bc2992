-- The solutions of u^n = 1 in a field are the powers of an element w of order n: these are n solutions, and there are no more. So the
-- solutions of u^n·b = a are the products of one of them with the powers of w. In the field of p elements, where n divides p − 1, some
-- g^((p − 1)/n) has order n, for g^((p − 1)/n) = w is solvable if w^n = 1.
--   Solution p n a b u   u^n·b = a modulo p
use mathlib.Core.Path.{◌≡◌, sym, ap, ap₂, subst, ◌∙◌}
use mathlib.Core.List.{List, ◌∷◌, map}
use Prim.Native.Nat.{ℕ, zero, suc, ◌-◌, ◌*◌, ◌/◌, ◌%◌, ◌^◌, ◌≤◌, ◌<◌}
use native.Mathlib.Nat.{mul_comm, div-add-mod', pos_of_ne-zero, zero-mod, mod-eq_of_lt, pow-zero}
use native.Mathlib.Omega.{arith}
use lib.ListN.{length, length-map}
use Rattle.algebra.specs.Lists.{Member, Distinct, range}
use Rattle.algebra.specs.Ring.{CommutativeRing, Field, power}
use Rattle.algebra.proofs.Modulo.{mul-mod-mod, mod-mul-mod}
use Rattle.algebra.proofs.Lists.{member_all, map_member, distinct_map}
use Rattle.algebra.proofs.Counting.{member?}
use Rattle.algebra.proofs.Search.{range_length, range_bounds, range_distinct}
use Rattle.algebra.proofs.RingLaws.{mul_assoc, mul_comm as ring_mul_comm, mul-one, power-mul, power_of_one, power_product, power_of_zero, zero-mul}
use Rattle.algebra.proofs.FieldLaws.{mul_left_cancel}
use Rattle.algebra.proofs.PowerRoots.{power_root, power_roots_at_most}
use Rattle.algebra.proofs.Order.{HasOrder, powers_distinct}
use Rattle.modular.proofs.Field.{Below, word_ring, word_field, below_equal, zero_value, one_value, mul_value, power_value, nonzero_words, nonzero_words_lem, nonzero_words-length}
use Rattle.roots.specs.Roots.{zeta, Admissible, OrderModulo}
use Rattle.roots.proofs.Zeta.{zeta_is, zero_power, order_positive}

module _ {A : Type 0} (F : Field A) (w : A) (n : ℕ) (pos : 0 < n) (order : HasOrder F.ring w n) where
  abbrev R : CommutativeRing A
  R = F.ring

  abbrev powers : List A
  powers = map (power R w) (range 0 n)

  below : (j : ℕ) → Member j (range 0 n) → j < n
  below j m = omega (arith, range_bounds 0 n j m)

  distinct : Distinct powers
  distinct = distinct_map (power R w) (range 0 n) (λ j k l m. powers_distinct R w n order j k (below j l) (below k m)) (range_distinct 0 n)

  -- (w^j)^n = (w^n)^j = 1
  unit : (j : ℕ) → power R (power R w j) n ≡ R.one
  unit j = sym (power-mul R w j n) ∙ ap (power R w) (mul_comm j n) ∙ power-mul R w n j ∙ ap (λ x. power R x j) order.period ∙ power_of_one R j

  of_member : (u : A) → Member u powers → (j : ℕ) × (j < n) × (u ≡ power R w j)
  of_member u m = let (j, l, e) = map_member (power R w) (range 0 n) u m in (j, below j l, e)

  pub root_is_power : (u : A) → power R u n ≡ R.one → (j : ℕ) × (j < n) × (u ≡ power R w j)
  root_is_power u e = by_member (member? F.discrete u powers)
    where
      by_member : Dec (Member u powers) → (j : ℕ) × (j < n) × (u ≡ power R w j)
      by_member (yes m) = of_member u m
      by_member (no other) =
          let few : length (u ∷ powers) ≤ n =
          power_roots_at_most F n R.one (u ∷ powers) pos (other, distinct)
          (e, member_all _ powers (λ v m. let (j, l, f) = of_member v m in ap (λ x. power R x n) f ∙ unit j)) in
          absurd (omega (arith, length-map (range 0 n) (power R w), range_length 0 n))

  -- the quotient of two solutions of u^n·b = a, where a and b are not 0, is a solution of u^n = 1
  pub solution_is_multiple : (a b y u : A) → (a ≡ R.zero → ⊥) → R.mul (power R y n) b ≡ a → R.mul (power R u n) b ≡ a
      → (j : ℕ) × (j < n) × (u ≡ R.mul y (power R w j))
  solution_is_multiple a b y u nonzero ey eu =
      let q : A = R.mul u (F.inverse y) in
      let split : R.mul q y ≡ u =
      mul_assoc R u (F.inverse y) y ∙ ap (R.mul u) (ring_mul_comm R (F.inverse y) y ∙ F.mul-inverse y y_nonzero) ∙ mul-one R u in
      let one : power R q n ≡ R.one =
      mul_left_cancel F a (power R q n) R.one nonzero
      (ap (λ x. R.mul x (power R q n)) (sym ey) ∙ regroup (power R y n) b (power R q n) ∙ ap (λ x. R.mul x b) (sym (power_product R q y n) ∙ ap (λ x. power R x n) split)
      ∙ eu ∙ sym (mul-one R a)) in
      let (j, l, e) = root_is_power q one in
      (j, l, sym split ∙ ring_mul_comm R q y ∙ ap (R.mul y) e)
    where
      y_nonzero : y ≡ R.zero → ⊥
      y_nonzero z =
          let e : suc (n - 1) ≡ n = omega arith in
          nonzero (sym ey ∙ ap (λ x. R.mul x b) (ap₂ (power R) z (sym e) ∙ power_of_zero R (n - 1)) ∙ zero-mul R b)

      regroup : (c d e : A) → R.mul (R.mul c d) e ≡ R.mul (R.mul e c) d
      regroup c d e = simp (mul_assoc R, ring_mul_comm R)

abbrev pub Solution : ℕ → ℕ → ℕ → ℕ → ℕ → Type 0
Solution p n a b u = u ^ n * b % p ≡ a

module _ {p n : ℕ} (h : Admissible p n) where
  abbrev big : 2 ≤ p
  big = h.prime.0

  pub has_order : (w : Below p) → OrderModulo p n w.0 → HasOrder (word_ring p big) w n
  has_order w o =
      record {
        period = below_equal p _ _ (power_value p big w n ∙ o.0 ∙ sym (one_value p big));
        least = λ m pos lt e. o.1 m pos lt (sym (power_value p big w m) ∙ ap (λ x. x.0) e ∙ one_value p big);
      }

  -- w^0 is w^n
  pub unity_is_power : (w u : ℕ) → w < p → OrderModulo p n w → u < p → u ^ n % p ≡ 1 → (j : ℕ) × (1 ≤ j) × (j ≤ n) × (u ≡ w ^ j % p)
  unfolding word_field
  unity_is_power w u lw o lu e =
      from_index (root_is_power (word_field p h.prime) (w, lw) n h.low (has_order (w, lw) o) (u, lu)
      (below_equal p _ _ (power_value p big (u, lu) n ∙ e ∙ sym (one_value p big))))
    where
      from_index : (j : ℕ) × (j < n) × ((u, lu) ≡ power (word_ring p big) (w, lw) j) → (j : ℕ) × (1 ≤ j) × (j ≤ n) × (u ≡ w ^ j % p)
      from_index (zero, l, f) = (n, h.low, omega arith, ap (λ x. x.0) f ∙ power_value p big (w, lw) 0 ∙ ap (λ x. x % p) (pow-zero w) ∙ mod-eq_of_lt big ∙ sym o.0)
      from_index (suc j, l, f) = (suc j, omega arith, omega arith, ap (λ x. x.0) f ∙ power_value p big (w, lw) (suc j))

  -- u^((p − 1)/n) = z is solvable if z^n = 1
  pub radicand_exists : (z : ℕ) → z < p → OrderModulo p n z → (u : ℕ) × (1 ≤ u) × (u < p) × (u ^ ((p - 1) / n) % p ≡ z)
  unfolding word_field
  radicand_exists z below order =
      let k : ℕ = (p - 1) / n in
      let count : k * n ≡ p - 1 = omega (arith, div-add-mod' (p - 1) n, h.divides) in
      let positive : 0 < k = pos_of_ne-zero (λ e. let o : 0 * n ≡ p - 1 = ap (λ x. x * n) (sym e) ∙ count in omega arith) in
      let (u, e) = power_root (word_field p h.prime) (nonzero_words p big) (nonzero_words_lem p h.prime) k n positive (nonzero_words-length p big ∙ sym count)
      (z, below) (has_order (z, below) order).period in
      let value : u.0 ^ k % p ≡ z = sym (power_value p big u k) ∙ ap (λ x. x.0) e in
      let nonzero : u.0 ≡ 0 → ⊥ =
      λ f. let o : 0 ≡ z = sym (zero-mod p) ∙ ap (λ x. x % p) (sym (zero_power k positive) ∙ ap (λ x. x ^ k) (sym f)) ∙ value in
      omega (arith, order_positive p n h.prime h.low z order) in
      (u.0, pos_of_ne-zero nonzero, u.1, value)

  pub generator_exists : (g : ℕ) × (1 ≤ g) × (g < p) × OrderModulo p n (g ^ ((p - 1) / n) % p)
  generator_exists =
      let z = zeta_is p n h.prime h.low h.high h.divides in
      let (u, low, high, value) = radicand_exists (zeta p n) z.1 z.2 in
      (u, low, high, subst (OrderModulo p n) (sym value) z.2)

  module _ (a b : ℕ) (pos : 0 < a) (la : a < p) (lb : b < p) where
    -- the same equation between words
    solution_value : (u : Below p) → ((word_ring p big).mul (power (word_ring p big) u n) (b, lb)).0 ≡ u.0 ^ n * b % p
    solution_value u = mul_value p big (power (word_ring p big) u n) (b, lb) ∙ ap (λ x. x * b % p) (power_value p big u n) ∙ mod-mul-mod (u.0 ^ n) p b

    solution_word : (u : Below p) → Solution p n a b u.0 → (word_ring p big).mul (power (word_ring p big) u n) (b, lb) ≡ (a, la)
    solution_word u e = below_equal p _ _ (solution_value u ∙ e)

    -- (y·z)^n = y^n
    pub root_of_ratio_times : (z y : ℕ) → z < p → z ^ n % p ≡ 1 → y < p → Solution p n a b y → Solution p n a b (y * z % p)
    root_of_ratio_times z y lz ez ly ey =
        let Z = word_ring p big in
        let v : Below p = Z.mul (y, ly) (z, lz) in
        let unit : power Z (z, lz) n ≡ Z.one = below_equal p _ _ (power_value p big (z, lz) n ∙ ez ∙ sym (one_value p big)) in
        let same : power Z v n ≡ power Z (y, ly) n = power_product Z (y, ly) (z, lz) n ∙ ap (Z.mul (power Z (y, ly) n)) unit ∙ mul-one Z (power Z (y, ly) n) in
        ap (λ x. x ^ n * b % p) (sym (mul_value p big (y, ly) (z, lz))) ∙ sym (solution_value v) ∙ ap (λ x. (Z.mul x (b, lb)).0) same ∙ solution_value (y, ly) ∙ ey

    pub root_of_ratio_is_multiple : (z y u : ℕ) → z < p → OrderModulo p n z → y < p → Solution p n a b y → u < p → Solution p n a b u → (j : ℕ) × (j < n) × (u ≡ y * z ^ j % p)
    unfolding word_field
    root_of_ratio_is_multiple z y u lz o ly ey lu eu =
        let (j, l, f) = solution_is_multiple (word_field p h.prime) (z, lz) n h.low (has_order (z, lz) o) (a, la) (b, lb) (y, ly) (u, lu)
        (λ e. let s : a ≡ 0 = ap (λ x. x.0) e ∙ zero_value p big in omega arith) (solution_word (y, ly) ey) (solution_word (u, lu) eu) in
        (j, l, ap (λ x. x.0) f ∙ mul_value p big (y, ly) (power (word_ring p big) (z, lz) j) ∙ ap (λ x. y * x % p) (power_value p big (z, lz) j) ∙ mul-mod-mod y (z ^ j) p)
