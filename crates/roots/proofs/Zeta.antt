-- ζ exists: the field of p elements has an element of order n, for n ≤ 16 that divides p − 1, and the search finds the smallest. A number
-- of order n modulo p has order n, read as a constant, in every ring with p·1 = 0 and 1 ≠ 0, since distinct numbers below p stay distinct.
use mathlib.Core.Path.{◌≡◌, sym, ap, ◌∙◌}
use mathlib.Core.Bool.{Bool, true, not, ◌&&◌, and-eq-true_iff}
use Prim.Native.Nat.{ℕ, zero, suc, ◌-◌, ◌*◌, ◌/◌, ◌%◌, ◌^◌, ◌≤◌, ◌<◌}
use native.Mathlib.Nat.{pow-zero, pow-succ', mod-lt, zero-mod, zero-mul, div-add-mod', pos_of_ne-zero}
use native.Mathlib.Omega.{arith}
use lib.Dec.{eqb}
use borrow.Author.Tests.{eqb-true, eqb-false, eq-eqb, ne_eqb, not-true}
use lib.ListN.{length}
use Rattle.algebra.specs.Lists.{all, range}
use Rattle.algebra.specs.Prime.{Prime}
use Rattle.algebra.specs.Ring.{CommutativeRing, numeral, power}
use Rattle.algebra.proofs.RingLaws.{numeral-one, numeral-mul, power_zero, power-suc}
use Rattle.algebra.proofs.Search.{member_of_all, all_of_members, range_bounds, range_member}
use Rattle.algebra.proofs.Frobenius.{numeral-mod}
use Rattle.algebra.proofs.Order.{HasOrder}
use Rattle.algebra.proofs.OrderExists.{order_exists}
use Rattle.modular.proofs.Field.{Below, word_ring, word_field, below_equal, one_value, power_value, nonzero_words, nonzero_words_lem, nonzero_words-length}
use Rattle.roots.specs.Roots.{zeta, OrderModulo}
use Rattle.algebra.specs.Search.{Smallest}
use Rattle.algebra.proofs.Constants.{numeral_injective}
use Rattle.algebra.proofs.Smallest.{first_is_smallest}

pub zero_power : (n : ℕ) → 1 ≤ n → 0 ^ n ≡ 0
zero_power zero h = absurd (omega arith)
zero_power (suc n) h = pow-succ' 0 n ∙ zero-mul (0 ^ n)

pub numeral-power : {A : Type 0} (R : CommutativeRing A) (a k : ℕ) → numeral R (a ^ k) ≡ power R (numeral R a) k
numeral-power R a zero = ap (numeral R) (pow-zero a) ∙ numeral-one R ∙ sym (power_zero R (numeral R a))
numeral-power R a (suc k) =
    ap (numeral R) (pow-succ' a k) ∙ numeral-mul R a (a ^ k) ∙ ap (R.mul (numeral R a)) (numeral-power R a k) ∙ sym (power-suc R (numeral R a) k)

module _ {A : Type 0} (R : CommutativeRing A) (p : ℕ) (prime : Prime p) (characteristic : numeral R p ≡ R.zero) where
  -- a constant power is computed modulo p
  pub power_of_numeral : (a k b : ℕ) → a ^ k % p ≡ b → power R (numeral R a) k ≡ numeral R b
  power_of_numeral a k b e = sym (numeral-power R a k) ∙ sym (numeral-mod R p (a ^ k) characteristic) ∙ ap (numeral R) e

  module _ (proper : R.one ≡ R.zero → ⊥) where
    pub power_modulo : (a k b : ℕ) → b < p → power R (numeral R a) k ≡ numeral R b → a ^ k % p ≡ b
    power_modulo a k b l e =
        numeral_injective R p prime characteristic proper (a ^ k % p) b (mod-lt (a ^ k) (omega arith)) l
        (numeral-mod R p (a ^ k) characteristic ∙ numeral-power R a k ∙ e)

    pub constant_order : (n z : ℕ) → OrderModulo p n z → HasOrder R (numeral R z) n
    constant_order n z h =
        record {
          period = power_of_numeral z n 1 h.0 ∙ numeral-one R;
          least = λ m pos lt e. h.1 m pos lt (power_modulo z m 1 prime.0 (e ∙ sym (numeral-one R)));
        }

module _ (p n : ℕ) where
  abbrev apart : ℕ → ℕ → Bool
  apart z m = not (eqb (z ^ m % p) 1)

  abbrev test : ℕ → Bool
  test z = eqb (z ^ n % p) 1 && all (apart z) (range 1 (n - 1))

  test_sound : (z : ℕ) → test z ≡ true → OrderModulo p n z
  test_sound z h =
      let parts = (and-eq-true_iff (eqb (z ^ n % p) 1) (all (apart z) (range 1 (n - 1)))).0 h in (
        eqb-true (z ^ n % p) 1 parts.0,
        λ m low high. eqb-false (z ^ m % p) 1 (not-true (eqb (z ^ m % p) 1) (member_of_all (apart z) (range 1 (n - 1)) parts.1 m (range_member 1 (n - 1) m low (omega arith)))),
      )

  test_complete : (z : ℕ) → OrderModulo p n z → test z ≡ true
  test_complete z h =
      (and-eq-true_iff (eqb (z ^ n % p) 1) (all (apart z) (range 1 (n - 1)))).1 (
        eq-eqb (z ^ n % p) 1 h.0,
        all_of_members (apart z) (range 1 (n - 1))
            (λ m l. let b = range_bounds 1 (n - 1) m l in ap not (ne_eqb (z ^ m % p) 1 (h.1 m b.0 (omega arith)))),
      )

  module _ (prime : Prime p) (low : 1 ≤ n) where
    abbrev Zp : CommutativeRing (Below p)
    Zp = word_ring p prime.0

    order_of_word : (z : Below p) → HasOrder Zp z n → OrderModulo p n z.0
    order_of_word z h = (
      sym (power_value p prime.0 z n) ∙ ap (λ a. a.0) h.period ∙ one_value p prime.0,
      λ m pos lt e. h.least m pos lt (below_equal p _ _ (power_value p prime.0 z m ∙ e ∙ sym (one_value p prime.0))),
    )

    -- 0^n = 1 has no solution
    pub order_positive : (z : ℕ) → OrderModulo p n z → 1 ≤ z
    order_positive z h = pos_of_ne-zero (λ e. let o : ◌≡◌ {A = ℕ} 0 1 = sym (zero-mod p) ∙ ap (λ x. x % p) (sym (zero_power n low) ∙ ap (λ x. x ^ n) (sym e)) ∙ h.0 in omega arith)

    pub zeta_is : n ≤ 16 → (p - 1) % n ≡ 0 → Smallest (OrderModulo p n) p (zeta p n)
    unfolding zeta word_field
    zeta_is high divides =
        let count : length (nonzero_words p prime.0) ≡ n * ((p - 1) / n) =
        nonzero_words-length p prime.0 ∙ omega (arith, div-add-mod' (p - 1) n) in
        let (z, h) = order_exists (word_field p prime) (nonzero_words p prime.0) (nonzero_words_lem p prime) n low high ((p - 1) / n) count in
        let o : OrderModulo p n z.0 = order_of_word z h in
        first_is_smallest test (OrderModulo p n) p test_sound test_complete z.0 (order_positive z.0 o) z.1 o
