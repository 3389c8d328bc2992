-- What the functions on words return is the remainder that they promise. The power goes by b^e = (b²)^(e / 2)·b^(e % 2).
--   PowerLeft p a k r b e   r·b^e = a^k modulo p: the power that is left to work out is b^e
use mathlib.Core.Path.{◌≡◌, sym, ap, ap₂, ◌∙◌}
use Prim.Native.Nat.{ℕ, zero, suc, ◌+◌, ◌*◌, ◌/◌, ◌%◌, ◌^◌, ◌≤◌, ◌<◌}
use native.Mathlib.Nat.{mod-eq_of_lt, mod-lt, add-mul-mod_self_right, lt_of_le_of_lt, mul-le-mul, mul_assoc, mul_comm, mul-one, one-mul, pow-zero, pow-suc}
use native.Mathlib.Omega.{arith}
use lib.Dec.{lit<}
use lib.Pow.{pow-add}
use Rattle.algebra.proofs.Modulo.{mul-mod-mod, mod-mul-mod}

-- r is n modulo p, since n = r + q·p and r < p
pub remainder_unique : (n r q p : ℕ) → n ≡ r + q * p → r < p → r ≡ n % p
remainder_unique n r q p e h = sym (ap (λ x. x % p) e ∙ add-mul-mod_self_right r q p ∙ mod-eq_of_lt h)

pub product_fits : (a b : ℕ) → a ≤ 1048576 → b ≤ 1048576 → a * b < 2 ^ 64
product_fits a b ha hb = lt_of_le_of_lt (mul-le-mul ha hb) (lit< tt)

pow-mod : (a m k : ℕ) → (a % m) ^ k % m ≡ a ^ k % m
pow-mod a m zero = simp pow-zero
pow-mod a m (suc k) =
    simp pow-suc (mul-mod-mod ((a % m) ^ k) a m ∙ sym (mod-mul-mod ((a % m) ^ k) m a) ∙ ap (λ x. (x * a) % m) (pow-mod a m k) ∙ mod-mul-mod (a ^ k) m a)

square_power : (a h : ℕ) → (a * a) ^ h ≡ a ^ (h + h)
square_power a h = twice h ∙ sym (pow-add a h h)
  where
    twice : (k : ℕ) → (a * a) ^ k ≡ a ^ k * a ^ k
    twice zero = simp pow-zero
    twice (suc k) = simp pow-suc (ap (λ x. x * (a * a)) (twice k) ∙ omega arith)

-- the turns of the power; the numbers need not be reduced

pub record PowerLeft (p a k r b e : ℕ) : Type 0 where
  pub value : r * b ^ e % p ≡ a ^ k % p
  pub below : r < 2 * p
  pub factor_below : b < 2 * p

pub power_start : (p a k b : ℕ) → 2 ≤ p → b ≡ a % p → PowerLeft p a k 1 b k
power_start p a k b big e =
    record {
      value = ap (λ x. x % p) (one-mul (b ^ k)) ∙ ap (λ x. x ^ k % p) e ∙ pow-mod a p k;
      below = omega arith;
      factor_below = let l : a % p < p = mod-lt a (omega arith) in omega arith;
    }

module _ (p a k r b e : ℕ) (h : PowerLeft p a k r b e) where
  -- x·(b²)^(e / 2), where c is b² modulo p
  halved : (c : ℕ) → c % p ≡ (b * b) % p → (x : ℕ) → x * c ^ (e / 2) % p ≡ x * b ^ (e / 2 + e / 2) % p
  halved c ec x =
      sym (mul-mod-mod x (c ^ (e / 2)) p)
      ∙ ap (λ y. (x * y) % p) (sym (pow-mod c p (e / 2)) ∙ ap (λ y. y ^ (e / 2) % p) ec ∙ pow-mod (b * b) p (e / 2) ∙ ap (λ y. y % p) (square_power b (e / 2)))
      ∙ mul-mod-mod x (b ^ (e / 2 + e / 2)) p

  pub power_even : (c s : ℕ) → (e % 2 ≡ 1 → ⊥) → s ≡ r → c % p ≡ (b * b) % p → c < 2 * p → PowerLeft p a k s c (e / 2)
  power_even c s even es ec lc =
      let double : e / 2 + e / 2 ≡ e = omega arith in
      record {
        value = halved c ec s ∙ ap₂ (λ x y. x * b ^ y % p) es double ∙ h.value;
        below = omega (arith, h.below);
        factor_below = lc;
      }

  pub power_odd : (c s x : ℕ) → e % 2 ≡ 1 → x % p ≡ (r * b) % p → x < 2 * p → s ≡ x → c % p ≡ (b * b) % p → c < 2 * p → PowerLeft p a k s c (e / 2)
  power_odd c s x odd ex lx es ec lc =
      let double : suc (e / 2 + e / 2) ≡ e = omega arith in
      let q : ℕ = b ^ (e / 2 + e / 2) in
      let regroup : r * b * q ≡ r * (q * b) = mul_assoc r b q ∙ ap (λ x. r * x) (mul_comm b q) in
      record {
        value =
            halved c ec s ∙ ap (λ y. y * q % p) es ∙ sym (mod-mul-mod x p q) ∙ ap (λ y. y * q % p) ex ∙ mod-mul-mod (r * b) p q
            ∙ ap (λ x. x % p) (regroup ∙ ap (λ x. r * x) (sym (pow-suc b (e / 2 + e / 2)) ∙ ap (λ x. b ^ x) double)) ∙ h.value;
        below = omega arith;
        factor_below = lc;
      }

  pub power_end : e ≤ 0 → r % p ≡ a ^ k % p
  power_end l =
      let none : e ≡ 0 = omega arith in
      let left : r * b ^ e ≡ r = ap (λ x. r * b ^ x) none ∙ ap (λ x. r * x) (pow-zero b) ∙ mul-one r in
      ap (λ x. x % p) (sym left) ∙ h.value
