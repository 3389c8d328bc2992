-- The divisors of p^(k + 1) for a prime p: each is p^(k + 1) itself or divides p^k. So an x with x^(p^n) = x for n = p^(k + 1), but not for
-- n = p^k, has p^(k + 1) for its least period. At the end: the powers of p grow at least twofold.
use mathlib.Core.Path.{◌≡◌, sym, ap, ◌∙◌}
use mathlib.Core.Logic.{◌⊎◌, inl, inr, ⊎_elim}
use Prim.Native.Nat.{ℕ, zero, suc, ◌+◌, ◌*◌, ◌/◌, ◌%◌, ◌^◌, ◌≤◌, ◌<◌}
use native.Mathlib.Nat.{pow-zero, pow-suc, pow-le-pow_right, one-le-pow, le_dest, mul-one, one-mul, mul_comm, mul-mod_left, div-add-mod, eq_of_mul-eq-mul_right, eq-one_of_dvd-one, dvd_of_mod-eq-zero, le_refl}
use native.Mathlib.Omega.{arith}
use Rattle.algebra.specs.Prime.{Prime}
use Rattle.algebra.specs.Ring.{CommutativeRing, power}
use Rattle.algebra.proofs.Euclid.{euclid}
use Rattle.algebra.proofs.Period.{period_multiple, period_divides}

exact : (n d : ℕ) → n % d ≡ 0 → d * (n / d) ≡ n
exact n d h = omega (arith, div-add-mod n d)

module _ (p k : ℕ) where
  multiple : (d c : ℕ) → d * c ≡ p ^ suc k → (d * c) % p ≡ 0
  multiple d c e = ap (λ x. x % p) (e ∙ pow-suc p k) ∙ mul-mod_left (p ^ k) p

  -- where p divides c, and d, what d·c = p^(k + 1) says of c/p, and of d/p
  divide_right : Prime p → (d c : ℕ) → d * c ≡ p ^ suc k → c % p ≡ 0 → d * (c / p) ≡ p ^ k
  divide_right prime d c e h =
      let whole : d * (c / p) * p ≡ d * (p * (c / p)) = omega arith in
      eq_of_mul-eq-mul_right p (omega arith) (d * (c / p)) (p ^ k) (whole ∙ ap (λ x. d * x) (exact c p h) ∙ e ∙ pow-suc p k)

  divide_left : Prime p → (d c : ℕ) → d * c ≡ p ^ suc k → d % p ≡ 0 → d / p * c ≡ p ^ k
  divide_left prime d c e h = mul_comm (d / p) c ∙ divide_right prime c d (mul_comm c d ∙ e) h

  restore_left : (d c : ℕ) → d % p ≡ 0 → d / p * c ≡ p ^ k → d * c ≡ p ^ suc k
  restore_left d c h e =
      let whole : p * (d / p) * c ≡ d / p * c * p = omega arith in
      ap (λ x. x * c) (sym (exact d p h)) ∙ whole ∙ ap (λ x. x * p) e ∙ sym (pow-suc p k)

-- p divides d or c; in the first case d/p takes the place of d, and k − 1 that of k
pub prime_power_divisor : (p : ℕ) → Prime p → (k d c : ℕ) → d * c ≡ p ^ suc k → (c ≡ 1) ⊎ ((c' : ℕ) × (d * c' ≡ p ^ k))
prime_power_divisor p prime zero d c e = by_factor (euclid p d c prime (multiple p 0 d c e))
  where
    by_factor : (d % p ≡ 0) ⊎ (c % p ≡ 0) → (c ≡ 1) ⊎ ((c' : ℕ) × (d * c' ≡ p ^ 0))
    by_factor (inl h) =
        inl (eq-one_of_dvd-one (dvd_of_mod-eq-zero c (ap (λ x. x % c) (sym (divide_left p 0 prime d c e h ∙ pow-zero p)) ∙ mul-mod_left (d / p) c)))
    by_factor (inr h) = inr (c / p, divide_right p 0 prime d c e h)
prime_power_divisor p prime (suc k) d c e = by_factor (euclid p d c prime (multiple p (suc k) d c e)) (prime_power_divisor p prime k (d / p) c)
  where
    by_factor : (d % p ≡ 0) ⊎ (c % p ≡ 0) → (d / p * c ≡ p ^ suc k → (c ≡ 1) ⊎ ((c' : ℕ) × (d / p * c' ≡ p ^ k))) → (c ≡ 1) ⊎ ((c' : ℕ) × (d * c' ≡ p ^ suc k))
    by_factor (inl h) lower =
        ⊎_elim inl (λ l. inr (l.0, restore_left p k d l.0 h l.1)) (lower (divide_left p (suc k) prime d c e h))
    by_factor (inr h) lower = inr (c / p, divide_right p (suc k) prime d c e h)

module _ {A : Type 0} (R : CommutativeRing A) (p : ℕ) (prime : Prime p) (x : A) (k : ℕ) (period : power R x (p ^ (p ^ suc k)) ≡ x)
    (proper : power R x (p ^ (p ^ k)) ≡ x → ⊥) where
  no_divisor : (d c : ℕ) → d < p ^ suc k → power R x (p ^ d) ≡ x → d * c ≡ p ^ suc k → ⊥
  no_divisor d c less h e = by_divisor (prime_power_divisor p prime k d c e)
    where
      by_divisor : (c ≡ 1) ⊎ ((c' : ℕ) × (d * c' ≡ p ^ k)) → ⊥
      by_divisor (inl one) = omega (arith, sym e ∙ ap (λ y. d * y) one ∙ mul-one d)
      by_divisor (inr (c', f)) = proper (ap (λ n. power R x (p ^ n)) (sym f) ∙ period_multiple R p x d h c')

  -- by induction nothing below d is a period, so d, if it is one, is the least, and it divides p^(k + 1)
  no_period_below : (bound d : ℕ) → d ≤ bound → 0 < d → d < p ^ suc k → power R x (p ^ d) ≡ x → ⊥
  no_period_below zero d le pos less h = omega arith
  no_period_below (suc bound) d le pos less h =
      no_divisor d (p ^ suc k / d) less h
      (exact (p ^ suc k) d
      (period_divides R p x d h pos (λ j low high. no_period_below bound j (omega arith) low (omega arith)) (p ^ suc k) period))

  pub period_of_prime_power : (d : ℕ) → 0 < d → d < p ^ suc k → power R x (p ^ d) ≡ x → ⊥
  period_of_prime_power d = no_period_below d d (le_refl d)

pub pow-one : (m : ℕ) → m ^ 1 ≡ m
pow-one m = pow-suc m 0 ∙ simp (pow-zero, one-mul)

-- 2·p^k ≤ p^(n + 1)
pub power_doubles : (p k n : ℕ) → 2 ≤ p → k ≤ n → p ^ k + p ^ k ≤ p ^ suc n
power_doubles p k n big le =
    let (r, e) = le_dest big in
    let more : p ^ k ≤ p ^ n = pow-le-pow_right (omega arith) le in
    let twice : p ^ n * (2 + r) ≡ p ^ suc n = ap (λ x. p ^ n * x) e ∙ sym (pow-suc p n) in
    let spread : p ^ n * (2 + r) ≡ p ^ n + p ^ n + p ^ n * r = omega arith in
    omega arith

pub power_rises : (p i k : ℕ) → 2 ≤ p → i < k → p ^ i < p ^ k
power_rises p i zero big less = absurd (omega arith)
power_rises p i (suc k) big less = omega (arith, power_doubles p i k big (omega arith), one-le-pow i p (omega arith))
