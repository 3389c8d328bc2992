-- Euclid's algorithm on p and a, for a prime p and 0 < a < p, with cofactors that are natural numbers.
--   Signed p b c x s y t   b·t = y and c·s = x modulo p, where c = −b modulo p
--   Bezout p a x s y t     the invariant: x·t + y·s = p exactly, and Signed for a and −a or for −a and a
-- A turn replaces (x, s), (y, t) by (y, t), (x − q·y, s + q·t) with q = x / y, and changes the sign. If x − q·y were 0, the exact equation
-- would make y a divisor of p; so y is never 0, and y = 1 in the end.
use mathlib.Core.Path.{◌≡◌, sym, ap, ◌∙◌}
use mathlib.Core.Logic.{◌⊎◌, inl, inr, ⊎_elim}
use Prim.Native.Nat.{ℕ, ◌+◌, ◌-◌, ◌*◌, ◌/◌, ◌%◌, ◌≤◌, ◌<◌}
use native.Mathlib.Nat.{mod-eq_of_lt, mod-lt, mul-mod_right, mul-mod_left, div-mul-le_self, mod-eq-sub-div-mul, add-mod-mod, add-mul-mod_self_left, pos_of_ne-zero, le-mul_of_pos_right}
use native.Mathlib.Omega.{arith}
use Rattle.algebra.specs.Prime.{Prime}
use Rattle.algebra.proofs.Modulo.{mul-mod-mod, add-mod_cancel}
use Rattle.modular.proofs.Inverse.{unit_below}

abbrev pub Signed : ℕ → ℕ → ℕ → ℕ → ℕ → ℕ → ℕ → Type 0
Signed p b c x s y t = ((b * t) % p ≡ y % p) × ((c * s) % p ≡ x % p)

pub record Bezout (p a x s y t : ℕ) : Type 0 where
  pub exact : x * t + y * s ≡ p
  pub x_positive : 0 < x
  pub x_small : x ≤ p
  pub y_positive : 0 < y
  pub y_small : y < p
  pub signed : Signed p a (p - a) x s y t ⊎ Signed p (p - a) a x s y t

-- c·(s + q·t) = r modulo p, where x = r + q·y: to both sides add q·y = q·b·t, and q·(b + c)·t is a multiple of p
signed_turn : (p b c x s y t q r : ℕ) → 0 < p → b + c ≡ p → x ≡ r + q * y → Signed p b c x s y t → Signed p c b y t r (s + q * t)
signed_turn p b c x s y t q r pos e f h = (add-mod_cancel (c * (s + q * t)) r (q * y) p pos sums, h.0)
  where
    spread : c * (s + q * t) + q * (b * t) ≡ c * s + (b + c) * (q * t)
    spread = omega arith

    sums : (c * (s + q * t) + q * y) % p ≡ (r + q * y) % p
    sums =
        sym (add-mod-mod (c * (s + q * t)) (q * y) p)
        ∙ ap (λ z. (c * (s + q * t) + z) % p) (sym (mul-mod-mod q y p) ∙ ap (λ z. (q * z) % p) (sym h.0) ∙ mul-mod-mod q (b * t) p)
        ∙ add-mod-mod (c * (s + q * t)) (q * (b * t)) p
        ∙ ap (λ z. z % p) (spread ∙ ap (λ z. c * s + z * (q * t)) e)
        ∙ add-mul-mod_self_left (c * s) p (q * t)
        ∙ h.1
        ∙ ap (λ z. z % p) f

exact_turn : (p s y t q r : ℕ) → (r + q * y) * t + y * s ≡ p → y * (s + q * t) + r * t ≡ p
exact_turn p s y t q r h = omega arith

bezout_turn_by : (p a x s y t q r : ℕ) → Prime p → a ≤ p → x ≡ r + q * y → r < y → Bezout p a x s y t → (y ≡ 1 → ⊥) → Bezout p a y t r (s + q * t)
bezout_turn_by p a x s y t q r prime small e less h large =
    record {
      exact = exact;
      x_positive = h.y_positive;
      x_small = omega arith;
      y_positive = pos_of_ne-zero (λ z. prime.1 y (omega arith) h.y_small (divisor z));
      y_small = omega arith;
      signed =
          ⊎_elim
          (λ g. inr (signed_turn p a (p - a) x s y t q r (omega arith) (omega arith) e g))
          (λ g. inl (signed_turn p (p - a) a x s y t q r (omega arith) (omega arith) e g))
          h.signed;
    }
  where
    exact : y * (s + q * t) + r * t ≡ p
    exact = exact_turn p s y t q r (ap (λ z. z * t + y * s) (sym e) ∙ h.exact)

    divisor : r ≡ 0 → p % y ≡ 0
    divisor z =
        let multiple : y * (s + q * t) ≡ p = omega (arith, ap (λ w. w * t) z, exact) in
        ap (λ w. w % y) (sym multiple) ∙ mul-mod_right y (s + q * t)

module _ (p a x s y t : ℕ) (h : Bezout p a x s y t) where
  pub quotient_small : x / y * y ≤ x
  quotient_small = div-mul-le_self x y

  pub remainder_less : x - x / y * y < y
  remainder_less = rw (← mod-eq-sub-div-mul x y) (mod-lt x h.y_positive)

  pub bezout_turn : Prime p → a < p → (y ≡ 1 → ⊥) → Bezout p a y t (x - x / y * y) (s + x / y * t)
  bezout_turn prime small large =
      bezout_turn_by p a x s y t (x / y) (x - x / y * y) prime (omega arith) (omega (arith, quotient_small)) remainder_less h large

-- a·(p − t) = −a·t = (p − a)·t
product_complements : (p a t c u : ℕ) → 0 < p → a + c ≡ p → t + u ≡ p → (a * u) % p ≡ (c * t) % p
product_complements p a t c u pos e f =
    add-mod_cancel (a * u) (c * t) (a * t) p pos
    (ap (λ z. z % p) left ∙ mul-mod_left a p ∙ sym (ap (λ z. z % p) right ∙ mul-mod_right p t))
  where
    left : a * u + a * t ≡ a * p
    left = omega (arith, ap (λ z. a * z) f)

    right : c * t + a * t ≡ p * t
    right = omega (arith, ap (λ z. z * t) e)

-- for y = 1 the cofactor t is the inverse of a or of −a
pub bezout_end : (p a x s y t : ℕ) → Bezout p a x s y t → Prime p → a < p → y ≡ 1 → (t < p) × (((a * t) % p ≡ 1) ⊎ ((a * (p - t)) % p ≡ 1))
bezout_end p a x s y t h prime small e =
    ⊎_elim
    (λ g. let unit : (a * t) % p ≡ 1 = g.0 ∙ one in (unit_below p a t t_small unit, inl unit))
    (λ g.
    let unit : ((p - a) * t) % p ≡ 1 = g.0 ∙ one in
    (unit_below p (p - a) t t_small unit, inr (product_complements p a t (p - a) (p - t) (omega arith) (omega arith) (omega (arith, t_small)) ∙ unit)))
    h.signed
  where
    one : y % p ≡ 1
    one = ap (λ z. z % p) e ∙ mod-eq_of_lt prime.0

    t_small : t ≤ p
    t_small = let grows : t ≤ t * x = le-mul_of_pos_right t h.x_positive in omega (arith, h.exact)
