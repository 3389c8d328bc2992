-- Lists of n words below p and numbers below p^n are the same by the digits in base p: most laws by induction on n, since the number a + p·c has the lowest digit a and
-- above it the digits of c.
use mathlib.Core.Path.{◌≡◌, refl, sym, ap, ap₂, ◌∙◌}
use mathlib.Core.List.{List, [], ◌∷◌, ◌++◌, map}
use Prim.Native.Nat.{ℕ, zero, suc, ◌+◌, ◌*◌, ◌/◌, ◌%◌, ◌^◌, ◌≤◌, ◌<◌}
use native.Mathlib.Nat.{
  zero-add,
  suc-add,
  one-le-pow,
  pow-zero,
  pow-suc,
  pow-succ',
  mod-lt,
  mod-eq_of_lt,
  mod-add-div,
  div-eq_of_lt,
  div-one,
  div-lt_iff_lt-mul,
  div-div-eq-div-mul,
  add-mul-div_left,
  add-mul-mod_self_left,
  mul_comm,
  mul_assoc,
  mul-le-mul_left,
}
use native.Mathlib.Numerals.{add-one}
use native.Mathlib.Omega.{arith}
use lib.ListN.{length, get_or, length-map}
use lib.Seq.{ext_get_or}
use Rattle.algebra.specs.Lists.{range}
use Rattle.algebra.proofs.Search.{range_length}
use Rattle.array.specs.Digits.{digits, code}
use Rattle.array.specs.Words.{Words, none, more}
use Rattle.array.proofs.Ranges.{range_word}

-- division by p and by powers of p

power_positive : (p n : ℕ) → 0 < p → 0 < p ^ n
power_positive p n h = one-le-pow n p h

below_one : (p c : ℕ) → c < p ^ 0 → c ≡ 0
below_one p c l = omega (arith, l, pow-zero p)

div_below : (p q c : ℕ) → 0 < p → c < p * q → c / p < q
div_below p q c h l = (div-lt_iff_lt-mul h).1 (rw (mul_comm q p) l)

sum_below : (p q a x : ℕ) → a < p → x < q → a + p * x < p * q
sum_below p q a x h l = let m : p * suc x ≤ p * q = mul-le-mul_left p l in omega arith

sum_mod : (p a x : ℕ) → a < p → (a + p * x) % p ≡ a
sum_mod p a x h = add-mul-mod_self_left a p x ∙ mod-eq_of_lt h

sum_div : (p a x : ℕ) → a < p → (a + p * x) / p ≡ x
sum_div p a x h = let positive : 0 < p = omega arith in add-mul-div_left a x positive ∙ ap (λ y. y + x) (div-eq_of_lt h) ∙ zero-add x

pub next_digit : (p i c : ℕ) → c / p ^ i / p ≡ c / p ^ (i + 1)
next_digit p i c = div-div-eq-div-mul c (p ^ i) p ∙ ap (λ x. c / x) (sym (pow-suc p i) ∙ ap (λ j. p ^ j) (sym (add-one i)))

-- the digits are n words below p

pub digits_words : (p n c : ℕ) → 0 < p → Words p n (digits p n c)
unfolding digits
digits_words p zero c h = none
digits_words p (suc n) c h = more (mod-lt c h) (digits_words p n (c / p) h)

pub digits-length : (p n c : ℕ) → length (digits p n c) ≡ n
unfolding digits
digits-length p zero c = refl
digits-length p (suc n) c = ap suc (digits-length p n (c / p))

-- a + p·c has the digit a before those of c
pub digits-cons : (p n a c : ℕ) → a < p → a ∷ digits p n c ≡ digits p (suc n) (a + p * c)
unfolding digits
digits-cons p n a c h = sym (ap₂ (λ x y. x ∷ digits p n y) (sum_mod p a c h) (sum_div p a c h))

-- the number with given digits, and back

pub code_below : {p n : ℕ} {u : List ℕ} → Words p n u → code p u < p ^ n
unfolding code
code_below {p} none = rw (pow-zero p) (omega arith)
code_below {p} (more {a = a} {n = n} {u = u} h w) = rw (pow-succ' p n) (sum_below p (p ^ n) a (code p u) h (code_below w))

pub code-digits : (p n c : ℕ) → 0 < p → c < p ^ n → code p (digits p n c) ≡ c
unfolding code digits
code-digits p zero c h l = sym (below_one p c l)
code-digits p (suc n) c h l =
    ap (λ x. c % p + p * x) (code-digits p n (c / p) h (div_below p (p ^ n) c h (rw (pow-succ' p n) at l))) ∙ mod-add-div c p

pub digits-code : {p n : ℕ} {u : List ℕ} → Words p n u → digits p n (code p u) ≡ u
unfolding code digits
digits-code none = refl
digits-code {p} (more {a = a} {n = n} {u = u} h w) = sym (digits-cons p n a (code p u) h) ∙ ap (a ∷◌) (digits-code w)

-- two lists of digits in a row

-- without its factor p, a number behind d + 1 digits is one behind d digits
power_times : (p d h : ℕ) → p ^ suc d * h ≡ p * (p ^ d * h)
power_times p d h = ap (λ x. x * h) (pow-succ' p d) ∙ mul_assoc p (p ^ d) h

high_mod : (p d l h : ℕ) → (l + p ^ suc d * h) % p ≡ l % p
high_mod p d l h = ap (λ x. (l + x) % p) (power_times p d h) ∙ add-mul-mod_self_left l p (p ^ d * h)

high_div : (p d l h : ℕ) → 0 < p → (l + p ^ suc d * h) / p ≡ l / p + p ^ d * h
high_div p d l h positive = ap (λ x. (l + x) / p) (power_times p d h) ∙ add-mul-div_left l (p ^ d * h) positive

pub digits_append : (p d k l h : ℕ) → 0 < p → l < p ^ d → digits p (d + k) (l + p ^ d * h) ≡ digits p d l ++ digits p k h
unfolding digits
digits_append p zero k l h positive b =
    let e : l + p ^ 0 * h ≡ h = omega (arith, below_one p l b, ap (λ x. x * h) (pow-zero p)) in ap₂ (digits p) (zero-add k) e
digits_append p (suc d) k l h positive b =
    ap (λ m. digits p m (l + p ^ suc d * h)) (suc-add d k)
    ∙ ap₂ ◌∷◌ (high_mod p d l h) (ap (digits p (d + k)) (high_div p d l h positive)
    ∙ digits_append p d k (l / p) h positive (div_below p (p ^ d) l positive (rw (pow-succ' p d) at b)))

pub digits_split : (p d k c : ℕ) → 0 < p → digits p (d + k) c ≡ digits p d (c % p ^ d) ++ digits p k (c / p ^ d)
digits_split p d k c h =
    ap (digits p (d + k)) (sym (mod-add-div c (p ^ d))) ∙ digits_append p d k (c % p ^ d) (c / p ^ d) h (mod-lt c (power_positive p d h))

-- the highest of k + 1 digits

pub digit_below : (p k c : ℕ) → 0 < p → c < p ^ suc k → c / p ^ k < p
digit_below p k c h l = div_below (p ^ k) p c (power_positive p k h) (rw (pow-suc p k) at l)

digits-one : (p a : ℕ) → a < p → digits p 1 a ≡ a ∷ []
unfolding digits
digits-one p a h = ap (λ x. x ∷ []) (mod-eq_of_lt h)

pub digits_snoc : (p k c : ℕ) → 0 < p → c < p ^ suc k → digits p (suc k) c ≡ digits p k (c % p ^ k) ++ c / p ^ k ∷ []
digits_snoc p k c h l =
    ap (λ m. digits p m c) (sym (add-one k)) ∙ digits_split p k 1 c h ∙ ap (λ v. digits p k (c % p ^ k) ++ v) (digits-one p (c / p ^ k) (digit_below p k c h l))

-- each digit

digits_at : (p n c i : ℕ) → i < n → get_or (digits p n c) i 0 ≡ c / p ^ i % p
unfolding digits
digits_at p zero c i l = absurd (omega arith)
digits_at p (suc n) c zero l = ap (λ x. x % p) (sym (ap (λ x. c / x) (pow-zero p) ∙ div-one c))
digits_at p (suc n) c (suc i) l =
    digits_at p n (c / p) i (omega arith) ∙ ap (λ x. x % p) (div-div-eq-div-mul c p (p ^ i) ∙ ap (λ x. c / x) (sym (pow-succ' p i)))

pub digits-range : (p n c : ℕ) → digits p n c ≡ map (λ i. c / p ^ i % p) (range 0 n)
digits-range p n c =
    let size : length (map (λ i. c / p ^ i % p) (range 0 n)) ≡ n = length-map (range 0 n) (λ i. c / p ^ i % p) ∙ range_length 0 n in
    ext_get_or 0 (digits p n c) (map (λ i. c / p ^ i % p) (range 0 n)) (digits-length p n c ∙ sym size) same
  where
    same : (j : ℕ) → j < length (digits p n c) → get_or (digits p n c) j 0 ≡ get_or (map (λ i. c / p ^ i % p) (range 0 n)) j 0
    same j l =
        let b : j < n = rw (digits-length p n c) at l in
        digits_at p n c j b ∙ sym (range_word (λ i. c / p ^ i % p) 0 n j b ∙ ap (λ i. c / p ^ i % p) (zero-add j))
