-- The loop of `exponent`: the powers of p one after the other, while they are below n.
--   PowersBelow p n k q   q = p^k with k ≥ 1, and the powers before it, from p^1 on, are below n
use mathlib.Core.Path.{◌≡◌, sym, ap, ◌∙◌}
use Prim.Native.Nat.{ℕ, ◌+◌, ◌-◌, ◌*◌, ◌^◌, ◌≤◌, ◌<◌}
use native.Mathlib.Decide.{ℕ_discrete, dec_lt}
use native.Mathlib.Nat.{mul-le-mul, mul-le-mul_left, one-le-pow, pow-suc}
use native.Mathlib.Numerals.{add-one}
use native.Mathlib.Omega.{arith}
use mir.Syntax.{w64}
use mir.Val.{Fits}
use Rattle.algebra.proofs.PrimePowers.{power_rises, pow-one}
use Rattle.galois.specs.Tower.{PowerOf, exponent}
use Rattle.galois.proofs.Exponent.{exponent_below, exponent_found, exponent_none}

pub record PowersBelow (p n k q : ℕ) : Type 0 where
  pub positive : 1 ≤ k
  pub power_is : q ≡ p ^ k
  pub before : (j : ℕ) → 1 ≤ j → j < k → p ^ j < n

module _ (p n : ℕ) (big : 2 ≤ p) where
  pub powers_start : PowersBelow p n 1 p
  powers_start = record { positive = omega arith; power_is = sym (pow-one p); before = λ j l m. absurd (omega arith) }

  module _ (k q : ℕ) (h : PowersBelow p n k q) where
    module _ (less : q < n) (short : n ≤ 16) where
      pub product_fits : p ≤ 2 ^ 20 → Fits w64 (q * p)
      product_fits small =
          let few : q ≤ 16 = omega arith in
          let bound : q * p ≤ 16 * 2 ^ 20 = mul-le-mul few small in
          record { fits = omega arith }

      pub count_fits : Fits w64 (k + 1)
      count_fits = record { fits = omega (arith, exponent_below p k big, h.power_is) }

      pub powers_turn : (q' : ℕ) → q' ≡ q * p → PowersBelow p n (k + 1) q'
      powers_turn q' e =
          record {
            positive = omega arith;
            power_is = e ∙ ap (λ x. x * p) h.power_is ∙ sym (pow-suc p k) ∙ ap (λ x. p ^ x) (sym (add-one k));
            before = λ j m l. by_place j m l (ℕ_discrete j k);
          }
        where
          by_place : (j : ℕ) → 1 ≤ j → j < k + 1 → Dec (j ≡ k) → p ^ j < n
          by_place j m l (yes s) = rw s (omega (arith, h.power_is))
          by_place j m l (no other) = h.before j m (omega arith)

      pub powers_less : (q' : ℕ) → q' ≡ q * p → n - q' < n - q
      powers_less q' e =
          let doubled : q * 2 ≤ q * p = mul-le-mul_left q big in
          omega (arith, h.power_is, one-le-pow k p (omega arith))

    pub powers_found : q ≡ n → k ≡ exponent p n
    powers_found e = sym (exponent_found p n big k h.positive (sym e ∙ h.power_is))

    pub powers_none : n ≤ q → (q ≡ n → ⊥) → exponent p n ≡ 0
    powers_none above other = exponent_none p n big none
      where
        none : PowerOf p n → ⊥
        none (i, l, e) = by_order (dec_lt i k) (ℕ_discrete i k)
          where
            by_order : Dec (i < k) → Dec (i ≡ k) → ⊥
            by_order (yes less) d = omega (arith, h.before i l less)
            by_order (no less) (yes same) = other (h.power_is ∙ ap (λ x. p ^ x) (sym same) ∙ sym e)
            by_order (no less) (no apart) = omega (arith, h.power_is, power_rises p k i big (omega arith))
