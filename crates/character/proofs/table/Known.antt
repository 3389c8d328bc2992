-- What a table of powers says: a word that is not 0 is the power of its number; the product of two of them is the power of the product.
use mathlib.Core.Path.{◌≡◌, refl, sym, ap, ap₂, ◌∙◌}
use mathlib.Core.List.{List}
use Prim.Native.Nat.{ℕ, zero, suc, ◌*◌, ◌/◌, ◌%◌, ◌^◌, ◌≤◌, ◌<◌}
use native.Mathlib.Decide.{ℕ_discrete}
use native.Mathlib.Nat.{pow-zero, pow-suc, mul_comm, mul-zero, zero-mul, zero-mod, div-add-mod', div-le_self}
use native.Mathlib.Omega.{arith}
use lib.ListN.{get_or, set, length-set}
use lib.Seq.{get_or-set_same, get_or-set_other}
use Rattle.algebra.proofs.Modulo.{mul-mod-mod, mod-mul-mod}
use Rattle.modular.proofs.Factors.{words_few}
use Rattle.character.specs.Table.{Table}

product_power : (x y k : ℕ) → x ^ k * y ^ k ≡ (x * y) ^ k
product_power x y zero = simp pow-zero
product_power x y (suc k) = simp pow-suc (regroup (x ^ k) (y ^ k) ∙ ap (λ w. w * (x * y)) (product_power x y k))
  where
    regroup : (u v : ℕ) → u * x * (v * y) ≡ u * v * (x * y)
    regroup u v = omega arith

module _ (p k : ℕ) (c : List ℕ) (h : Table p k c) where
  pub written : (a r : ℕ) → a < 128 → r ≡ a ^ k % p → r < p → Table p k (set c a r)
  written a r l e lr =
      record {
        size = length-set c a r ∙ h.size;
        below = λ j lj. by_below j lj (ℕ_discrete j a);
        known = λ j lj other. by_known j lj other (ℕ_discrete j a);
      }
    where
      here : (j : ℕ) → j ≡ a → get_or (set c a r) j 0 ≡ r
      here j s = ap (λ i. get_or (set c a r) i 0) s ∙ get_or-set_same c a r 0 (omega (arith, h.size))

      elsewhere : (j : ℕ) → (j ≡ a → ⊥) → get_or (set c a r) j 0 ≡ get_or c j 0
      elsewhere j n = get_or-set_other c a j r 0 n

      by_below : (j : ℕ) → j < 128 → Dec (j ≡ a) → get_or (set c a r) j 0 < p
      by_below j lj (yes s) = rw (here j s) lr
      by_below j lj (no n) = rw (elsewhere j n) (h.below j lj)

      by_known : (j : ℕ) → j < 128 → (get_or (set c a r) j 0 ≡ 0 → ⊥) → Dec (j ≡ a) → get_or (set c a r) j 0 ≡ j ^ k % p
      by_known j lj other (yes s) = here j s ∙ e ∙ ap (λ i. i ^ k % p) (sym s)
      by_known j lj other (no n) = elsewhere j n ∙ h.known j lj (λ z. other (elsewhere j n ∙ z))

  pub found : (a : ℕ) → a < 128 → (get_or c a 0 ≡ 0 → ⊥) → get_or c a 0 ≡ a ^ k % p
  found a l other = h.known a l other

  pub quotient_place : (a q : ℕ) → a < 128 → a / q < 128
  quotient_place a q l = omega (arith, div-le_self a q)

  pub quotient_below : (a q : ℕ) → a < 128 → get_or c (a / q) 0 < p
  quotient_below a q l = h.below (a / q) (quotient_place a q l)

  pub factor_below : (q : ℕ) → q < 8 → get_or c q 0 < p
  factor_below q l = h.below q (omega arith)

  pub product_few : (a q : ℕ) → a < 128 → q < 8 → get_or c q 0 * get_or c (a / q) 0 ≤ 64 * (p * p)
  product_few a q l lq = words_few p (get_or c q 0) (get_or c (a / q) 0) _ (factor_below q lq) (quotient_below a q l) refl

  -- a = q·(a / q)
  pub product_known : (a q r : ℕ) → a < 128 → q < 8 → a % q ≡ 0 → r ≡ get_or c q 0 * get_or c (a / q) 0 % p → (r ≡ 0 → ⊥) → r ≡ a ^ k % p
  product_known a q r l lq divides e other =
      let whole : q * (a / q) ≡ a = mul_comm q (a / q) ∙ omega (arith, div-add-mod' a q) in
      e ∙ ap₂ (λ x y. x * y % p) (h.known q (omega arith) first) (h.known (a / q) (quotient_place a q l) second)
      ∙ mod-mul-mod (q ^ k) p ((a / q) ^ k % p) ∙ mul-mod-mod (q ^ k) ((a / q) ^ k) p ∙ ap (λ x. x % p) (product_power q (a / q) k ∙ ap (λ x. x ^ k) whole)
    where
      first : get_or c q 0 ≡ 0 → ⊥
      first z = other (e ∙ ap (λ x. x * get_or c (a / q) 0 % p) z ∙ ap (λ x. x % p) (zero-mul (get_or c (a / q) 0)) ∙ zero-mod p)

      second : get_or c (a / q) 0 ≡ 0 → ⊥
      second z = other (e ∙ ap (λ x. get_or c q 0 * x % p) z ∙ ap (λ x. x % p) (mul-zero (get_or c q 0)) ∙ zero-mod p)
