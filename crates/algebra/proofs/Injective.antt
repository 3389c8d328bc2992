-- A function of the numbers below n is injective if f j = f (j + c) holds for no c > 0: of two numbers one is the lower.
use mathlib.Core.Path.{◌≡◌, sym, ap, ◌∙◌}
use Prim.Native.Nat.{ℕ, zero, suc, ◌+◌, ◌≤◌, ◌<◌}
use native.Mathlib.Nat.{le_dest}
use native.Mathlib.Decide.{dec_le}
use native.Mathlib.Omega.{arith}

module _ {A : Type 0} (f : ℕ → A) (n : ℕ) (apart : (j c : ℕ) → j + suc c < n → f j ≡ f (j + suc c) → ⊥) where
  ordered_equal : (j k : ℕ) → j ≤ k → k < n → f j ≡ f k → j ≡ k
  ordered_equal j k le lt e = by_gap (le_dest le)
    where
      by_gap : (c : ℕ) × (j + c ≡ k) → j ≡ k
      by_gap (zero, g) = omega arith
      by_gap (suc c, g) = absurd (apart j c (omega arith) (e ∙ ap f (sym g)))

  pub injective_below : (j k : ℕ) → j < n → k < n → f j ≡ f k → j ≡ k
  injective_below j k hj hk e = by_order (dec_le j k)
    where
      by_order : Dec (j ≤ k) → j ≡ k
      by_order (yes le) = ordered_equal j k le hk e
      by_order (no gt) = sym (ordered_equal k j (omega arith) hj (sym e))
