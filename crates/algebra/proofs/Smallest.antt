-- The first number from 1 to p − 1 that passes a test is the smallest there that satisfies what the test says, and there is only one smallest.
use mathlib.Core.Path.{◌≡◌}
use mathlib.Core.Bool.{Bool, true}
use Prim.Native.Nat.{ℕ, ◌+◌, ◌-◌, ◌≤◌, ◌<◌}
use native.Mathlib.Decide.{dec_le, ℕ_discrete}
use native.Mathlib.Omega.{arith}
use Rattle.algebra.specs.Lists.{first, range}
use Rattle.algebra.proofs.Search.{Found, first_found, first_smallest, range_bounds, range_member}
use Rattle.algebra.specs.Search.{Smallest}

pub first_is_smallest : (test : ℕ → Bool) (P : ℕ → Type 0) (p : ℕ) → ((k : ℕ) → test k ≡ true → P k) → ((k : ℕ) → P k → test k ≡ true)
    → (x : ℕ) → 1 ≤ x → x < p → P x → Smallest P p (first test 0 (range 1 (p - 1)))
first_is_smallest test P p sound complete x low high h =
    let y : ℕ = first test 0 (range 1 (p - 1)) in
    let found : Found test (range 1 (p - 1)) y = first_found test 0 (range 1 (p - 1)) x (range_member 1 (p - 1) x low (omega arith)) (complete x h) in
    let bounds : (1 ≤ y) × (y < 1 + (p - 1)) = range_bounds 1 (p - 1) y found.0 in (
      bounds.0,
      omega arith,
      sound y found.1,
      λ j l b k. let m : y ≤ j = first_smallest test 0 1 (p - 1) j l (omega arith) (complete j k) in omega arith,
    )

pub smallest_unique : (P : ℕ → Type 0) (p j k : ℕ) → Smallest P p j → Smallest P p k → j ≡ k
smallest_unique P p j k hj hk = by_order (dec_le j k) (ℕ_discrete j k)
  where
    by_order : Dec (j ≤ k) → Dec (j ≡ k) → j ≡ k
    by_order l (yes e) = e
    by_order (yes l) (no n) = absurd (hk.3 j hj.0 (omega arith) hj.2)
    by_order (no l) (no n) = absurd (hj.3 k hk.0 (omega arith) hk.2)
