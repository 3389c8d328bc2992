-- The test `is_prime` accepts p exactly when p is a prime up to 1,048,575.
--   indivisible p d   the test that d does not divide p
use mathlib.Core.Path.{◌≡◌, refl, sym, ap}
use mathlib.Core.Bool.{Bool, true, false, not, ◌&&◌, and-eq-true_iff}
use Prim.Native.Nat.{ℕ, ◌-◌, ◌%◌, ◌≤◌}
use native.Mathlib.Omega.{arith}
use lib.Dec.{leb, eqb}
use borrow.Author.Tests.{leb-true, le-leb, eqb-false, ne_eqb, not-true}
use Rattle.algebra.specs.Lists.{all, range}
use Rattle.algebra.specs.Prime.{Prime}
use Rattle.algebra.proofs.Search.{member_of_all, all_of_members, range_member, range_bounds}
use Rattle.modular.specs.Prime.{largest_prime, is_prime, PrimeTestIsExact}

abbrev pub indivisible : ℕ → ℕ → Bool
indivisible p d = not (eqb (p % d) 0)

pub indivisible_of : (p d : ℕ) → (p % d ≡ 0 → ⊥) → indivisible p d ≡ true
indivisible_of p d h = ap not (ne_eqb (p % d) 0 h)

pub of_indivisible : (p d : ℕ) → indivisible p d ≡ true → p % d ≡ 0 → ⊥
of_indivisible p d h = eqb-false (p % d) 0 (not-true (eqb (p % d) 0) h)

pub prime_of_test : (p : ℕ) → is_prime p ≡ true → Prime p × (p ≤ largest_prime)
unfolding is_prime
prime_of_test p h =
    let parts = (and-eq-true_iff (leb 2 p && leb p largest_prime) (all (indivisible p) (range 2 (p - 2)))).0 h in
    let ends = (and-eq-true_iff (leb 2 p) (leb p largest_prime)).0 parts.0 in
    let low : 2 ≤ p = leb-true 2 p ends.0 in (
      (low, λ d l g. of_indivisible p d (member_of_all (indivisible p) (range 2 (p - 2)) parts.1 d (range_member 2 (p - 2) d l (omega arith)))),
      leb-true p largest_prime ends.1,
    )

pub test_of_prime : (p : ℕ) → Prime p → p ≤ largest_prime → is_prime p ≡ true
unfolding is_prime
test_of_prime p prime h =
    (and-eq-true_iff (leb 2 p && leb p largest_prime) (all (indivisible p) (range 2 (p - 2)))).1 (
      (and-eq-true_iff (leb 2 p) (leb p largest_prime)).1 (le-leb 2 p prime.0, le-leb p largest_prime h),
      all_of_members (indivisible p) (range 2 (p - 2))
          (λ d m. let b = range_bounds 2 (p - 2) d m in indivisible_of p d (prime.1 d b.0 (omega (arith, prime.0)))),
    )

pub prime_test_is_exact : PrimeTestIsExact
prime_test_is_exact p = (prime_of_test p, λ h. test_of_prime p h.0 h.1)

pub not-prime : (p : ℕ) → (is_prime p ≡ true → ⊥) → false ≡ is_prime p
not-prime p h = go (is_prime p) refl
  where
    go : (b : Bool) → is_prime p ≡ b → false ≡ is_prime p
    go true e = absurd (h e)
    go false e = sym e
