-- The refusals by p and n.
use mathlib.Core.Path.{◌≡◌, sym, ap}
use mathlib.Core.Bool.{true, false, not}
use Prim.Native.Nat.{ℕ, ◌^◌, ◌<◌}
use native.Mathlib.Omega.{arith}
use borrow.Author.Tests.{lt-ltb, not-true, not-false}
use lib.Dec.{ltb}
use Rattle.modular.specs.Prime.{is_prime}
use Rattle.refusal.specs.Refusal.{refuse, bad_prime, is_degree, bad_degree}
use Rattle.catalogue.specs.Catalogue.{most_polynomials, count_number}

-- a power that does not fit 64 bits
pub power_large : (p n : ℕ) → (p ^ n < 2 ^ 64 → ⊥) → false ≡ not (ltb most_polynomials (p ^ n))
power_large p n h = sym (ap not (lt-ltb most_polynomials (p ^ n) (omega arith)))

-- the number by the three tests

module _ (p n : ℕ) where
  pub no_prime : false ≡ is_prime p → 1 ≡ count_number p n
  unfolding count_number bad_prime
  no_prime h = rw (← h)

  module _ (prime : true ≡ is_prime p) where
    pub no_degree : false ≡ is_degree n → 2 ≡ count_number p n
    unfolding count_number bad_prime bad_degree
    no_degree h = rw (← prime, ← h)

    module _ (degree : true ≡ is_degree n) where
      size_decides : count_number p n ≡ refuse 29 (ltb most_polynomials (p ^ n)) 0
      unfolding count_number bad_prime bad_degree
      size_decides = rw (← prime, ← degree)

      pub size_accepted : true ≡ not (ltb most_polynomials (p ^ n)) → 0 ≡ count_number p n
      size_accepted h = rw (size_decides, not-true (ltb most_polynomials (p ^ n)) (sym h))

      pub too_many : false ≡ not (ltb most_polynomials (p ^ n)) → 29 ≡ count_number p n
      too_many h = rw (size_decides, not-false (ltb most_polynomials (p ^ n)) (sym h))
