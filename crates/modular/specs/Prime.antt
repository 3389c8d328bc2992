-- The primes of document 01, "p is a prime from 2 to 65,535", up to the end of request S-9: "p up to 1,048,575".
--   largest_prime            no prime of a call is larger: 1,048,575
--   is_prime p               2 ≤ p ≤ 1,048,575, and no d with 2 ≤ d < p divides p
--   PrimeTestIsExact         the test is true exactly of the primes up to 1,048,575
-- What the contracts of trial division cite:
--   first_divisor p numbers   the first of the numbers that divides p, or p
--   Complete numbers          what is used of the table of primes, each fact a computed test: its 172 numbers are primes, each d from 2 to 1,023 is divided by
--                             one of them, and from the 55th on they are 256 or more
use Rattle.std.specs.Prelude.{◌≡◌, Bool, true, ◌&&◌, not, List, ◌↔◌, ℕ, ◌-◌, ◌%◌, ◌≤◌, leb, eqb, length, drop}
use Rattle.algebra.specs.Lists.{all, range, first}
use Rattle.algebra.specs.Prime.{Prime}

abbrev pub largest_prime : ℕ
largest_prime = 1048575

unfoldable pub is_prime : ℕ → Bool
is_prime p = leb 2 p && leb p largest_prime && all (λ d. not (eqb (p % d) 0)) (range 2 (p - 2))

abbrev pub PrimeTestIsExact : Type 0
PrimeTestIsExact = (p : ℕ) → (is_prime p ≡ true) ↔ (Prime p × (p ≤ largest_prime))

unfoldable pub first_divisor : ℕ → List ℕ → ℕ
first_divisor p numbers = first (λ d. eqb (p % d) 0) p numbers

pub record Complete (numbers : List ℕ) : Type 0 where
  pub size : length numbers ≡ 172
  pub primes : all is_prime numbers ≡ true
  pub complete : all (λ d. not (all (λ q. not (eqb (d % q) 0)) numbers)) (range 2 1022) ≡ true
  pub large : all (leb 256) (drop 54 numbers) ≡ true
