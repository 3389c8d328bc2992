-- The primes up to 16: a prime that divides a degree from 1 to 16 is one of them.
use mathlib.Core.Path.{◌≡◌, refl, sym, ap, ◌∙◌}
use mathlib.Core.Bool.{Bool, true, false, ◌||◌, not, false≢true}
use mathlib.Core.List.{List, [], ◌∷◌}
use mathlib.Core.Logic.{inl, inr}
use Prim.Native.Nat.{ℕ, ◌%◌, ◌≤◌, ◌<◌}
use native.Mathlib.Decide.{dec_le}
use native.Mathlib.Nat.{mod-eq_of_lt}
use native.Mathlib.Omega.{arith}
use lib.Dec.{eqb}
use borrow.Author.Tests.{eqb-true}
use Rattle.algebra.specs.Lists.{Member, all, range}
use Rattle.algebra.specs.Prime.{Prime}
use Rattle.algebra.proofs.Search.{member_of_all, range_member}
use Rattle.modular.specs.Prime.{is_prime}
use Rattle.modular.proofs.IsPrime.{prime_of_test, test_of_prime}

abbrev pub primes : List ℕ
primes = 2 ∷ 3 ∷ 5 ∷ 7 ∷ 11 ∷ 13 ∷ []

among : ℕ → List ℕ → Bool
among q [] = false
among q (r ∷ rs) = eqb q r || among q rs

among_member : (q : ℕ) (rs : List ℕ) → among q rs ≡ true → Member q rs
unfolding among
among_member q [] h = absurd (false≢true h)
among_member q (r ∷ rs) h = by_head (eqb q r) refl (among_member q rs)
  where
    by_head : (b : Bool) → eqb q r ≡ b → (among q rs ≡ true → Member q rs) → Member q (r ∷ rs)
    by_head true e further = inl (eqb-true q r e)
    by_head false e further = inr (further (rw e at h))

all_listed : all (λ q. not (is_prime q) || among q primes) (range 0 17) ≡ true
unfolding all range among is_prime
all_listed = refl

all_prime : all is_prime primes ≡ true
unfolding all range is_prime
all_prime = refl

pub prime_listed : (q : ℕ) → Prime q → q ≤ 16 → Member q primes
prime_listed q prime small =
    let test : is_prime q ≡ true = test_of_prime q prime (omega arith) in
    among_member q primes
    (ap (λ b. not b || among q primes) (sym test) ∙ member_of_all (λ r. not (is_prime r) || among r primes) (range 0 17) all_listed q (range_member 0 17 q (omega arith) (omega arith)))

pub listed_prime : (q : ℕ) → Member q primes → Prime q
listed_prime q m = (prime_of_test q (member_of_all is_prime primes all_prime q m)).0

-- a divisor of n is at most n
pub divisor_small : (n q : ℕ) → 1 ≤ n → n % q ≡ 0 → q ≤ n
divisor_small n q some h = by_order (dec_le q n)
  where
    by_order : Dec (q ≤ n) → q ≤ n
    by_order (yes l) = l
    by_order (no g) = let less : n < q = omega arith in absurd (omega (arith, mod-eq_of_lt less))
