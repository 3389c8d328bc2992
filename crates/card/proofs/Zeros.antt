-- Zeros: the test that a list has no other elements, and a list with zeros behind it.
use mathlib.Core.Path.{◌≡◌, refl, ap, ap₂}
use mathlib.Core.Bool.{Bool, true, false, ◌&&◌, false≢true}
use mathlib.Core.List.{List, [], ◌∷◌, ◌++◌}
use Prim.Native.Nat.{ℕ, zero, suc, ◌≤◌}
use native.Mathlib.Nat.{le_of_suc-le-suc}
use native.Mathlib.Omega.{arith}
use lib.Dec.{eqb}
use lib.ListN.{length, get_or, take, replicate}
use borrow.Author.Tests.{eqb-true}
use Rattle.algebra.specs.Lists.{all}

pub take-replicate : (n m a : ℕ) → n ≤ m → take n (replicate m a) ≡ replicate n a
take-replicate zero m a h = refl
take-replicate (suc n) zero a h = absurd (omega arith)
take-replicate (suc n) (suc m) a h = ap (λ (r : List ℕ). a ∷ r) (take-replicate n m a (le_of_suc-le-suc h))

abbrev pub is_zero : ℕ → Bool
is_zero b = eqb b 0

pub zeros_pass : (n : ℕ) → all is_zero (replicate n 0) ≡ true
unfolding all
zeros_pass zero = refl
zeros_pass (suc n) = zeros_pass n

-- a list that passes is a list of zeros
pub all_zeros : (xs : List ℕ) → all is_zero xs ≡ true → xs ≡ replicate (length xs) 0
unfolding all
all_zeros [] h = refl
all_zeros (x ∷ xs) h = by_head (is_zero x) refl (all_zeros xs) h
  where
    by_head : (b : Bool) → is_zero x ≡ b → (all is_zero xs ≡ true → xs ≡ replicate (length xs) 0) → (b && all is_zero xs) ≡ true → x ∷ xs ≡ replicate (suc (length xs)) 0
    by_head true e rest h = ap₂ (λ (a : ℕ) (r : List ℕ). a ∷ r) (eqb-true x 0 e) (rest h)
    by_head false e rest h = absurd (false≢true h)

pub all_append : (test : ℕ → Bool) (xs ys : List ℕ) → all test (xs ++ ys) ≡ (all test xs && all test ys)
unfolding all
all_append test [] ys = refl
all_append test (x ∷ xs) ys = by_head (test x) (all_append test xs ys)
  where
    by_head : (b : Bool) → all test (xs ++ ys) ≡ (all test xs && all test ys) → (b && all test (xs ++ ys)) ≡ ((b && all test xs) && all test ys)
    by_head true rest = rest
    by_head false rest = refl

-- past the end a list reads as zeros
pub get_or_zeros : (xs : List ℕ) (m k : ℕ) → get_or (xs ++ replicate m 0) k 0 ≡ get_or xs k 0
get_or_zeros [] zero k = refl
get_or_zeros [] (suc m) zero = refl
get_or_zeros [] (suc m) (suc k) = get_or_zeros [] m k
get_or_zeros (x ∷ xs) m zero = refl
get_or_zeros (x ∷ xs) m (suc k) = get_or_zeros xs m k
