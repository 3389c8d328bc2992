-- Trial division by the primes below 1,024 decides primality up to 1,048,575. A number p below b·b that is not prime has a divisor from 2 to
-- b − 1, and a prime of the table divides that one; for p < 65,536 it is below 256. The table is searched in three parts: two halves of
-- the primes below 256, and the others.
--   middle xs, others xs   the second and the third part, as the code lends them
use mathlib.Core.Path.{◌≡◌, sym, ap, subst, ◌∙◌}
use mathlib.Core.Bool.{true, false, not, false≢true}
use mathlib.Core.List.{List, [], ◌∷◌}
use mathlib.Core.Logic.{◌⊎◌, inl, inr, ⊎_elim}
use Prim.Native.Nat.{ℕ, zero, suc, ◌-◌, ◌*◌, ◌/◌, ◌%◌, ◌≤◌, ◌<◌}
use native.Mathlib.Nat.{div-add-mod', div-lt_iff_lt-mul, mul-mod_right, dvd_trans, dvd_of_mod-eq-zero, mod-eq-zero_of_dvd, le_of_dvd, mul-le-mul_left}
use native.Mathlib.Decide.{ℕ_discrete, dec_lt}
use native.Mathlib.Omega.{arith}
use lib.Dec.{eqb, leb, ltb}
use lib.ListN.{length, take, drop, length-drop}
use lib.Seq.{take_all, length-take-le, drop-drop}
use borrow.Author.Tests.{eq-eqb, ne_eqb, leb-true, lt-ltb}
use Rattle.algebra.specs.Lists.{Member, all, range}
use Rattle.algebra.specs.Prime.{Prime}
use Rattle.algebra.proofs.Search.{member_of_all, all_of_members, range_member}
use Rattle.modular.specs.Prime.{largest_prime, is_prime, first_divisor, Complete}
use Rattle.modular.proofs.IsPrime.{indivisible, indivisible_of, prime_of_test, test_of_prime, not-prime}
use Rattle.modular.proofs.prime.FirstDivisor.{None, divisor_self, self_or_none}

divides_trans : (p d q : ℕ) → p % d ≡ 0 → d % q ≡ 0 → p % q ≡ 0
divides_trans p d q h k = mod-eq-zero_of_dvd q (dvd_trans q (dvd_of_mod-eq-zero q k) (dvd_of_mod-eq-zero d h))

cofactor_large : (e d p : ℕ) → e * d ≡ p → 0 < p → d < p → 2 ≤ e
cofactor_large zero d p h pos l = absurd (omega arith)
cofactor_large (suc zero) d p h pos l = absurd (omega arith)
cofactor_large (suc (suc e)) d p h pos l = omega arith

-- d or p / d is below b
small_divisor : (b p d : ℕ) → p < b * b → 2 ≤ d → d < p → p % d ≡ 0 → (f : ℕ) × (2 ≤ f) × (f < b) × (p % f ≡ 0)
small_divisor b p d h low high e = go (dec_lt d b)
  where
    product : p / d * d ≡ p
    product = omega (arith, div-add-mod' p d)

    go : Dec (d < b) → (f : ℕ) × (2 ≤ f) × (f < b) × (p % f ≡ 0)
    go (yes l) = (d, low, l, e)
    go (no n) =
        let many : b * b ≤ b * d = mul-le-mul_left b (omega arith) in (
          p / d,
          cofactor_large (p / d) d p product (omega arith) high,
          (div-lt_iff_lt-mul {k = d} {x = p} {y = b} (omega arith)).1 (omega arith),
          ap (λ x. x % (p / d)) (sym product) ∙ mul-mod_right (p / d) d,
        )

pub too_small : (p : ℕ) → p < 2 → false ≡ is_prime p
too_small p h = not-prime p (λ t. omega (arith, (prime_of_test p t).0.0))

pub too_large : (p : ℕ) → largest_prime < p → false ≡ is_prime p
too_large p h = not-prime p (λ t. omega (arith, (prime_of_test p t).1))

-- parts of a list

front_member : (q k : ℕ) (xs : List ℕ) → Member q (take k xs) → Member q xs
front_member q zero xs m = absurd m
front_member q (suc k) [] m = absurd m
front_member q (suc k) (x ∷ xs) m = ⊎_elim inl (λ t. inr (front_member q k xs t)) m

rear_member : (q k : ℕ) (xs : List ℕ) → Member q (drop k xs) → Member q xs
rear_member q zero xs m = m
rear_member q (suc k) [] m = absurd m
rear_member q (suc k) (x ∷ xs) m = inr (rear_member q k xs m)

member_split : (q k : ℕ) (xs : List ℕ) → Member q xs → Member q (take k xs) ⊎ Member q (drop k xs)
member_split q zero xs m = inr m
member_split q (suc k) [] m = absurd m
member_split q (suc k) (x ∷ xs) m = ⊎_elim (λ e. inl (inl e)) (λ t. ⊎_elim (λ f. inl (inr f)) inr (member_split q k xs t)) m

abbrev middle : List ℕ → List ℕ
middle xs = take 27 (drop 27 xs)

abbrev others : List ℕ → List ℕ
others xs = take (length xs - 54) (drop 54 xs)

others_are : (xs : List ℕ) → others xs ≡ drop 54 xs
others_are xs = take_all (length xs - 54) (drop 54 xs) (omega (arith, length-drop 54 xs))

-- a prime that divides p is p or shows that p is not prime
pub divided : (primes : List ℕ) → ((q : ℕ) → Member q primes → is_prime q ≡ true) → (p r : ℕ) → r ≡ first_divisor p primes → (r ≡ p → ⊥) → false ≡ is_prime p
divided primes h p r e other = not-prime p (λ t. other (e ∙ divisor_self p primes (itself t)))
  where
    itself : is_prime p ≡ true → (q : ℕ) → Member q primes → p % q ≡ 0 → q ≡ p
    itself t q m k = go (ℕ_discrete q p)
      where
        prime : Prime p
        prime = (prime_of_test p t).0

        go : Dec (q ≡ p) → q ≡ p
        go (yes s) = s
        go (no n) =
            let below : q ≤ p = le_of_dvd (omega (arith, prime.0)) (dvd_of_mod-eq-zero q k) in
            absurd (prime.1 q (prime_of_test q (h q m)).0.0 (omega arith) k)

module _ (xs : List ℕ) (table : Complete xs) where
  member_prime : (q : ℕ) → Member q xs → is_prime q ≡ true
  member_prime q m = member_of_all is_prime xs table.primes q m

  first_primes : (q : ℕ) → Member q (take 27 xs) → is_prime q ≡ true
  first_primes q m = member_prime q (front_member q 27 xs m)

  middle_primes : (q : ℕ) → Member q (middle xs) → is_prime q ≡ true
  middle_primes q m = member_prime q (rear_member q 27 xs (front_member q 27 (drop 27 xs) m))

  last_primes : (q : ℕ) → Member q (drop 54 xs) → is_prime q ≡ true
  last_primes q m = member_prime q (rear_member q 54 xs m)

  -- each d is divided by a prime of the table
  some_divides : (d : ℕ) → 2 ≤ d → d < 1024 → None d xs → ⊥
  some_divides d from to none =
      let indivisibles : all (indivisible d) xs ≡ true = all_of_members (indivisible d) xs (λ q m. indivisible_of d q (none q m)) in
      false≢true
      (sym (ap not indivisibles) ∙ member_of_all (λ f. not (all (indivisible f) xs)) (range 2 1022) table.complete d (range_member 2 1022 d from (omega arith)))

  last_large : (q : ℕ) → Member q (drop 54 xs) → 256 ≤ q
  last_large q m = leb-true 256 q (member_of_all (leb 256) (drop 54 xs) table.large q m)

  module _ (p : ℕ) where
    pub first_divided : (r : ℕ) → r ≡ first_divisor p (take 27 xs) → (r ≡ p → ⊥) → false ≡ is_prime p
    first_divided r = divided (take 27 xs) first_primes p r

    pub middle_divided : (r : ℕ) → r ≡ first_divisor p (middle xs) → (r ≡ p → ⊥) → false ≡ is_prime p
    middle_divided r = divided (middle xs) middle_primes p r

    module _ (big : 2 ≤ p) (r s : ℕ) (e : r ≡ first_divisor p (take 27 xs)) (same : r ≡ p) (f : s ≡ first_divisor p (middle xs)) (same' : s ≡ p) where
      -- p is one of the first 54 primes, or none of these divides p
      by_parts : (None p (take 27 xs) → None p (middle xs) → is_prime p ≡ true) → is_prime p ≡ true
      by_parts k =
          ⊎_elim (first_primes p)
          (λ l. ⊎_elim (middle_primes p) (k l) (self_or_none p (middle xs) (sym f ∙ same')))
          (self_or_none p (take 27 xs) (sym e ∙ same))

      -- what divides no part divides nothing
      none_whole : (d : ℕ) → None d (take 27 xs) → None d (middle xs) → None d (drop 54 xs) → None d xs
      none_whole d l m h q t k =
          ⊎_elim (λ a. l q a k)
          (λ b. ⊎_elim (λ a. m q a k) (λ a. h q (subst (Member q) (drop-drop 27 27 xs) a) k) (member_split q 27 (drop 27 xs) b))
          (member_split q 27 xs t)

      -- a divisor of p is divided by no prime that p is not divided by
      none_passes : (d : ℕ) (ys : List ℕ) → p % d ≡ 0 → None p ys → None d ys
      none_passes d ys h none q m k = none q m (divides_trans p d q h k)

      pub decided_early : p < 65536 → true ≡ is_prime p
      decided_early small = sym (by_parts (λ l m. test_of_prime p (big, prime l m) (omega arith)))
        where
          prime : None p (take 27 xs) → None p (middle xs) → (d : ℕ) → 2 ≤ d → d < p → p % d ≡ 0 → ⊥
          prime l m d from to h =
              let (g, low, high, divides) = small_divisor 256 p d (omega arith) from to h in
              some_divides g low (omega arith)
              (none_whole g (none_passes g (take 27 xs) divides l) (none_passes g (middle xs) divides m)
              (λ q t k. absurd (omega (arith, last_large q t, le_of_dvd (omega arith) (dvd_of_mod-eq-zero q k)))))

      module _ (small : p ≤ largest_prime) where
        accepted : first_divisor p (drop 54 xs) ≡ p → is_prime p ≡ true
        accepted g = by_parts (λ l m. ⊎_elim (last_primes p) (λ h. test_of_prime p (big, prime l m h) small) (self_or_none p (drop 54 xs) g))
          where
            prime : None p (take 27 xs) → None p (middle xs) → None p (drop 54 xs) → (d : ℕ) → 2 ≤ d → d < p → p % d ≡ 0 → ⊥
            prime l m h d from to k =
                let (g, low, high, divides) = small_divisor 1024 p d (omega arith) from to k in
                some_divides g low high (none_passes g xs divides (none_whole p l m h))

        pub decided : (t : ℕ) → t ≡ first_divisor p (others xs) → eqb t p ≡ is_prime p
        decided t h = go (ℕ_discrete t p)
          where
            g : t ≡ first_divisor p (drop 54 xs)
            g = h ∙ ap (first_divisor p) (others_are xs)

            go : Dec (t ≡ p) → eqb t p ≡ is_prime p
            go (yes k) = eq-eqb t p k ∙ sym (accepted (sym g ∙ k))
            go (no n) = ne_eqb t p n ∙ divided (drop 54 xs) last_primes p t g n

-- what the calls of the parts need: the primes are positive
part_positive : (ys : List ℕ) → ((q : ℕ) → Member q ys → is_prime q ≡ true) → all (ltb 0) ys ≡ true
part_positive ys h = all_of_members (ltb 0) ys (λ q m. lt-ltb 0 q (omega (arith, (prime_of_test q (h q m)).0.0)))

module _ (xs : List ℕ) (table : Complete xs) where
  pub first_positive : all (ltb 0) (take 27 xs) ≡ true
  first_positive = part_positive (take 27 xs) (first_primes xs table)

  pub middle_positive : all (ltb 0) (middle xs) ≡ true
  middle_positive = part_positive (middle xs) (middle_primes xs table)

  pub others_positive : all (ltb 0) (others xs) ≡ true
  others_positive = rw others_are (part_positive (drop 54 xs) (last_primes xs table))

  pub first_size : 27 ≡ length (take 27 xs)
  first_size = sym (length-take-le 27 xs (omega (arith, table.size)))
