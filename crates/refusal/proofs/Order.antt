-- What it means that none of the refusals 1 to 4 applies (document 01, "Caused by what was sent").
--   refuse_other               the number is another than that of the first condition: this does not apply, and what comes after it has the number
--   refuse_none                so it is where the number is 0
--   Follows rest x y           the numbers x and y of a chain of conditions, with 0 and with rest at its end; follows_stays, follows_passes: a number
--                              stays, whatever comes after it, and where there is none what comes after decides
--   prime_given, given_prime   1 does not apply exactly to the primes up to 1,048,575
--   degree_given, given_degree 2 does not apply exactly to 1 to 16
--   Sent p n xss yss           1 to 4 do not apply to a call with the lists xss that reads yss
--   sent_given, given_sent     that is so exactly where what comes after them decides
--   sent_stays                 a number of 1 to 4 stays, whatever comes after them
--   sent_or_stays, sent_or_given, sent_or_passes    the same where 3 also covers a condition of the call; with none of 1 to 4 what comes after decides
use mathlib.Core.Path.{◌≡◌, refl, ap, ap₂}
use mathlib.Core.Bool.{Bool, true, false, not, ◌&&◌, ◌||◌, and-eq-true_iff}
use mathlib.Core.List.{List}
use Prim.Native.Nat.{ℕ, zero, suc, ◌≤◌}
use native.Mathlib.Omega.{arith}
use lib.Dec.{leb}
use lib.ListN.{length}
use borrow.Author.Tests.{leb-true, le-leb, not-false}
use Rattle.algebra.specs.Prime.{Prime}
use Rattle.modular.specs.Prime.{largest_prime, is_prime}
use Rattle.algebra.specs.Lists.{All}
use Rattle.array.specs.Words.{all_below}
use Rattle.refusal.proofs.Lists.{lengths_given, given_lengths, below_given, given_below}
use Rattle.refusal.specs.Refusal.{refuse, refuse_sent, refuse_sent_or, bad_prime, largest_degree, is_degree, bad_degree, bad_length, bad_word}
use Rattle.modular.proofs.IsPrime.{prime_of_test, test_of_prime}

pub refuse_other : (j k : ℕ) (b : Bool) (rest : ℕ) → (k ≡ j → ⊥) → refuse k b rest ≡ j → (b ≡ false) × (rest ≡ j)
refuse_other j k true rest other h = absurd (other h)
refuse_other j k false rest other h = (refl, h)

pub refuse_none : (k : ℕ) (b : Bool) (rest : ℕ) → refuse (suc k) b rest ≡ 0 → (b ≡ false) × (rest ≡ 0)
refuse_none k b rest h = refuse_other 0 (suc k) b rest (λ e. omega arith) h

-- x and y are the numbers of one chain of conditions, with 0 and with rest at its end: both are what comes there, or the same number
pub data Follows (rest : ℕ) : ℕ → ℕ → Type 0 where
  passed : Follows rest zero rest
  stays : {k : ℕ} → Follows rest (suc k) (suc k)

pub follows_next : {rest x y : ℕ} (k : ℕ) (b : Bool) → Follows rest x y → Follows rest (refuse (suc k) b x) (refuse (suc k) b y)
follows_next k true h = stays
follows_next k false h = h

pub follows_stays : {rest x y : ℕ} → Follows rest x y → (number : ℕ) → number ≡ x → (number ≡ 0 → ⊥) → number ≡ y
follows_stays passed number e h = absurd (h e)
follows_stays stays number e h = e

pub follows_passes : {rest x y : ℕ} → Follows rest x y → x ≡ 0 → y ≡ rest
follows_passes passed h = refl
follows_passes stays h = absurd (omega arith)

pub prime_given : (p : ℕ) → bad_prime p ≡ false → Prime p × (p ≤ largest_prime)
unfolding bad_prime
prime_given p h = prime_of_test p (not-false (is_prime p) h)

pub prime_bounds : (p : ℕ) → bad_prime p ≡ false → (2 ≤ p) × (p ≤ largest_prime)
prime_bounds p h = let given = prime_given p h in (given.0.0, given.1)

pub given_prime : (p : ℕ) → Prime p → p ≤ largest_prime → bad_prime p ≡ false
unfolding bad_prime
given_prime p h l = ap not (test_of_prime p h l)

pub degree_given : (n : ℕ) → bad_degree n ≡ false → (1 ≤ n) × (n ≤ largest_degree)
unfolding bad_degree is_degree
degree_given n h =
    let ends = (and-eq-true_iff (leb 1 n) (leb n largest_degree)).0 (not-false (leb 1 n && leb n largest_degree) h) in
    (leb-true 1 n ends.0, leb-true n largest_degree ends.1)

pub given_degree : (n : ℕ) → 1 ≤ n → n ≤ largest_degree → bad_degree n ≡ false
unfolding bad_degree is_degree
given_degree n l h = ap₂ (λ a b. not (a && b)) (le-leb 1 n l) (le-leb n largest_degree h)

or_false : (a b : Bool) → (a || b) ≡ false → b ≡ false
or_false true b h = grind arith
or_false false b h = h

pub record Sent (p n : ℕ) (xss yss : List (List ℕ)) : Type 0 where
  pub prime : Prime p
  pub small : p ≤ largest_prime
  pub low : 1 ≤ n
  pub high : n ≤ largest_degree
  pub lengths : All (λ xs. length xs ≡ n) xss
  pub below : All (λ ys. all_below p ys ≡ true) yss

-- where 3 also covers b

module _ (b : Bool) (p n : ℕ) (xss yss : List (List ℕ)) (rest : ℕ) where
  follows : Follows rest (refuse_sent_or b p n xss yss 0) (refuse_sent_or b p n xss yss rest)
  follows = follows_next 0 (bad_prime p) (follows_next 1 (bad_degree n) (follows_next 2 (b || bad_length n xss) (follows_next 3 (bad_word p yss) passed)))

  pub sent_or_stays : (number : ℕ) → number ≡ refuse_sent_or b p n xss yss 0 → (number ≡ 0 → ⊥) → number ≡ refuse_sent_or b p n xss yss rest
  sent_or_stays number e h = follows_stays follows number e h

  pub sent_or_passes : refuse_sent_or b p n xss yss 0 ≡ 0 → refuse_sent_or b p n xss yss rest ≡ rest
  sent_or_passes h = follows_passes follows h

  pub sent_or_given : refuse_sent_or b p n xss yss rest ≡ 0 → Sent p n xss yss × (rest ≡ 0)
  sent_or_given h =
      let (prime, h2) = refuse_none 0 (bad_prime p) _ h in
      let (degree, h3) = refuse_none 1 (bad_degree n) _ h2 in
      let (lengths, h4) = refuse_none 2 (b || bad_length n xss) _ h3 in
      let (words, end) = refuse_none 3 (bad_word p yss) rest h4 in (
        record {
          prime = (prime_given p prime).0;
          small = (prime_given p prime).1;
          low = (degree_given n degree).0;
          high = (degree_given n degree).1;
          lengths = lengths_given n xss (or_false b (bad_length n xss) lengths);
          below = below_given p yss words;
        },
        end,
      )

module _ (p n : ℕ) (xss yss : List (List ℕ)) (rest : ℕ) where
  pub sent_given : refuse_sent p n xss yss rest ≡ 0 → Sent p n xss yss × (rest ≡ 0)
  sent_given h = sent_or_given false p n xss yss rest h

  pub given_sent : Sent p n xss yss → refuse_sent p n xss yss rest ≡ rest
  given_sent h = rw (given_prime p h.prime h.small, given_degree n h.low h.high, given_lengths n xss h.lengths, given_below p yss h.below)

  pub sent_stays : (number : ℕ) → number ≡ refuse_sent p n xss yss 0 → (number ≡ 0 → ⊥) → number ≡ refuse_sent p n xss yss rest
  sent_stays number e h = sent_or_stays false p n xss yss rest number e h
