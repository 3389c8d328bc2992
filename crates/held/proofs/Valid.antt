-- What 1, 2 and 4 do not refuse: p is a prime up to 1,048,575, n is 1 to 16, and the first n words of arrays are lists of n words below p.
--   valid_degree, valid_size    the bounds of p and n
--   valid_sent, sent_valid      lists of n words are valid exactly where 1 to 4 do not apply to them
--   front_fits, front_models    the first n words of two arrays are there, and are models
--   maps_valid                  T2 and S, and T1 and R, of models with a pair
use mathlib.Core.Path.{◌≡◌}
use mathlib.Core.Bool.{true, false, not, ◌&&◌, and-eq-true_iff}
use mathlib.Core.List.{List, [], ◌∷◌}
use Prim.Native.Nat.{ℕ, ◌^◌, ◌≤◌}
use native.Mathlib.Omega.{arith}
use borrow.Author.Tests.{not-true}
use lib.ListN.{length, take}
use lib.Seq.{length-take-le}
use Rattle.algebra.specs.Lists.{All}
use Rattle.refusal.specs.Models.{Models}
use Rattle.refusal.specs.Refusal.{bad_prime, bad_degree, bad_word, largest_degree}
use Rattle.refusal.proofs.Order.{Sent, prime_given, degree_given, given_prime, given_degree}
use Rattle.refusal.proofs.Lists.{below_given, given_below}
use Rattle.refusal.proofs.Models.{sent_models}
use Rattle.held.specs.Held.{valid}

valid_given : (p n : ℕ) (xss : List (List ℕ)) → valid p n xss ≡ true → (bad_prime p ≡ false) × (bad_degree n ≡ false) × (bad_word p xss ≡ false)
unfolding valid
valid_given p n xss h =
    let (size, words) = (and-eq-true_iff (not (bad_prime p) && not (bad_degree n)) (not (bad_word p xss))).0 h in
    let (prime, degree) = (and-eq-true_iff (not (bad_prime p)) (not (bad_degree n))).0 size in
    (not-true (bad_prime p) prime, not-true (bad_degree n) degree, not-true (bad_word p xss) words)

pub valid_degree : (p n : ℕ) (xss : List (List ℕ)) → valid p n xss ≡ true → n ≤ largest_degree
valid_degree p n xss h = (degree_given n (valid_given p n xss h).1).1

pub valid_size : (p n : ℕ) (xss : List (List ℕ)) → valid p n xss ≡ true → (2 ≤ p) × (p ≤ 2 ^ 20) × (1 ≤ n) × (n ≤ 16)
valid_size p n xss h =
    let (prime, degree, _) = valid_given p n xss h in
    let (p_prime, small) = prime_given p prime in
    (p_prime.0, omega arith, (degree_given n degree).0, (degree_given n degree).1)

pub valid_sent : (p n : ℕ) (xss : List (List ℕ)) → valid p n xss ≡ true → (n ≤ largest_degree → All (λ xs. length xs ≡ n) xss) → Sent p n xss xss
valid_sent p n xss h lengths =
    let (prime, degree, words) = valid_given p n xss h in
    record {
      prime = (prime_given p prime).0;
      small = (prime_given p prime).1;
      low = (degree_given n degree).0;
      high = (degree_given n degree).1;
      lengths = lengths (valid_degree p n xss h);
      below = below_given p xss words;
    }

pub sent_valid : (p n : ℕ) (xss yss : List (List ℕ)) → Sent p n xss yss → valid p n yss ≡ true
unfolding valid
sent_valid p n xss yss h = rw (given_prime p h.prime h.small, given_degree n h.low h.high, given_below p yss h.below)

-- the first n words of arrays

pub front_length : (n : ℕ) (xs : List ℕ) → length xs ≡ largest_degree → n ≤ largest_degree → length (take n xs) ≡ n
front_length n xs l h = length-take-le n xs (omega arith)

pub front_fits : (p n : ℕ) (xss : List (List ℕ)) → valid p n xss ≡ true → (xs : List ℕ) → length xs ≡ largest_degree → n ≤ length xs
front_fits p n xss h xs l = rw l (valid_degree p n xss h)

pub front_models : (p n : ℕ) (xs ys : List ℕ) → length xs ≡ largest_degree → length ys ≡ largest_degree → valid p n (take n xs ∷ take n ys ∷ []) ≡ true
    → (t1 t2 : List ℕ) → t1 ≡ take n xs → t2 ≡ take n ys → Models p n t1 t2
front_models p n xs ys l1 l2 h t1 t2 e1 e2 =
    rw (e1, e2)
    (sent_models p n (take n xs) (take n ys) [] [] (valid_sent p n _ h (λ small. (front_length n xs l1 small, (front_length n ys l2 small, tt)))))

pub maps_valid : (p n : ℕ) (t1 t2 s r : List ℕ) → valid p n (t1 ∷ t2 ∷ s ∷ r ∷ []) ≡ true
    → (valid p n (t2 ∷ s ∷ []) ≡ true) × (valid p n (t1 ∷ r ∷ []) ≡ true)
unfolding valid
maps_valid p n t1 t2 s r h =
    let (prime, degree, words) = valid_given p n (t1 ∷ t2 ∷ s ∷ r ∷ []) h in
    let below = below_given p (t1 ∷ t2 ∷ s ∷ r ∷ []) words in (
      rw (prime, degree, given_below p (t2 ∷ s ∷ []) (below.1.0, (below.1.1.0, tt))),
      rw (prime, degree, given_below p (t1 ∷ r ∷ []) (below.0, (below.1.1.1.0, tt))),
    )
