-- The refusals that calls share (document 01, "Caused by what was sent"). "The first that applies is returned."
--   refuse k b rest      k where the condition b applies, else what comes after it; the last is 0, a call that succeeds
--   bad_prime p          1: p is below 2, above 1,048,575 or not prime
--   largest_degree       16
--   is_degree n          n is 1 to 16
--   bad_degree n         2: n is not 1 to 16
--   bad_length n xss     3: a list of coefficients, read or written, has the wrong length
--   bad_word p xss       4: a coefficient is p or more
--   refuse_sent p n xss yss rest        1 to 4 in their order, for a call with the lists xss, of which yss are read; then what comes after
--   refuse_sent_or b p n xss yss rest   the same where 3 also covers b: a list that is not to have n words has the wrong length
--   written k new old    what a lent list holds after a call with the number k: new where k is 0, else what it held
use Rattle.std.specs.Prelude.{Bool, true, false, ◌&&◌, ◌||◌, not, List, ℕ, leb, eqb, length}
use Rattle.algebra.specs.Lists.{all}
use Rattle.modular.specs.Prime.{is_prime}
use Rattle.array.specs.Words.{all_below}

abbrev pub refuse : ℕ → Bool → ℕ → ℕ
refuse k true rest = k
refuse k false rest = rest

unfoldable pub bad_prime : ℕ → Bool
bad_prime p = not (is_prime p)

abbrev pub largest_degree : ℕ
largest_degree = 16

unfoldable pub is_degree : ℕ → Bool
is_degree n = leb 1 n && leb n largest_degree

unfoldable pub bad_degree : ℕ → Bool
bad_degree n = not (is_degree n)

unfoldable pub bad_length : ℕ → List (List ℕ) → Bool
bad_length n xss = not (all (λ xs. eqb (length xs) n) xss)

unfoldable pub bad_word : ℕ → List (List ℕ) → Bool
bad_word p xss = not (all (all_below p) xss)

abbrev pub refuse_sent_or : Bool → ℕ → ℕ → List (List ℕ) → List (List ℕ) → ℕ → ℕ
refuse_sent_or b p n xss yss rest =
    refuse 1 (bad_prime p) (refuse 2 (bad_degree n) (refuse 3 (b || bad_length n xss) (refuse 4 (bad_word p yss) rest)))

abbrev pub refuse_sent : ℕ → ℕ → List (List ℕ) → List (List ℕ) → ℕ → ℕ
refuse_sent p n xss yss rest = refuse_sent_or false p n xss yss rest

abbrev pub pick : Bool → List ℕ → List ℕ → List ℕ
pick true new old = new
pick false new old = old

abbrev pub written : ℕ → List ℕ → List ℕ → List ℕ
written k new old = pick (eqb k 0) new old
