-- When the finder refuses: a factorisation of T shows the divisor of refusals 6 and 7; refusal 5 comes before them, so it depends on p and n only.
use mathlib.Core.Path.{◌≡◌, refl, ap, ◌∙◌}
use mathlib.Core.Bool.{true, false}
use mathlib.Core.List.{List, [], ◌∷◌}
use Prim.Native.Nat.{ℕ, ◌%◌, ◌<◌, ◌≤◌}
use lib.ListN.{length, get_or}
use Rattle.finder.specs.Finder.{findable, refuse_find, find_number}
use Rattle.finder.proofs.Findable.{find_models}
use Rattle.refusal.specs.Models.{Models}
use Rattle.refusal.proofs.Order.{prime_given, degree_given}
use Rattle.refusal.specs.Refusal.{bad_prime, bad_degree, bad_word}
use Rattle.quotient.specs.Divisor.{monic, polynomial_product}
use Rattle.quotient.specs.DivisorTest.{has_divisor}
use Rattle.array.specs.Words.{Words}
use Rattle.quotient.proofs.Decision.{has_divisor_test}
use Rattle.refusal.proofs.Lists.{words_of, below_given}

pub words_counted : (p : ℕ) (u : List ℕ) → bad_word p (u ∷ []) ≡ false → Words p (length u) u
words_counted p u h = words_of p (length u) u refl (below_given p (u ∷ []) h).0

-- D·E = T with D of degree 1 to n − 1
pub factor_divides : (p : ℕ) (d e t : List ℕ) → 2 ≤ p → bad_word p (d ∷ []) ≡ false → bad_word p (t ∷ []) ≡ false
    → 0 < length d → length d < length t → polynomial_product p (monic d) e ≡ monic t → has_divisor p t ≡ true
factor_divides p d e t big words_d words_t low high product =
    has_divisor_test big (words_counted p t words_t) (length d, low, high, d, words_counted p d words_d, (e, λ i. ap (λ f. get_or f i 0 % p) product))

-- the finder's number for two models, from what its conditions say
module _ {p n : ℕ} {t1 t2 : List ℕ} (prime : bad_prime p ≡ false) (degree : bad_degree n ≡ false) (w1 : Words p n t1) (w2 : Words p n t2) where
  pub models : Models p n t1 t2
  models =
      let (is_prime_lem, small) = prime_given p prime in
      record { prime = is_prime_lem; small = small; degree = degree_given n degree; modulus1 = w1; modulus2 = w2 }

  module _ (lent_s lent_r : List ℕ) (length_s : length lent_s ≡ n) (length_r : length lent_r ≡ n) where
    after_four : find_number p n t1 t2 lent_s lent_r ≡ refuse_find p n t1 t2
    after_four = find_models p n t1 t2 models lent_s lent_r length_s length_r

    -- n neither divides p − 1 nor is a power of p
    pub indivisible_refused : findable p n ≡ false → find_number p n t1 t2 lent_s lent_r ≡ 5
    indivisible_refused not_divides = after_four ∙ rw not_divides

    -- T1 has a proper divisor
    pub divisor_refused : findable p n ≡ true → has_divisor p t1 ≡ true → find_number p n t1 t2 lent_s lent_r ≡ 6
    divisor_refused divides divisor = after_four ∙ rw (divides, divisor)

    -- only T2 has one
    pub second_refused : findable p n ≡ true → has_divisor p t1 ≡ false → has_divisor p t2 ≡ true → find_number p n t1 t2 lent_s lent_r ≡ 7
    second_refused divides first second = after_four ∙ rw (divides, first, second)
