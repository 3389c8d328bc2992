-- The answers of the two calls: a refusal by p and n stays, and else what the sieve left unmarked are the models.
use mathlib.Core.Path.{◌≡◌, refl, sym, ap, ◌∙◌}
use mathlib.Core.Bool.{false, not}
use mathlib.Core.List.{List, map, flatten}
use Prim.Native.Nat.{ℕ, ◌-◌, ◌*◌, ◌^◌, ◌≤◌, ◌<◌}
use native.Mathlib.Nat.{mul-le-mul}
use native.Mathlib.Omega.{arith}
use borrow.Author.Tests.{ltb-false, eqb-true, eq-eqb, ne_eqb, not-false}
use lib.Dec.{eqb, ltb}
use lib.ListN.{length}
use Rattle.array.specs.Digits.{digits}
use Rattle.refusal.specs.Number.{number}
use Rattle.refusal.specs.Refusal.{refuse, bad_prime, bad_degree}
use Rattle.refusal.specs.declared.number.Refusal.{Refusal}
use Rattle.refusal.proofs.Order.{refuse_none, prime_bounds, degree_given, Follows, passed, follows_next, follows_stays, follows_passes}
use Rattle.refusal.proofs.Refused.{refused}
use Rattle.refusal.proofs.Written.{output_new, output_old}
use Rattle.sieve.specs.Clauses.{Sieved}
use Rattle.catalogue.specs.Catalogue.{most_polynomials, models, count_number, model_count, list_number, list_output}
use Rattle.catalogue.specs.Marks.{unmarked}
use Rattle.catalogue.proofs.Unmarked.{unmarked-models, unmarked_count}

-- what the number 0 leaves of p and n
module _ (p n : ℕ) (h : 0 ≡ count_number p n) where
  none_applies : (bad_prime p ≡ false) × (bad_degree n ≡ false) × (ltb most_polynomials (p ^ n) ≡ false)
  unfolding count_number
  none_applies =
      let (prime, after1) = refuse_none 0 (bad_prime p) _ (sym h) in
      let (degree, after2) = refuse_none 1 (bad_degree n) _ after1 in
      (prime, degree, (refuse_none 28 (ltb most_polynomials (p ^ n)) 0 after2).0)

  pub prime_low : 2 ≤ p
  prime_low = (prime_bounds p none_applies.0).0

  pub prime_positive : 1 ≤ p
  prime_positive = omega (arith, prime_low)

  pub degree_low : 1 ≤ n
  degree_low = (degree_given n none_applies.1).0

  pub degree_high : n ≤ 16
  degree_high = (degree_given n none_applies.1).1

  pub power_few : p ^ n ≤ 65536
  power_few = ltb-false most_polynomials (p ^ n) none_applies.2

  pub size_few : (size : ℕ) → size ≡ p ^ n → size ≤ 65536
  size_few size power = rw power power_few

module _ (p n : ℕ) where
  pub count_is : count_number p n ≡ 0 → model_count p n ≡ length (models p n)
  unfolding model_count
  count_is h = rw (model_count, eq-eqb (count_number p n) 0 h)

  module _ (out : List ℕ) where
    -- 3 comes after the refusals by p and n
    chain : Follows (refuse 3 (not (eqb (length out) (n * length (models p n)))) 0) (count_number p n) (list_number p n out)
    unfolding count_number list_number
    chain = follows_next 0 (bad_prime p) (follows_next 1 (bad_degree n) (follows_next 28 (ltb most_polynomials (p ^ n)) passed))

    module _ (h : count_number p n ≡ 0) where
      pub list_accepts : length out ≡ n * length (models p n) → list_number p n out ≡ 0
      list_accepts e = follows_passes chain h ∙ ap (λ b. refuse 3 (not b) 0) (eq-eqb (length out) (n * length (models p n)) e)

      pub accepted_length : list_number p n out ≡ 0 → length out ≡ n * length (models p n)
      accepted_length z =
          let right : not (eqb (length out) (n * length (models p n))) ≡ false = (refuse_none 2 (not (eqb (length out) (n * length (models p n)))) 0 (sym (follows_passes chain h) ∙ z)).0 in
          eqb-true (length out) (n * length (models p n)) (not-false (eqb (length out) (n * length (models p n))) right)

      list_refuses : (length out ≡ n * length (models p n) → ⊥) → list_number p n out ≡ 3
      list_refuses e = follows_passes chain h ∙ ap (λ b. refuse 3 (not b) 0) (ne_eqb (length out) (n * length (models p n)) e)

  -- refused by p and n, the count is 0
  pub count_refused : (count_number p n ≡ 0 → ⊥) → 0 ≡ model_count p n
  unfolding model_count
  count_refused h = rw (model_count, ne_eqb (count_number p n) 0 h)

  module _ (x : Refusal) (h : number x ≡ count_number p n) where
    pub list_refused : (out : List ℕ) → number x ≡ list_number p n out
    list_refused out = follows_stays (chain out) (number x) h (refused x)

    pub output_refused : (out : List ℕ) → out ≡ list_output p n out
    unfolding list_output
    output_refused out = output_old (number x) (list_number p n out) (flatten (models p n)) out (list_refused out) (refused x)

  -- not refused by them
  module _ (number_none : 0 ≡ count_number p n) where
    module _ (marks : List ℕ) (sieved : Sieved p n marks) (size count : ℕ) (power : size ≡ p ^ n) (counted : count ≡ length (unmarked size marks)) where
      models_counted : count ≡ length (models p n)
      models_counted = counted ∙ ap (λ k. length (unmarked k marks)) power ∙ unmarked_count p n marks sieved

      pub count_given : count ≡ model_count p n
      count_given = models_counted ∙ sym (count_is (sym number_none))

      module _ (out : List ℕ) where
        pub list_three : (length out ≡ n * count → ⊥) → 3 ≡ list_number p n out
        list_three f = sym (list_refuses out (sym number_none) (λ g. f (g ∙ ap (λ k. n * k) (sym models_counted))))

        pub output_three : (length out ≡ n * count → ⊥) → out ≡ list_output p n out
        unfolding list_output
        output_three f = output_old 3 (list_number p n out) (flatten (models p n)) out (list_three f) (λ g. omega arith)

        module _ (room : length out ≡ n * count) where
          pub list_none : 0 ≡ list_number p n out
          list_none = sym (list_accepts out (sym number_none) (room ∙ ap (λ k. n * k) models_counted))

          pub output_given : (after : List ℕ) → after ≡ flatten (map (digits p n) (unmarked size marks)) → after ≡ list_output p n out
          unfolding list_output
          output_given after f =
              output_new 0 (list_number p n out) (flatten (models p n)) out after list_none refl
              (f ∙ ap (λ k. flatten (map (digits p n) (unmarked k marks))) power ∙ ap flatten (unmarked-models p n marks sieved))

-- the list has the length that `write_unmarked` asks for
pub room_given : (n size count : ℕ) (marks out : List ℕ) → count ≡ length (unmarked size marks) → length out ≡ n * count → length out ≡ n * length (unmarked size marks)
room_given n size count marks out counted room = room ∙ ap (λ k. n * k) counted

-- the product of two 32-bit numbers
pub product_fits : (n count : ℕ) → n < 2 ^ 32 → count < 2 ^ 32 → n * count < 2 ^ 64
product_fits n count h k =
    let a : n ≤ 2 ^ 32 - 1 = omega arith in
    let b : count ≤ 2 ^ 32 - 1 = omega arith in
    omega (arith, mul-le-mul a b)
