-- The parts of Rabin's test together decide whether T has a divisor of degree 1 to n − 1: Rabin's criterion, where the primes up to 16 are enough.
use Rattle.std.specs.List as List
use Rattle.std.proofs.Common.{◌↔◌, IsTrue}
use mathlib.Core.Path.{◌≡◌, refl, sym, ap, subst, ◌∙◌}
use mathlib.Core.Bool.{Bool, true, false, not, false≢true}
use mathlib.Core.List.{List, [], ◌∷◌}
use Prim.Native.Nat.{ℕ, zero, suc, ◌/◌, ◌%◌, ◌≤◌}
use native.Mathlib.Omega.{arith}
use lib.ListN.{length, take}
use borrow.Author.Tests.{not-true, not-false}
use Rattle.algebra.specs.Lists.{All, equal}
use Rattle.algebra.specs.Prime.{Prime}
use Rattle.algebra.proofs.Equality.{equal_of, of_equal}
use Rattle.algebra.proofs.Lists.{all_member, member_all}
use Rattle.array.specs.Array.{Holds}
use Rattle.array.specs.Words.{Words}
use Rattle.array.proofs.Words.{words_length}
use Rattle.quotient.specs.Divisor.{HasDivisor}
use Rattle.quotient.specs.DivisorTest.{has_divisor}
use Rattle.quotient.specs.Residue.{residue_of_x, HasInverse}
use Rattle.quotient.proofs.Decision.{test_has_divisor, test_irreducible}
use Rattle.irreducible.specs.Rabin.{conjugate_of_x, difference, Passes, Rabin}
use Rattle.irreducible.proofs.Criterion.{irreducible_rabin, rabin_irreducible}
use Rattle.irreducible.proofs.rabin.Primes.{primes, prime_listed, listed_prime, divisor_small}

-- of each number of a list, by its place

of_places : (P : ℕ → Type 0) (xs : List ℕ) → List.All P xs → All P xs
of_places P [] h = tt
of_places P (x ∷ xs) h = (h 0 x (omega arith), of_places P xs (λ k d l. h (suc k) d (omega arith)))

at_places : (P : ℕ → Type 0) (xs : List ℕ) → All P xs → List.All P xs
at_places P [] h k d l = absurd (omega arith)
at_places P (x ∷ xs) h zero d l = h.0
at_places P (x ∷ xs) h (suc k) d l = at_places P xs h.1 k d (omega arith)

module _ (p n : ℕ) (t : List ℕ) (prime : Prime p) (some : 1 ≤ n) (short : n ≤ 16) (ht : Holds p n t) where
  abbrev T : List ℕ
  T = take n t

  rabin_of : Words p n T → (HasDivisor p T → ⊥) → Rabin p T
  rabin_of = by_degree n some
    where
      by_degree : (k : ℕ) → 1 ≤ k → Words p k T → (HasDivisor p T → ⊥) → Rabin p T
      by_degree zero low w h = absurd (omega arith)
      by_degree (suc k) low w h = irreducible_rabin prime w h

  of_rabin : Words p n T → Rabin p T → HasDivisor p T → ⊥
  of_rabin = by_degree n some
    where
      by_degree : (k : ℕ) → 1 ≤ k → Words p k T → Rabin p T → HasDivisor p T → ⊥
      by_degree zero low w h = absurd (omega arith)
      by_degree (suc k) low w h = rabin_irreducible prime w h

  size : length T ≡ n
  size = words_length ht.words

  -- where X^(p^n) is not X, T has a divisor
  pub not_fixed : (b : Bool) → b ≡ equal (conjugate_of_x p T n) (residue_of_x p T) → not b ≡ true → false ≡ not (has_divisor p T)
  not_fixed b e f = by_test (has_divisor p T) refl
    where
      by_test : (c : Bool) → has_divisor p T ≡ c → false ≡ not (has_divisor p T)
      by_test true g = sym (ap not g)
      by_test false g =
          let rabin : Rabin p T = rabin_of ht.words (test_irreducible prime.0 ht.words g) in
          let fixed : conjugate_of_x p T n ≡ residue_of_x p T = ap (conjugate_of_x p T) (sym size) ∙ rabin.fixed in
          absurd (false≢true (sym (not-true b f) ∙ e ∙ equal_of fixed))

  module _ (b : Bool) (e : b ≡ equal (conjugate_of_x p T n) (residue_of_x p T)) (f : not b ≡ false) where
    -- the primes up to 16 are enough
    rabin_passes : All (Passes p n T) primes → Rabin p T
    unfolding Passes
    rabin_passes h =
        record {
          fixed = ap (conjugate_of_x p T) size ∙ of_equal (conjugate_of_x p T n) (residue_of_x p T) (sym e ∙ not-false b f);
          inverses = λ q prime_q divides.
              let here : n % q ≡ 0 = rw size at divides in
              subst (λ k. HasInverse p T (difference p T (k / q))) (sym size)
              (all_member (Passes p n T) primes h q (prime_listed q prime_q (omega (arith, divisor_small n q some here))) here);
        }

    passes_rabin : Rabin p T → All (Passes p n T) primes
    unfolding Passes
    passes_rabin rabin =
        member_all (Passes p n T) primes (λ q m here.
        subst (λ k. HasInverse p T (difference p T (k / q))) size (rabin.inverses q (listed_prime q m) (rw size here)))

    pub passes_decide : (r : Bool) → (IsTrue r ↔ List.All (Passes p n T) primes) → r ≡ not (has_divisor p T)
    passes_decide true d = by_test (has_divisor p T) refl
      where
        by_test : (c : Bool) → has_divisor p T ≡ c → true ≡ not (has_divisor p T)
        by_test true g = absurd (of_rabin ht.words (rabin_passes (of_places (Passes p n T) primes (d.0 refl))) (test_has_divisor prime.0 ht.words g))
        by_test false g = sym (ap not g)
    passes_decide false d = by_test (has_divisor p T) refl
      where
        by_test : (c : Bool) → has_divisor p T ≡ c → false ≡ not (has_divisor p T)
        by_test true g = sym (ap not g)
        by_test false g =
            absurd (false≢true (d.1 (at_places (Passes p n T) primes (passes_rabin (rabin_of ht.words (test_irreducible prime.0 ht.words g))))))
