-- The pair that the finder chooses, by the one method or the other: the α of two models without proper divisors satisfy one relation, so that the pair exists, is what the searches find, and
-- satisfies the four congruences; and there is only one, since no degree belongs to both methods.
use mathlib.Core.Path.{◌≡◌}
use mathlib.Core.List.{List}
use mathlib.Core.Logic.{inl, inr}
use Prim.Native.Nat.{ℕ, zero, suc}
use native.Mathlib.Omega.{arith}
use Rattle.algebra.specs.Prime.{Prime}
use Rattle.array.specs.Words.{Words}
use Rattle.quotient.specs.Divisor.{HasDivisor}
use Rattle.galois.proofs.Exponent.{not_a_divisor}
use Rattle.galois.proofs.Generators.{Related}
use Rattle.finder.specs.Construct.{Size}
use Rattle.finder.specs.Finder.{Findable, generator, find_s, find_r}
use Rattle.finder.specs.Theorem.{PairOf, ChosenPair}
use Rattle.finder.proofs.Construction.{PairHolds, pair_exists, backward_is}
use Rattle.finder.proofs.Eigenvectors.{first_related, first_pair, first_holds, first_unique}
use Rattle.finder.proofs.Towers.{second_related, second_pair, second_holds, second_unique}

module _ {p n : ℕ} (h : Size p (suc n)) {t1 t2 : List ℕ} (w1 : Words p (suc n) t1) (w2 : Words p (suc n) t2) (irreducible1 : HasDivisor p t1 → ⊥) (irreducible2 : HasDivisor p t2 → ⊥) where
  pub generators_related : Related p (suc n) t1 t2 (generator p (suc n) t1) (generator p (suc n) t2)
  generators_related = by_method h.findable
    where
      by_method : Findable p (suc n) → Related p (suc n) t1 t2 (generator p (suc n) t1) (generator p (suc n) t2)
      by_method (inl divides) = first_related record { prime = h.prime; small = h.small; low = h.low; high = h.high; divides = divides } w1 w2 irreducible1 irreducible2
      by_method (inr (zero, low, size)) = absurd (omega arith)
      by_method (inr (suc k, low, size)) = second_related h.prime k size w1 w2 irreducible1 irreducible2

  found_pair : PairOf p (suc n) t1 t2 (generator p (suc n) t1) (generator p (suc n) t2) (find_s p (suc n) t1 t2) (find_r p (suc n) t1 t2)
  unfolding find_s find_r
  found_pair = pair_exists h.prime w1 w2 irreducible1 generators_related

  pub found_chosen : ChosenPair p (suc n) t1 t2 (find_s p (suc n) t1 t2) (find_r p (suc n) t1 t2)
  found_chosen = by_method h.findable found_pair
    where
      by_method : Findable p (suc n) → PairOf p (suc n) t1 t2 (generator p (suc n) t1) (generator p (suc n) t2) (find_s p (suc n) t1 t2) (find_r p (suc n) t1 t2)
          → ChosenPair p (suc n) t1 t2 (find_s p (suc n) t1 t2) (find_r p (suc n) t1 t2)
      by_method (inl divides) pair = inl (first_pair record { prime = h.prime; small = h.small; low = h.low; high = h.high; divides = divides } w1 w2 irreducible1 irreducible2 pair)
      by_method (inr (zero, low, size)) pair = absurd (omega arith)
      by_method (inr (suc k, low, size)) pair = inr (second_pair h.prime k size w1 w2 irreducible1 irreducible2 pair)

  -- R = P2(α1): with the models exchanged the pair is exchanged
  pub found_exchanged : find_r p (suc n) t1 t2 ≡ find_s p (suc n) t2 t1
  unfolding find_s find_r
  found_exchanged = backward_is h.prime w1 w2 irreducible1 generators_related

module _ {p n : ℕ} {t1 t2 : List ℕ} (prime : Prime p) (w1 : Words p (suc n) t1) (w2 : Words p (suc n) t2) where
  pub chosen_holds : {s r : List ℕ} → ChosenPair p (suc n) t1 t2 s r → PairHolds p (suc n) t1 t2 s r
  chosen_holds (inl h) = first_holds prime w1 w2 h
  chosen_holds (inr h) = second_holds prime w1 w2 h

  pub chosen_unique : {s r s' r' : List ℕ} → ChosenPair p (suc n) t1 t2 s r → ChosenPair p (suc n) t1 t2 s' r' → (s ≡ s') × (r ≡ r')
  chosen_unique (inl h) (inl h') = first_unique prime w1 w2 h h'
  chosen_unique (inl h) (inr h') = absurd (not_a_divisor p (suc n) prime.0 (h'.k, h'.k_is.0, h'.k_is.1) h.divides)
  chosen_unique (inr h) (inl h') = absurd (not_a_divisor p (suc n) prime.0 (h.k, h.k_is.0, h.k_is.1) h'.divides)
  chosen_unique (inr h) (inr h') = second_unique prime w1 w2 h h'
