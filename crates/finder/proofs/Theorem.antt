-- The proof of demand 3, as specs/Theorem.antt states it. The checker's half is the theorem of the crate pair. The finder's answer is 0 exactly when
-- none of its refusals applies; for two models of a size that the finder takes only 6 and 7 are left, which test for proper divisors, and the test is exact.
-- Without those the searches find the chosen pair, it satisfies the congruences, and the checker accepts it; so it does with every other scaling's pair.
--   Returned p n t1 t2   what the answer 0 says of two models
--   decided              for such a size, what 6 and 7 say is the answer
use mathlib.Core.Path.{◌≡◌, refl, sym, ap, subst₂, ◌∙◌}
use mathlib.Core.Bool.{Bool, true, false}
use mathlib.Core.List.{List, [], ◌∷◌}
use mathlib.Core.Logic.{◌↔◌}
use Prim.Native.Nat.{ℕ}
use native.Mathlib.Omega.{arith}
use lib.ListN.{length}
use Rattle.refusal.specs.Refusal.{refuse, written}
use Rattle.pair.specs.Pair.{check_number}
use Rattle.refusal.specs.Models.{Models}
use Rattle.pair.proofs.Theorem.{checker_theorem}
use Rattle.quotient.specs.Divisor.{HasDivisor}
use Rattle.quotient.specs.DivisorTest.{has_divisor}
use Rattle.refusal.proofs.Order.{sent_given}
use Rattle.quotient.proofs.Decision.{test_has_divisor, has_divisor_test, test_irreducible, irreducible_test}
use Rattle.finder.specs.Finder.{Findable, refuse_find, find_s, find_r, find_number, find_output_s, find_output_r}
use Rattle.finder.specs.Stored.{EveryScalingAccepted}
use Rattle.finder.specs.Theorem.{ChosenPair, Demand3Theorem}
use Rattle.finder.proofs.Values.{PairLaws, pair_laws}
use Rattle.finder.proofs.Construction.{PairHolds}
use Rattle.finder.proofs.Findable.{findable-true, none_apply, find_models, models_size}

record Returned (p n : ℕ) (t1 t2 : List ℕ) : Type 0 where
  findable : Findable p n
  irreducible1 : HasDivisor p t1 → ⊥
  irreducible2 : HasDivisor p t2 → ⊥

-- which of 6 and 7 applies
six_says : (a b : Bool) → refuse 6 a (refuse 7 b 0) ≡ 6 → a ≡ true
six_says true b h = refl
six_says false true h = absurd (omega arith)
six_says false false h = absurd (omega arith)

seven_says : (a b : Bool) → refuse 6 a (refuse 7 b 0) ≡ 7 → (a ≡ false) × (b ≡ true)
seven_says true b h = absurd (omega arith)
seven_says false true h = (refl, refl)
seven_says false false h = absurd (omega arith)

module _ (p n : ℕ) (t1 t2 : List ℕ) (models : Models p n t1 t2) (lent_s lent_r : List ℕ) where
  returned : find_number p n t1 t2 lent_s lent_r ≡ 0 → Returned p n t1 t2
  unfolding find_number
  returned h =
      let (_, h5) = sent_given p n (t1 ∷ t2 ∷ lent_s ∷ lent_r ∷ []) (t1 ∷ t2 ∷ []) _ h in
      let (findable, first, second) = none_apply p n t1 t2 h5 in
      record {
        findable = findable;
        irreducible1 = test_irreducible models.prime.0 models.modulus1 first;
        irreducible2 = test_irreducible models.prime.0 models.modulus2 second;
      }

  module _ (findable : Findable p n) (length_s : length lent_s ≡ n) (length_r : length lent_r ≡ n) where
    decided : find_number p n t1 t2 lent_s lent_r ≡ refuse 6 (has_divisor p t1) (refuse 7 (has_divisor p t2) 0)
    decided = find_models p n t1 t2 models lent_s lent_r length_s length_r ∙ rw (findable-true p n models.prime.0 findable)

    none1 : (HasDivisor p t1 → ⊥) → has_divisor p t1 ≡ false
    none1 = irreducible_test models.prime.0 models.modulus1

    returns : (HasDivisor p t1 → ⊥) → (HasDivisor p t2 → ⊥) → find_number p n t1 t2 lent_s lent_r ≡ 0
    returns irreducible1 irreducible2 = decided ∙ rw (none1 irreducible1, irreducible_test models.prime.0 models.modulus2 irreducible2)

    six : (find_number p n t1 t2 lent_s lent_r ≡ 6) ↔ HasDivisor p t1
    six = (
      λ h. test_has_divisor models.prime.0 models.modulus1 (six_says (has_divisor p t1) (has_divisor p t2) (sym decided ∙ h)),
      λ d. decided ∙ rw (has_divisor_test models.prime.0 models.modulus1 d),
    )

    seven : (find_number p n t1 t2 lent_s lent_r ≡ 7) ↔ ((HasDivisor p t1 → ⊥) × HasDivisor p t2)
    seven = (
      λ h.
          let (first, second) = seven_says (has_divisor p t1) (has_divisor p t2) (sym decided ∙ h) in
          (test_irreducible models.prime.0 models.modulus1 first, test_has_divisor models.prime.0 models.modulus2 second),
      λ d. decided ∙ rw (none1 d.0, has_divisor_test models.prime.0 models.modulus2 d.1),
    )

module _ (p n : ℕ) (t1 t2 : List ℕ) (models : Models p n t1 t2) where
  laws : PairLaws p n t1 t2
  laws = pair_laws p models.prime n models.degree.0 t1 t2 models.modulus1 models.modulus2

  accepted : {s r : List ℕ} → PairHolds p n t1 t2 s r → check_number p n t1 t2 s r ≡ 0
  accepted {s} {r} h =
      (checker_theorem p n t1 t2 s r).1 record { models = models; words_s = h.words.0; words_r = h.words.1 } h.irreducible1 h.irreducible2 h.congruences

  -- the pair that is found is chosen, and the checker accepts it
  found_accepted : Findable p n → (HasDivisor p t1 → ⊥) → (HasDivisor p t2 → ⊥)
      → ChosenPair p n t1 t2 (find_s p n t1 t2) (find_r p n t1 t2) × (check_number p n t1 t2 (find_s p n t1 t2) (find_r p n t1 t2) ≡ 0)
  found_accepted findable irreducible1 irreducible2 =
      let h : ChosenPair p n t1 t2 (find_s p n t1 t2) (find_r p n t1 t2) = laws.chosen (models_size p n t1 t2 models findable) irreducible1 irreducible2 in
      (h, accepted (laws.chosen_pair h))

-- where 5 to 7 do not apply to two models, the checker accepts the pair
pub accepted_pair : (p n : ℕ) (t1 t2 : List ℕ) → Models p n t1 t2 → refuse_find p n t1 t2 ≡ 0 → check_number p n t1 t2 (find_s p n t1 t2) (find_r p n t1 t2) ≡ 0
accepted_pair p n t1 t2 models h =
    let (findable, first, second) = none_apply p n t1 t2 h in
    (found_accepted p n t1 t2 models findable (test_irreducible models.prime.0 models.modulus1 first) (test_irreducible models.prime.0 models.modulus2 second)).1

-- where the number is 0 the lent lists hold what is found
module _ (p n : ℕ) (t1 t2 lent_s lent_r : List ℕ) (zero_number : find_number p n t1 t2 lent_s lent_r ≡ 0) where
  output_s : find_output_s p n t1 t2 lent_s lent_r ≡ find_s p n t1 t2
  unfolding find_output_s
  output_s = ap (λ k. written k (find_s p n t1 t2) lent_s) zero_number

  output_r : find_output_r p n t1 t2 lent_s lent_r ≡ find_r p n t1 t2
  unfolding find_output_r
  output_r = ap (λ k. written k (find_r p n t1 t2) lent_r) zero_number

pub demand_3 : Demand3Theorem
demand_3 p n t1 t2 models =
    record {
      accepted = λ s r h. ((checker_theorem p n t1 t2 s r).0 h).3;
      returns = λ findable lent_s lent_r length_s length_r. (
        λ h. let c : Returned p n t1 t2 = returned p n t1 t2 models lent_s lent_r h in (c.irreducible1, c.irreducible2),
        λ i. returns p n t1 t2 models lent_s lent_r findable length_s length_r i.0 i.1,
      );
      six = λ findable lent_s lent_r length_s length_r. six p n t1 t2 models lent_s lent_r findable length_s length_r;
      seven = λ findable lent_s lent_r length_s length_r. seven p n t1 t2 models lent_s lent_r findable length_s length_r;
      found = λ lent_s lent_r h.
          let c : Returned p n t1 t2 = returned p n t1 t2 models lent_s lent_r h in
          subst₂ (λ s r. ChosenPair p n t1 t2 s r × (check_number p n t1 t2 s r ≡ 0)) (sym (output_s p n t1 t2 lent_s lent_r h)) (sym (output_r p n t1 t2 lent_s lent_r h))
          (found_accepted p n t1 t2 models c.findable c.irreducible1 c.irreducible2);
      only_one = (laws p n t1 t2 models).only_one;
    }

pub every_scaling_accepted : EveryScalingAccepted
every_scaling_accepted p n t1 t2 models s r h = accepted p n t1 t2 models ((laws p n t1 t2 models).scaled_pair h)
