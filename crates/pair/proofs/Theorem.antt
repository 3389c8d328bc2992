-- The proofs of what specs/Theorem.antt states.
use mathlib.Core.Path.{◌≡◌, ◌∙◌}
use mathlib.Core.Bool.{false, not}
use mathlib.Core.List.{[], ◌∷◌}
use Rattle.quotient.specs.Divisor.{HasDivisor}
use Rattle.quotient.specs.DivisorTest.{has_divisor}
use Rattle.quotient.proofs.Decision.{has_divisor?, irreducible_test, test_irreducible}
use Rattle.refusal.proofs.Order.{refuse_none, sent_given, given_sent}
use Rattle.pair.specs.Pair.{Congruences, congruences_hold, refuse_pair, check_number_or}
use Rattle.pair.specs.Theorem.{CheckerTheorem, CongruencesTheorem, DivisorsTogether, DegreeOne}
use Rattle.pair.proofs.CongruenceTest.{hold_of_congruences, congruences_of_hold, isomorphisms_of_congruences}
use Rattle.pair.proofs.DegreeOne.{x_is_constant, accepted_degree_one}
use Rattle.pair.proofs.Fields.{irreducible_forth, irreducible_back, isomorphisms_given, fields_given}
use Rattle.refusal.proofs.Models.{given, all_sent}
use Rattle.refusal.specs.Models.{Given}
use borrow.Author.Tests.{not-false}

pub checker_theorem : CheckerTheorem
unfolding check_number_or
checker_theorem p n t1 t2 s r = (
  λ h.
      let (sent, end) = sent_given p n (t1 ∷ t2 ∷ s ∷ r ∷ []) (t1 ∷ t2 ∷ s ∷ r ∷ []) _ h in
      let g : Given p n t1 t2 s r = given p n t1 t2 s r sent in
      let (first, end2) = refuse_none 5 (has_divisor p t1) _ end in
      let (second, end3) = refuse_none 6 (has_divisor p t2) _ end2 in
      let none1 : HasDivisor p t1 → ⊥ = test_irreducible g.models.prime.0 g.models.modulus1 first in
      let none2 : HasDivisor p t2 → ⊥ = test_irreducible g.models.prime.0 g.models.modulus2 second in
      let c : Congruences p t1 t2 s r = congruences_of_hold p t1 t2 s r (not-false (congruences_hold p t1 t2 s r) (refuse_none 7 (not (congruences_hold p t1 t2 s r)) 0 end3).0) in
      (g, fields_given p n t1 t2 s r g none1 none2, c, isomorphisms_given p n t1 t2 s r g c),
  λ g none1 none2 c.
      let first : has_divisor p t1 ≡ false = irreducible_test g.models.prime.0 g.models.modulus1 none1 in
      let second : has_divisor p t2 ≡ false = irreducible_test g.models.prime.0 g.models.modulus2 none2 in
      let end : refuse_pair p t1 t2 s r ≡ 0 = rw (first, second, hold_of_congruences p t1 t2 s r c) in
      given_sent p n (t1 ∷ t2 ∷ s ∷ r ∷ []) (t1 ∷ t2 ∷ s ∷ r ∷ []) _ (all_sent p n t1 t2 s r g) ∙ end,
)

pub congruences_theorem : CongruencesTheorem
congruences_theorem p n t1 t2 s r big some w1 w2 ws wr c = isomorphisms_of_congruences big n some w1 w2 ws wr c

pub divisors_together : DivisorsTogether
divisors_together p n t1 t2 s r g c =
    let iso = isomorphisms_given p n t1 t2 s r g c in (
      λ h. decided (has_divisor? g.models.prime.0 g.models.modulus2)
          (λ none. irreducible_back g.models.prime g.models.degree.0 g.models.modulus1 g.models.modulus2 g.words_s g.words_r iso none h),
      λ h. decided (has_divisor? g.models.prime.0 g.models.modulus1)
          (λ none. irreducible_forth g.models.prime g.models.degree.0 g.models.modulus1 g.models.modulus2 g.words_s g.words_r iso none h),
    )
  where
    decided : {A : Type 0} → Dec A → ((A → ⊥) → ⊥) → A
    decided (yes a) h = a
    decided (no none) h = absurd (h none)

pub degree_one : DegreeOne
degree_one p a b c d big ha hb hc hd = (x_is_constant big ha, accepted_degree_one big ha hb hc hd)
