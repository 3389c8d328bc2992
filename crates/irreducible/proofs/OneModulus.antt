-- The call for one modulus: what 1 to 4 leave, and the number after them.
use mathlib.Core.Path.{◌≡◌, sym, ap, ◌∙◌}
use mathlib.Core.Bool.{Bool, true, false, not}
use mathlib.Core.List.{List, [], ◌∷◌}
use Prim.Native.Nat.{ℕ, ◌^◌, ◌≤◌}
use native.Mathlib.Omega.{arith}
use borrow.Author.Tests.{not-true, not-false}
use lib.ListN.{length, take}
use Rattle.array.specs.Array.{padded, Holds}
use Rattle.array.proofs.Padded.{front_is, holds_is}
use Rattle.array.proofs.Words.{words_length}
use Rattle.quotient.specs.DivisorTest.{has_divisor}
use Rattle.refusal.specs.Refusal.{refuse, refuse_sent}
use Rattle.refusal.proofs.Models.{sent_model}
use Rattle.refusal.proofs.Order.{Sent, sent_given, given_sent, sent_stays}
use Rattle.refusal.specs.Models.{Model}
use Rattle.irreducible.specs.Irreducible.{irreducible_number}

module _ (p n : ℕ) (t : List ℕ) where
  pub one_refused : (k : ℕ) → k ≡ refuse_sent p n (t ∷ []) (t ∷ []) 0 → (k ≡ 0 → ⊥) → k ≡ irreducible_number p n t
  unfolding irreducible_number
  one_refused k e h = sent_stays p n (t ∷ []) (t ∷ []) _ k e h

  module _ (e : 0 ≡ refuse_sent p n (t ∷ []) (t ∷ []) 0) where
    sent : Sent p n (t ∷ []) (t ∷ [])
    sent = (sent_given p n (t ∷ []) (t ∷ []) 0 (sym e)).0

    pub one_given : Model p n t
    one_given = sent_model p n t sent

    module _ (b : Bool) (f : b ≡ not (has_divisor p t)) where
      decided : irreducible_number p n t ≡ refuse 6 (has_divisor p t) 0
      unfolding irreducible_number
      decided = given_sent p n (t ∷ []) (t ∷ []) _ sent

      pub one_accepted : b ≡ true → 0 ≡ irreducible_number p n t
      one_accepted g = sym (decided ∙ ap (λ c. refuse 6 c 0) (not-true (has_divisor p t) (sym f ∙ g)))

      pub one_six : b ≡ false → 6 ≡ irreducible_number p n t
      one_six g = sym (decided ∙ ap (λ c. refuse 6 c 0) (not-false (has_divisor p t) (sym f ∙ g)))

-- the array that holds the list

module _ (p n : ℕ) (t : List ℕ) (h : Model p n t) where
  pub model_short : length t ≤ 16
  model_short = omega (arith, words_length h.modulus, h.degree.1)

  pub model_range : (p ≤ 2 ^ 20) × (1 ≤ n) × (n ≤ 16)
  model_range = (omega (arith, h.small), h.degree.0, h.degree.1)

  module _ (a : List ℕ) (e : a ≡ padded t) where
    pub model_holds : Holds p n a
    model_holds = holds_is e h.modulus

    pub model_decides : (b : Bool) → b ≡ not (has_divisor p (take n a)) → b ≡ not (has_divisor p t)
    model_decides b f = f ∙ ap (λ u. not (has_divisor p u)) (front_is e h.modulus)
