-- The checker's refusals: what 1 to 4 leave, and the number after them.
use mathlib.Core.Path.{◌≡◌, refl, sym, ◌∙◌}
use mathlib.Core.Bool.{Bool, true, false, not}
use mathlib.Core.List.{List, [], ◌∷◌}
use Prim.Native.Nat.{ℕ, ◌^◌, ◌≤◌}
use native.Mathlib.Omega.{arith}
use lib.ListN.{length, take}
use Rattle.array.specs.Words.{Words}
use Rattle.refusal.specs.Refusal.{refuse, refuse_sent_or, bad_prime, bad_degree}
use Rattle.refusal.proofs.Order.{sent_or_stays, sent_or_given, sent_or_passes}
use Rattle.refusal.proofs.Models.{given}
use Rattle.array.proofs.Words.{words_length}
use Rattle.array.specs.Array.{padded, Holds}
use Rattle.array.proofs.Padded.{holds_is, front_is}
use Rattle.refusal.specs.Models.{Model, Given}
use Rattle.quotient.specs.DivisorTest.{has_divisor}
use borrow.Author.Tests.{eqb-true, not-true, not-false}
use lib.Dec.{eqb}
use Rattle.pair.specs.Pair.{congruences_hold, refuse_pair, check_number, check_number_or}
use Rattle.pair.proofs.Fields.{second_none}

-- the number

module _ (b : Bool) (p n : ℕ) (t1 t2 s r : List ℕ) where
  abbrev lists : List (List ℕ)
  lists = t1 ∷ t2 ∷ s ∷ r ∷ []

  pub check_refused : (k : ℕ) → k ≡ refuse_sent_or b p n lists lists 0 → (k ≡ 0 → ⊥) → k ≡ check_number_or b p n t1 t2 s r
  unfolding check_number_or
  check_refused k e h = sent_or_stays b p n lists lists _ k e h

  module _ (e : 0 ≡ refuse_sent_or b p n lists lists 0) where
    pub check_given : Given p n t1 t2 s r
    check_given = given p n t1 t2 s r (sent_or_given b p n lists lists 0 (sym e)).0

    pub check_follows : (k : ℕ) → k ≡ refuse_pair p t1 t2 s r → k ≡ check_number_or b p n t1 t2 s r
    unfolding check_number_or
    check_follows k f = f ∙ sym (sent_or_passes b p n lists lists _ (sym e))

-- after 1 to 4: the tests of the moduli and of the congruences

module _ (p n : ℕ) (t1 t2 s r : List ℕ) (g : Given p n t1 t2 s r) where
  pub model_1 : Model p n t1
  model_1 = record { prime = g.models.prime; small = g.models.small; degree = g.models.degree; modulus = g.models.modulus1 }

  pub model_2 : Model p n t2
  model_2 = record { prime = g.models.prime; small = g.models.small; degree = g.models.degree; modulus = g.models.modulus2 }

  module _ (a : Bool) (e : a ≡ not (has_divisor p t1)) where
    pub pair_six : not a ≡ true → 6 ≡ refuse_pair p t1 t2 s r
    pair_six f = rw (not-false (has_divisor p t1) (sym e ∙ not-true a f))

    module _ (f : not a ≡ false) where
      first_none : has_divisor p t1 ≡ false
      first_none = not-true (has_divisor p t1) (sym e ∙ not-false a f)

      module _ (b : Bool) (h : b ≡ congruences_hold p t1 t2 s r) where
        pub pair_accepted : b ≡ true → 0 ≡ refuse_pair p t1 t2 s r
        pair_accepted k = rw (first_none, second_none p n t1 t2 s r g (sym h ∙ k) first_none, ← h, k)

        module _ (c : Bool) (l : c ≡ not (has_divisor p t2)) (k : b ≡ false) where
          pub pair_eight : c ≡ true → 8 ≡ refuse_pair p t1 t2 s r
          pair_eight m = rw (first_none, not-true (has_divisor p t2) (sym l ∙ m), ← h, k)

          pub pair_seven : c ≡ false → 7 ≡ refuse_pair p t1 t2 s r
          pair_seven m = rw (first_none, not-false (has_divisor p t2) (sym l ∙ m))

-- where none applies, the output list is right, and the checker accepts
pub none_of_output : (b : Bool) (p n : ℕ) (t1 t2 s r : List ℕ) → check_number_or b p n t1 t2 s r ≡ 0 → (b ≡ false) × (check_number p n t1 t2 s r ≡ 0)
unfolding check_number_or
none_of_output false p n t1 t2 s r e = (refl, e)
none_of_output true p n t1 t2 s r e = absurd (go (bad_prime p) (bad_degree n) e)
  where
    go : (a b : Bool) → refuse 1 a (refuse 2 b 3) ≡ 0 → ⊥
    go true b f = omega arith
    go false true f = omega arith
    go false false f = omega arith

-- a call that also writes a list, which is to have m words
pub accepted_output : (p n number m : ℕ) (t1 t2 s r out : List ℕ) → number ≡ check_number_or (not (eqb (length out) m)) p n t1 t2 s r → number ≡ 0
    → (length out ≡ m) × (check_number p n t1 t2 s r ≡ 0)
accepted_output p n number m t1 t2 s r out e h =
    let (right, accepted) = none_of_output (not (eqb (length out) m)) p n t1 t2 s r (sym e ∙ h) in
    (eqb-true (length out) m (not-false (eqb (length out) m) right), accepted)

-- the arrays that hold the lists

module _ (p n : ℕ) (t1 t2 s r : List ℕ) (g : Given p n t1 t2 s r) where
  short : {u : List ℕ} → Words p n u → length u ≤ 16
  short w = omega (arith, words_length w, g.models.degree.1)

  pub short_1 : length t1 ≤ 16
  short_1 = short g.models.modulus1

  pub short_2 : length t2 ≤ 16
  short_2 = short g.models.modulus2

  pub short_s : length s ≤ 16
  short_s = short g.words_s

  pub short_r : length r ≤ 16
  short_r = short g.words_r

  pub in_range : (2 ≤ p) × (p ≤ 2 ^ 20) × (1 ≤ n) × (n ≤ 16)
  in_range = (g.models.prime.0, omega (arith, g.models.small), g.models.degree.0, g.models.degree.1)

  pub holds_1 : (a : List ℕ) → a ≡ padded t1 → Holds p n a
  holds_1 a e = holds_is e g.models.modulus1

  pub holds_2 : (a : List ℕ) → a ≡ padded t2 → Holds p n a
  holds_2 a e = holds_is e g.models.modulus2

  pub holds_s : (a : List ℕ) → a ≡ padded s → Holds p n a
  holds_s a e = holds_is e g.words_s

  pub holds_r : (a : List ℕ) → a ≡ padded r → Holds p n a
  holds_r a e = holds_is e g.words_r

  pub arrays_accepted : (a1 a2 b c : List ℕ) (d : Bool) → a1 ≡ padded t1 → a2 ≡ padded t2 → b ≡ padded s → c ≡ padded r
      → d ≡ congruences_hold p (take n a1) (take n a2) (take n b) (take n c) → d ≡ congruences_hold p t1 t2 s r
  arrays_accepted a1 a2 b c d e1 e2 f h k =
      rw (front_is e1 g.models.modulus1, front_is e2 g.models.modulus2, front_is f g.words_s, front_is h g.words_r) at k
