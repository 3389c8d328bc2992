-- The public call: what the refusals leave, the copies between lists and arrays, and what the two lent lists hold at the end.
use mathlib.Core.Path.{◌≡◌, refl, sym, ap, subst, subst₂, ◌∙◌}
use mathlib.Core.List.{List, [], ◌∷◌}
use Prim.Native.Nat.{ℕ, ◌^◌, ◌≤◌}
use native.Mathlib.Omega.{arith}
use lib.ListN.{length, take}
use Rattle.quotient.proofs.Decision.{test_irreducible}
use Rattle.refusal.specs.Refusal.{refuse_sent, written}
use Rattle.array.specs.Words.{Words, word_bound}
use Rattle.refusal.proofs.Order.{Sent, sent_given, given_sent, sent_stays}
use Rattle.refusal.proofs.Models.{sent_models}
use Rattle.array.proofs.Words.{words_up}
use Rattle.array.specs.Array.{padded, Holds}
use Rattle.refusal.specs.Number.{number}
use Rattle.refusal.specs.declared.number.Refusal.{Refusal}
use Rattle.refusal.proofs.Refused.{refused}
use Rattle.refusal.proofs.Written.{output_old}
use Rattle.array.proofs.Padded.{front_is, holds_is}
use Rattle.finder.specs.Construct.{FoundPair}
use Rattle.finder.specs.Finder.{find_s, find_r, refuse_find, find_number, find_output_s, find_output_r}
use Rattle.refusal.specs.Models.{Models}
use Rattle.finder.proofs.Findable.{none_apply, models_size}
use Rattle.finder.proofs.Values.{PairLaws, pair_laws}

-- the arrays that hold the moduli

module _ (p n : ℕ) (t1 t2 : List ℕ) (m : Models p n t1 t2) where
  pub in_range : (2 ≤ p) × (p ≤ 2 ^ 20)
  in_range = (m.prime.0, omega (arith, m.small))

  pub out_short : (out : List ℕ) → length out ≡ n → length out ≤ 16
  out_short out size = omega (arith, m.degree.1)

  -- what is said of the arrays is said of the lists
  pub of_lists : (P : List ℕ → List ℕ → Type 0) (a b : List ℕ) → a ≡ padded t1 → b ≡ padded t2 → P (take n a) (take n b) → P t1 t2
  of_lists P a b ea eb h = subst₂ P (front_is ea m.modulus1) (front_is eb m.modulus2) h

  -- the pair into the lent lists
  module _ (f g : List ℕ) (found : FoundPair p n t1 t2 0 f g) where
    words : Words p n (find_s p n t1 t2) × Words p n (find_r p n t1 t2)
    words =
        let (findable, first, second) = none_apply p n t1 t2 (sym found.number_is) in
        let laws : PairLaws p n t1 t2 = pair_laws p m.prime n m.degree.0 t1 t2 m.modulus1 m.modulus2 in
        (laws.chosen_pair (laws.chosen (models_size p n t1 t2 m findable)
        (test_irreducible m.prime.0 m.modulus1 first) (test_irreducible m.prime.0 m.modulus2 second))).words

    module _ (out : List ℕ) (size : length out ≡ n) where
      stores : (u w : List ℕ) → w ≡ padded u → Words p n u → Holds word_bound (length out) w
      stores u w e wu = subst (λ k. Holds word_bound k w) (sym size) (holds_is e (words_up (omega (arith, m.small)) wu))

      stored : (u w : List ℕ) → w ≡ padded u → Words p n u → take (length out) w ≡ u
      stored u w e wu = ap (λ k. take k w) size ∙ front_is e wu

      pub forward_stores : Holds word_bound (length out) f
      forward_stores = stores (find_s p n t1 t2) f (found.forward_is refl) words.0

      pub forward_stored : (out' : List ℕ) → out' ≡ take (length out) f → out' ≡ find_s p n t1 t2
      forward_stored out' h = h ∙ stored (find_s p n t1 t2) f (found.forward_is refl) words.0

      pub backward_stores : Holds word_bound (length out) g
      backward_stores = stores (find_r p n t1 t2) g (found.backward_is refl) words.1

      pub backward_stored : (out' : List ℕ) → out' ≡ take (length out) g → out' ≡ find_r p n t1 t2
      backward_stored out' h = h ∙ stored (find_r p n t1 t2) g (found.backward_is refl) words.1

-- the call

module _ (p n : ℕ) (t1 t2 s r : List ℕ) where
  abbrev lists : List (List ℕ)
  lists = t1 ∷ t2 ∷ s ∷ r ∷ []

  module _ (e : Refusal) (first : number e ≡ refuse_sent p n lists (t1 ∷ t2 ∷ []) 0) where
    pub find_refused : number e ≡ find_number p n t1 t2 s r
    unfolding find_number
    find_refused = sent_stays p n lists (t1 ∷ t2 ∷ []) _ (number e) first (refused e)

    pub forward_kept : s ≡ find_output_s p n t1 t2 s r
    unfolding find_output_s
    forward_kept = output_old (number e) (find_number p n t1 t2 s r) (find_s p n t1 t2) s find_refused (refused e)

    pub backward_kept : r ≡ find_output_r p n t1 t2 s r
    unfolding find_output_r
    backward_kept = output_old (number e) (find_number p n t1 t2 s r) (find_r p n t1 t2) r find_refused (refused e)

  module _ (none : 0 ≡ refuse_sent p n lists (t1 ∷ t2 ∷ []) 0) where
    sent : Sent p n lists (t1 ∷ t2 ∷ [])
    sent = (sent_given p n lists (t1 ∷ t2 ∷ []) 0 (sym none)).0

    pub forward_size : length s ≡ n
    forward_size = sent.lengths.1.1.0

    pub backward_size : length r ≡ n
    backward_size = sent.lengths.1.1.1.0

    pub models : Models p n t1 t2
    models = sent_models p n t1 t2 (s ∷ r ∷ []) [] sent

    -- nothing of 1 to 4 applies, so 5 to 7 decide
    pub find_answered : (answer : ℕ) → answer ≡ refuse_find p n t1 t2 → answer ≡ find_number p n t1 t2 s r
    unfolding find_number
    find_answered answer f = f ∙ sym (given_sent p n lists (t1 ∷ t2 ∷ []) _ sent)

    pub forward_output : (answer : ℕ) → answer ≡ refuse_find p n t1 t2
        → (s' : List ℕ) → s' ≡ written answer (find_s p n t1 t2) s → s' ≡ find_output_s p n t1 t2 s r
    unfolding find_output_s
    forward_output answer f s' h = h ∙ ap (λ k. written k (find_s p n t1 t2) s) (find_answered answer f)

    pub backward_output : (answer : ℕ) → answer ≡ refuse_find p n t1 t2
        → (r' : List ℕ) → r' ≡ written answer (find_r p n t1 t2) r → r' ≡ find_output_r p n t1 t2 s r
    unfolding find_output_r
    backward_output answer f r' h = h ∙ ap (λ k. written k (find_r p n t1 t2) r) (find_answered answer f)
