-- What is printed where a number decides: the line of a refusal, or the text that follows the answer 0; for a pair card also RING, where the congruences hold all the same.
use mathlib.Core.Path.{◌≡◌, refl, sym, ap, ap₂, subst, ◌∙◌}
use mathlib.Core.Bool.{Bool, true, false}
use mathlib.Core.List.{List, [], ◌∷◌}
use Prim.Native.Nat.{ℕ, zero, suc, ◌*◌}
use lib.ListN.{take, replicate}
use Rattle.refusal.proofs.Order.{given_sent}
use Rattle.card.specs.Card.{card, card_length, write_number}
use Rattle.finder.specs.Finder.{refuse_find}
use Rattle.pair.specs.Pair.{congruences_hold, refuse_pair, check_number, check_number_or}
use Rattle.refusal.proofs.Models.{all_sent}
use Rattle.refusal.specs.Models.{Models, Given}
use Rattle.answer.specs.Answer.{part, pair_text, valid_text, ring_text, refused_text, printed, pair_words, job_text, pair_line, pair_card_text}
use Rattle.answer.specs.JobWords.{JobWords}
use Rattle.text.specs.Text.{Begins}
use Rattle.answer.proofs.Writable.{pair_writable}

pub printed_refusal : (number : ℕ) (text : List ℕ) → (number ≡ 0 → ⊥) → refused_text number ≡ printed number text
unfolding printed
printed_refusal zero text h = absurd (h refl)
printed_refusal (suc k) text h = refl

pub printed_text : (number : ℕ) (text : List ℕ) → number ≡ 0 → text ≡ printed number text
unfolding printed
printed_text number text e = sym (ap (λ k. printed k text) e)

instead : {xs ys list : List ℕ} {end : ℕ} → xs ≡ ys → Begins xs list end → Begins ys list end
instead {list = list} {end} e h = subst (λ l. Begins l list end) e h

-- a line with the bytes that a list begins with
pub line_of : (size end : ℕ) (ys list text : List ℕ) → Begins ys list size → Begins (pair_text (take size list)) text end → Begins (pair_text ys) text end
line_of size end ys list text b h = instead (ap pair_text b.text_is) h

module _ (p n number : ℕ) (words after : List ℕ) (found : JobWords p n words after number) where
  pub job_refusal : (end : ℕ) (text : List ℕ) → (number ≡ 0 → ⊥) → Begins (refused_text number) text end → Begins (job_text p n (part n words 0) (part n words 1)) text end
  unfolding job_text
  job_refusal end text h b =
      let line : List ℕ = pair_text (card p n 2 (pair_words p n (part n words 0) (part n words 1))) in
      instead (printed_refusal number line h ∙ ap (λ k. printed k line) found.number_is) b

  module _ (none : number ≡ 0) where
    not_refused : refuse_find p n (part n words 0) (part n words 1) ≡ 0
    not_refused = sym found.number_is ∙ none

    pub job_writable : Models p n (part n words 0) (part n words 1) → write_number p n 2 (take (4 * n) after) (replicate (card_length p n 2) 0) ≡ 0
    job_writable m = rw (found.words_are none) (pair_writable p n (part n words 0) (part n words 1) m not_refused)

    pub job_line : (end : ℕ) (text : List ℕ) → Begins (pair_text (card p n 2 (take (4 * n) after))) text end → Begins (job_text p n (part n words 0) (part n words 1)) text end
    unfolding job_text
    job_line end text b = instead (ap (λ l. pair_text (card p n 2 l)) (found.words_are none) ∙ printed_text _ _ not_refused) b

module _ (p n number : ℕ) (t1 t2 s r : List ℕ) (e : number ≡ check_number p n t1 t2 s r) (g : Given p n t1 t2 s r) where
  -- 1 to 4 do not apply, so what comes after 4 decides
  number_is : number ≡ refuse_pair p t1 t2 s r
  unfolding check_number_or
  number_is = e ∙ given_sent p n (t1 ∷ t2 ∷ s ∷ r ∷ []) (t1 ∷ t2 ∷ s ∷ r ∷ []) _ (all_sent p n t1 t2 s r g)

  pub check_valid : (end : ℕ) (text : List ℕ) → number ≡ 0 → Begins valid_text text end → Begins (pair_card_text p t1 t2 s r) text end
  unfolding pair_card_text pair_line
  check_valid end text h b = instead (ap (λ k. pair_line k (congruences_hold p t1 t2 s r)) (sym h ∙ number_is)) b

  module _ (h : number ≡ 0 → ⊥) (hold : Bool) (f : hold ≡ congruences_hold p t1 t2 s r) (end : ℕ) (text : List ℕ) where
    pub check_ring : hold ≡ true → Begins ring_text text end → Begins (pair_card_text p t1 t2 s r) text end
    unfolding pair_card_text
    check_ring k b = instead (go number h ∙ ap₂ pair_line number_is (sym k ∙ f)) b
      where
        go : (a : ℕ) → (a ≡ 0 → ⊥) → ring_text ≡ pair_line a true
        go zero g = absurd (g refl)
        go (suc j) g = unfold pair_line in refl

    pub check_refusal : hold ≡ false → Begins (refused_text number) text end → Begins (pair_card_text p t1 t2 s r) text end
    unfolding pair_card_text
    check_refusal k b = instead (go number h ∙ ap₂ pair_line number_is (sym k ∙ f)) b
      where
        go : (a : ℕ) → (a ≡ 0 → ⊥) → refused_text a ≡ pair_line a false
        go zero g = absurd (g refl)
        go (suc j) g = unfold pair_line in refl
