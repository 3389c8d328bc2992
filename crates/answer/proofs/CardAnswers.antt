-- What is printed for a card, from what the reader says of it: the line of a refusal, or the text of a job or of a pair card.
use mathlib.Core.Path.{◌≡◌, sym, ap, ◌∙◌}
use mathlib.Core.List.{List}
use Prim.Native.Nat.{ℕ, ◌+◌, ◌*◌, ◌≤◌}
use native.Mathlib.Omega.{arith}
use borrow.Author.Tests.{eq-eqb, ne_eqb}
use lib.ListN.{length, take, replicate}
use Rattle.card.specs.Card.{word_count, card_prime, card_degree, card_kind, read_number, read_prime, read_degree, read_kind, read_output}
use Rattle.card.specs.Kind.{kind_number}
use Rattle.card.specs.declared.kind.Kind.{Kind}
use Rattle.card.specs.declared.kind.Kind.TheVariants.{Job, Pair}
use Rattle.text.specs.Text.{Begins}
use Rattle.answer.specs.Answer.{part, card_part, refused_text, printed, job_text, pair_card_text, card_text, answer_text}
use Rattle.answer.proofs.CardModels.{accepted, p_is, n_is, kind_is, part_is, job_count, pair_count}
use Rattle.answer.proofs.Parts.{prefix_length}
use Rattle.answer.proofs.Printed.{printed_refusal, printed_text}

-- as many bytes are printed as the text has
pub counted : (xs text : List ℕ) (end : ℕ) → Begins xs text end → (end ≤ length text) × (end ≡ length (take end text))
counted xs text end b = (b.within, prefix_length end text b.within)

-- the numbers of the two kinds
pub job_number : (kind : Kind) → kind ≡ Job → kind_number kind ≡ 1
job_number kind e = ap kind_number e

pub pair_number : (kind : Kind) → kind ≡ Pair → kind_number kind ≡ 1 → ⊥
pair_number kind e h = omega (arith, ap kind_number e)

module _ (ys : List ℕ) (number : ℕ) (e : number ≡ read_number ys (replicate 64 0)) where
  pub refusal_is : (number ≡ 0 → ⊥) → refused_text number ≡ answer_text ys
  unfolding answer_text
  refusal_is h = printed_refusal number (card_text ys) h ∙ ap (λ k. printed k (card_text ys)) e

  pub answer_refusal : (end : ℕ) (text : List ℕ) → (number ≡ 0 → ⊥) → Begins (refused_text number) text end → take end text ≡ answer_text ys
  answer_refusal end text h b = b.text_is ∙ refusal_is h

  module _ (none : number ≡ 0) (p n kind : ℕ) (words : List ℕ) (ep : p ≡ read_prime ys (replicate 64 0)) (en : n ≡ read_degree ys (replicate 64 0))
      (ek : kind ≡ read_kind ys (replicate 64 0)) (ew : words ≡ read_output ys (replicate 64 0)) where
    card_text_is : card_text ys ≡ answer_text ys
    unfolding answer_text
    card_text_is = printed_text (read_number ys (replicate 64 0)) (card_text ys) (accepted ys number e none)

    prime : p ≡ card_prime ys
    prime = p_is ys number e none p n kind words ep en ek ew

    degree : n ≡ card_degree ys
    degree = n_is ys number e none p n kind words ep en ek ew

    card_kind_is : kind ≡ card_kind ys
    card_kind_is = kind_is ys number e none p n kind words ep en ek ew

    list : (k : ℕ) → k * card_degree ys + card_degree ys ≤ word_count (card_degree ys) (card_kind ys) → part n words k ≡ card_part ys k
    list = part_is ys number e none p n kind words ep en ek ew

    module _ (job : kind ≡ 1) where
      two : word_count (card_degree ys) (card_kind ys) ≡ 2 * card_degree ys
      two = job_count ys number e none p n kind words ep en ek ew job

      job_text_is : job_text (card_prime ys) (card_degree ys) (card_part ys 0) (card_part ys 1) ≡ card_text ys
      unfolding card_text
      job_text_is = rw (eq-eqb (card_kind ys) 1 (sym card_kind_is ∙ job), card_text)

      pub answer_job : (end : ℕ) (text : List ℕ) → Begins (job_text p n (part n words 0) (part n words 1)) text end → take end text ≡ answer_text ys
      answer_job end text b = b.text_is ∙ rw (list 0 (omega (arith, two)), list 1 (omega (arith, two)), prime, degree) (job_text_is ∙ card_text_is)

    module _ (other : kind ≡ 1 → ⊥) where
      four : word_count (card_degree ys) (card_kind ys) ≡ 4 * card_degree ys
      four = pair_count ys number e none p n kind words ep en ek ew other

      pair_text_is : pair_card_text (card_prime ys) (card_part ys 0) (card_part ys 1) (card_part ys 2) (card_part ys 3) ≡ card_text ys
      unfolding card_text
      pair_text_is = rw (ne_eqb (card_kind ys) 1 (λ h. other (card_kind_is ∙ h)), card_text)

      pub answer_pair : (end : ℕ) (text : List ℕ) → Begins (pair_card_text p (part n words 0) (part n words 1) (part n words 2) (part n words 3)) text end
          → take end text ≡ answer_text ys
      answer_pair end text b =
          b.text_is
          ∙ rw (list 0 (omega (arith, four)), list 1 (omega (arith, four)), list 2 (omega (arith, four)), list 3 (omega (arith, four)), prime) (pair_text_is ∙ card_text_is)
