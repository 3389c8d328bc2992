-- What a card that the reader takes carries: the lists of its words, to which 1 to 4 do not apply.
use mathlib.Core.Path.{◌≡◌, sym, ◌∙◌}
use mathlib.Core.List.{List, ◌++◌}
use Prim.Native.Nat.{ℕ, ◌+◌, ◌-◌, ◌*◌, ◌≤◌}
use native.Mathlib.Omega.{arith}
use lib.ListN.{length, replicate}
use Rattle.array.specs.Words.{Words}
use Rattle.card.specs.Card.{word_count, card_prime, card_degree, card_kind, card_words, read_number, read_prime, read_degree, read_kind, read_output}
use Rattle.card.proofs.CardKinds.{kind_bounds, count_job, count_pair}
use Rattle.card.proofs.Header.{degree_least, degree_most, words_counted}
use Rattle.card.proofs.Refusals.{Readable, readable}
use Rattle.refusal.specs.Models.{Models, Given}
use Rattle.answer.specs.Answer.{part, card_part}
use Rattle.answer.proofs.Parts.{part_front, part_words}

-- what the reader says of a card that it takes
module _ (ys : List ℕ) (number : ℕ) (e : number ≡ read_number ys (replicate 64 0)) (none : number ≡ 0) where
  pub accepted : read_number ys (replicate 64 0) ≡ 0
  accepted = sym e ∙ none

  good : Readable ys (replicate 64 0)
  good = readable ys (replicate 64 0) accepted

  high : card_degree ys ≤ 16
  high = degree_most ys good.header

  pub degree_few : (n : ℕ) → n ≡ read_degree ys (replicate 64 0) → n ≤ 16
  unfolding read_degree
  degree_few n en = rw (en, accepted) high

  module _ (p n kind : ℕ) (words : List ℕ) (ep : p ≡ read_prime ys (replicate 64 0)) (en : n ≡ read_degree ys (replicate 64 0))
      (ek : kind ≡ read_kind ys (replicate 64 0)) (ew : words ≡ read_output ys (replicate 64 0)) where
    pub p_is : p ≡ card_prime ys
    unfolding read_prime
    p_is = ep ∙ rw accepted

    pub n_is : n ≡ card_degree ys
    unfolding read_degree
    n_is = en ∙ rw accepted

    pub kind_is : kind ≡ card_kind ys
    unfolding read_kind
    kind_is = ek ∙ rw accepted

    words_are : words ≡ card_words ys ++ replicate (64 - length (card_words ys)) 0
    unfolding read_output
    words_are = ew ∙ rw accepted

    -- the k-th list, where the card carries more than k
    module _ (k : ℕ) (h : k * card_degree ys + card_degree ys ≤ word_count (card_degree ys) (card_kind ys)) where
      pub part_is : part n words k ≡ card_part ys k
      unfolding card_part
      part_is = rw (n_is, words_are) (part_front (card_degree ys) k (card_words ys) (replicate (64 - length (card_words ys)) 0) (omega (arith, words_counted ys)))

      list_words : Words p n (part n words k)
      unfolding card_part
      list_words = rw (part_is, p_is, n_is) (part_words (card_degree ys) k good.below h)

    models : 2 * card_degree ys ≤ word_count (card_degree ys) (card_kind ys) → Models p n (part n words 0) (part n words 1)
    models h =
        record {
          prime = rw p_is good.prime;
          small = rw p_is good.small;
          degree = (rw n_is (degree_least ys), rw n_is high);
          modulus1 = list_words 0 (omega arith);
          modulus2 = list_words 1 (omega arith);
        }

    pub job_count : kind ≡ 1 → word_count (card_degree ys) (card_kind ys) ≡ 2 * card_degree ys
    job_count job = sym (count_job (card_degree ys) (card_kind ys) (sym kind_is ∙ job))

    pub job_models : kind ≡ 1 → Models p n (part n words 0) (part n words 1)
    job_models job = models (omega (arith, job_count job))

    pub pair_count : (kind ≡ 1 → ⊥) → word_count (card_degree ys) (card_kind ys) ≡ 4 * card_degree ys
    pair_count other = sym (count_pair (card_degree ys) (card_kind ys) (omega (arith, kind_is, kind_bounds (card_kind ys) good.kind_good)))

    pub pair_given : (kind ≡ 1 → ⊥) → Given p n (part n words 0) (part n words 1) (part n words 2) (part n words 3)
    pair_given other =
        record {
          models = models (omega (arith, pair_count other));
          words_s = list_words 2 (omega (arith, pair_count other));
          words_r = list_words 3 (omega (arith, pair_count other));
        }
