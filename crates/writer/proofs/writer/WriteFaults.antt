-- The writer's refusals in their order: at each return of the code the conditions before it do not apply and its own does.
use mathlib.Core.Path.{◌≡◌, sym, ap, ◌∙◌}
use mathlib.Core.Bool.{Bool, true, ◌||◌, not}
use mathlib.Core.List.{List, [], ◌∷◌}
use Prim.Native.Nat.{ℕ, ◌+◌, ◌*◌, ◌/◌, ◌≤◌}
use lib.ListN.{length}
use borrow.Author.Tests.{ne_eqb}
use Rattle.modular.specs.Prime.{largest_prime, is_prime}
use Rattle.array.specs.Words.{all_below}
use Rattle.refusal.specs.Refusal.{refuse, bad_prime, is_degree, bad_degree, bad_length, bad_word}
use Rattle.card.specs.Card.{layout, header_bits, is_over, width, bad_kind, word_count, card_length, write_number}
use Rattle.card.specs.Kind.{kind_number}
use Rattle.card.specs.declared.kind.Kind.{Kind}
use Rattle.refusal.specs.Number.{number}
use Rattle.refusal.specs.declared.number.Refusal.{Refusal}
use Rattle.refusal.specs.declared.number.Refusal.TheVariants as R
use Rattle.refusal.proofs.Order.{prime_bounds, degree_given}
use Rattle.refusal.proofs.Lists.{given_lengths}
use Rattle.card.proofs.OneList.{bad_length_one, bad_word_one}
use Rattle.card.proofs.CardKinds.{kind_taken, kind_refused}

pub prime_most : (p : ℕ) (b : Bool) → b ≡ is_prime p → b ≡ true → p ≤ largest_prime
unfolding bad_prime
prime_most p b e h = (prime_bounds p (ap not (sym e ∙ h))).1

pub degree_most : (n : ℕ) (b : Bool) → b ≡ is_degree n → b ≡ true → n ≤ 16
unfolding bad_degree
degree_most n b e h = (degree_given n (ap not (sym e ∙ h))).1

module _ (p n kind : ℕ) (words out : List ℕ) (b : Bool) (eb : b ≡ is_prime p) where
  pub write_prime : not b ≡ true → 1 ≡ write_number p n kind words out
  unfolding write_number bad_prime
  write_prime h = rw (← eb, h)

  module _ (prime : b ≡ true) (d : Bool) (ed : d ≡ is_degree n) where
    pub write_degree : not d ≡ true → 2 ≡ write_number p n kind words out
    unfolding write_number bad_prime bad_degree
    write_degree h = rw (← eb, prime, ← ed, h)

    module _ (degree : d ≡ true) where
      -- with p and n in order, the kind decides and then the lengths
      after_degree : write_number p n kind words out
          ≡ refuse 12 (bad_kind kind) (refuse 3 (bad_length (word_count n kind) (words ∷ []) || bad_length (card_length p n kind) (out ∷ [])) (refuse 4 (bad_word p (words ∷ [])) 0))
      unfolding write_number bad_prime bad_degree
      after_degree = rw (← eb, prime, ← ed, degree)

      pub write_kind : (r : Refusal) → r ≡ R.Kind → (kind ≡ 1 → ⊥) → (kind ≡ 2 → ⊥) → number r ≡ write_number p n kind words out
      write_kind r er f g = rw (after_degree, kind_refused kind f g, er)

      module _ (taken : Kind) (ek : kind_number taken ≡ kind) (count : ℕ) (counted : count ≡ word_count n (kind_number taken)) where
        after_kind : write_number p n kind words out
            ≡ refuse 3 (bad_length count (words ∷ []) || bad_length ((header_bits (layout (is_over p)) + count * width p + 7) / 8) (out ∷ [])) (refuse 4 (bad_word p (words ∷ [])) 0)
        unfolding card_length
        after_kind =
            let is : count ≡ word_count n kind = counted ∙ ap (word_count n) ek in
            after_degree ∙ rw (kind_taken taken kind ek, ← is)

        pub write_count : (length words ≡ count → ⊥) → 3 ≡ write_number p n kind words out
        write_count h = rw (after_kind, bad_length_one count words, ne_eqb (length words) count h)

        module _ (filled : length words ≡ count) (size : ℕ) (es : size ≡ (header_bits (layout (is_over p)) + count * width p + 7) / 8) where
          pub write_size : (length out ≡ size → ⊥) → 3 ≡ write_number p n kind words out
          write_size h =
              rw (after_kind, given_lengths count (words ∷ []) (filled, tt), ← es, bad_length_one size out, ne_eqb (length out) size h)

          module _ (fits : length out ≡ size) (a : Bool) (ea : a ≡ all_below p words) where
            -- with everything else in order, the words decide
            write_last : write_number p n kind words out ≡ refuse 4 (not a) 0
            write_last = after_kind ∙ rw (given_lengths count (words ∷ []) (filled, tt), ← es, given_lengths size (out ∷ []) (fits, tt), bad_word_one, ← ea)

            pub write_word : not a ≡ true → 4 ≡ write_number p n kind words out
            write_word h = rw (write_last, h)

            pub write_none : a ≡ true → 0 ≡ write_number p n kind words out
            write_none h = rw (write_last, h)
