-- A call succeeds exactly where none of its conditions applies.
--   Writable   none of the writer's conditions applies
--   Readable   none of the reader's conditions applies
use mathlib.Core.Path.{◌≡◌}
use mathlib.Core.Bool.{true, false, not}
use mathlib.Core.List.{List, [], ◌∷◌}
use Prim.Native.Nat.{ℕ, ◌≤◌}
use lib.Dec.{eqb}
use lib.ListN.{length}
use borrow.Author.Tests.{eqb-true, eq-eqb, not-false}
use Rattle.algebra.specs.Lists.{all}
use Rattle.algebra.specs.Prime.{Prime}
use Rattle.array.specs.Words.{Words}
use Rattle.array.proofs.Words.{words_length}
use Rattle.modular.specs.Prime.{largest_prime}
use Rattle.refusal.specs.Refusal.{bad_prime, bad_degree, bad_length, bad_word}
use Rattle.refusal.proofs.Lists.{words_of, lengths_given, given_lengths, below_given, words_given, given_words}
use Rattle.refusal.proofs.Order.{refuse_none, prime_given, given_prime, degree_given, given_degree}
use Rattle.card.specs.Card.{bad_kind, word_count, card_length, card_prime, card_degree, card_kind, card_words, bad_header, bad_layout, fill_bits, read_number, write_number}
use Rattle.card.proofs.Header.{or-false_both, words_counted}
use Rattle.card.proofs.Zeros.{is_zero}

pub record Writable (p n kind : ℕ) (words out : List ℕ) : Type 0 where
  pub prime : Prime p
  pub small : p ≤ largest_prime
  pub low : 1 ≤ n
  pub high : n ≤ 16
  pub kind_good : bad_kind kind ≡ false
  pub below : Words p (word_count n kind) words
  pub size : length out ≡ card_length p n kind

module _ (p n kind : ℕ) (words out : List ℕ) where
  pub writable : write_number p n kind words out ≡ 0 → Writable p n kind words out
  unfolding write_number
  writable h =
      let (prime, h2) = refuse_none 0 (bad_prime p) _ h in
      let (degree, h12) = refuse_none 1 (bad_degree n) _ h2 in
      let (kind_good, h3) = refuse_none 11 (bad_kind kind) _ h12 in
      let (lengths, h4) = refuse_none 2 _ _ h3 in
      let (count, size) = or-false_both (bad_length (word_count n kind) (words ∷ [])) (bad_length (card_length p n kind) (out ∷ [])) lengths in
      let (below, end) = refuse_none 3 (bad_word p (words ∷ [])) 0 h4 in
      record {
        prime = (prime_given p prime).0;
        small = (prime_given p prime).1;
        low = (degree_given n degree).0;
        high = (degree_given n degree).1;
        kind_good = kind_good;
        below = (words_given p (word_count n kind) (words ∷ []) count below).0;
        size = (lengths_given (card_length p n kind) (out ∷ []) size).0;
      }

  pub write_accepts : Writable p n kind words out → write_number p n kind words out ≡ 0
  unfolding write_number
  write_accepts h =
      rw (
        given_prime p h.prime h.small,
        given_degree n h.low h.high,
        h.kind_good,
        given_lengths (word_count n kind) (words ∷ []) (words_length h.below, tt),
        given_lengths (card_length p n kind) (out ∷ []) (h.size, tt),
        given_words p (word_count n kind) (words ∷ []) (h.below, tt),
      )

pub record Readable (ys out : List ℕ) : Type 0 where
  pub lent : length out ≡ 64
  pub header : bad_header ys ≡ false
  pub prime : Prime (card_prime ys)
  pub small : card_prime ys ≤ largest_prime
  pub layout_good : bad_layout ys ≡ false
  pub kind_good : bad_kind (card_kind ys) ≡ false
  pub size : length ys ≡ card_length (card_prime ys) (card_degree ys) (card_kind ys)
  pub fill : all is_zero (fill_bits ys) ≡ true
  pub below : Words (card_prime ys) (word_count (card_degree ys) (card_kind ys)) (card_words ys)

module _ (ys out : List ℕ) where
  pub readable : read_number ys out ≡ 0 → Readable ys out
  unfolding read_number
  readable h =
      let (lent, h11) = refuse_none 2 (bad_length 64 (out ∷ [])) _ h in
      let (header, h1) = refuse_none 10 (bad_header ys) _ h11 in
      let (prime, h28) = refuse_none 0 (bad_prime (card_prime ys)) _ h1 in
      let (layout_good, h12) = refuse_none 27 (bad_layout ys) _ h28 in
      let (kind_good, h11_again) = refuse_none 11 (bad_kind (card_kind ys)) _ h12 in
      let (size, h13) = refuse_none 10 (not (eqb (length ys) (card_length (card_prime ys) (card_degree ys) (card_kind ys)))) _ h11_again in
      let (fill, h4) = refuse_none 12 (not (all is_zero (fill_bits ys))) _ h13 in
      let (below, end) = refuse_none 3 (bad_word (card_prime ys) (card_words ys ∷ [])) 0 h4 in
      record {
        lent = (lengths_given 64 (out ∷ []) lent).0;
        header = header;
        prime = (prime_given (card_prime ys) prime).0;
        small = (prime_given (card_prime ys) prime).1;
        layout_good = layout_good;
        kind_good = kind_good;
        size = eqb-true (length ys) (card_length (card_prime ys) (card_degree ys) (card_kind ys)) (not-false _ size);
        fill = not-false (all is_zero (fill_bits ys)) fill;
        below = words_of (card_prime ys) (word_count (card_degree ys) (card_kind ys)) (card_words ys) (words_counted ys) (below_given (card_prime ys) (card_words ys ∷ []) below).0;
      }

  pub read_accepts : Readable ys out → read_number ys out ≡ 0
  unfolding read_number
  read_accepts h =
      rw (
        given_lengths 64 (out ∷ []) (h.lent, tt),
        h.header,
        given_prime (card_prime ys) h.prime h.small,
        h.layout_good,
        h.kind_good,
        eq-eqb (length ys) (card_length (card_prime ys) (card_degree ys) (card_kind ys)) h.size,
        h.fill,
        given_words (card_prime ys) (word_count (card_degree ys) (card_kind ys)) (card_words ys ∷ []) (h.below, tt),
      )
