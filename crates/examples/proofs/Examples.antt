-- The proof of examples A to I. The values of A, D and E pass their tests, so they are the finder's; F and G are refused by a factorisation, G's 7 also
-- because A's answer 0 says that 6 does not apply to T1; H is the refusal for an n that neither divides p − 1 nor is a power of p. Each `refl` computes one test,
-- conversion, card or line, with the test for divisors; alpha and express, which go through all residues, are not computed.
use mathlib.Core.Path.{refl}
use mathlib.Core.List.{[], ◌∷◌}
use borrow.Author.Tests.{eq-eqb}
use lib.Dec.{lit<, lit≤}
use lib.ListN.{length}
use Rattle.algebra.specs.Lists.{all, equal, first, range}
use Rattle.answer.specs.Answer.{part, card_part, ring_text, printed, pair_line, pair_card_text, card_text, answer_text}
use Rattle.text.specs.Ascii.{ascii}
use Rattle.card.specs.Bits.{bits, number_from, bytes, packed, unpacked}
use Rattle.card.specs.Card.{width, bad_kind, all_bits, header, card, card_length, write_number, write_output, field_at, is_wide, card_prime, card_degree, card_kind, fields_at, card_words, bad_header, bad_layout, fill_of, fill_bits, read_number}
use Rattle.roots.specs.Roots.{zeta, radicand, root_of_ratio}
use Rattle.galois.specs.Eigenvector.{first_non_zero}
use Rattle.galois.specs.Tower.{exponent}
use Rattle.finder.specs.Finder.{divides, findable, find_number}
use Rattle.modular.specs.Prime.{is_prime}
use Rattle.array.specs.Words.{all_below}
use Rattle.refusal.specs.Refusal.{bad_prime, is_degree, bad_degree, bad_length, bad_word}
use Rattle.pair.specs.Pair.{congruences_hold, check_number_or}
use Rattle.quotient.specs.Divisor.{monic, polynomial_product}
use Rattle.quotient.specs.DivisorTest.{divides_test, has_divisor}
use Rattle.quotient.specs.Residue.{residues, prefixed, sum, scale, constant, shift, top, times_x, product, power, residue_of_x, substitute, modulus_at}
use Rattle.refusal.proofs.Order.{refuse_none}
use Rattle.array.specs.Array.{padded}
use Rattle.held.specs.Held.{valid, valid_as, valid_held, view_as, view, paired_held}
use Rattle.table.specs.Table.{each_group, converted, table_number}
use Rattle.work.specs.Number.{state_from, state_number, full_number}
use Rattle.work.specs.Work.{valid_work, looked}
use Rattle.conversion.specs.Conversion.{images_in, convert_number, convert_output}
use Rattle.session.specs.Session.{counted}
use Rattle.examples.specs.Examples.{FinderValues, Examples}
use Rattle.examples.proofs.Listed.{listed, found, outputs}
use Rattle.examples.proofs.Refused.{words_counted, factor_divides, indivisible_refused, divisor_refused, second_refused}

pub examples : Examples
unfolding has_divisor divides_test residues prefixed all equal first range bits number_from bytes packed width all_bits header card bad_kind card_length write_number
    write_output zeta radicand root_of_ratio first_non_zero exponent divides findable find_number is_prime bad_prime is_degree bad_degree bad_length bad_word all_below congruences_hold check_number_or
    monic polynomial_product sum scale constant shift top times_x product power residue_of_x substitute modulus_at padded valid valid_as valid_held view_as
    view paired_held each_group converted table_number valid_work looked counted images_in state_from state_number full_number convert_number convert_output unpacked field_at card_prime card_degree card_kind
    fields_at is_wide card_words bad_header bad_layout fill_of fill_bits read_number part card_part ring_text printed pair_line pair_card_text card_text
    answer_text ascii
examples =
    let A : FinderValues 3 2 (1 ∷ 0 ∷ []) (2 ∷ 1 ∷ []) 2 2 (0 ∷ 1 ∷ []) (1 ∷ 2 ∷ []) (1 ∷ 2 ∷ []) (1 ∷ 2 ∷ []) =
    found refl refl refl refl (listed (0 ∷ 1 ∷ []) 2 1 refl refl refl refl refl refl) (listed (1 ∷ 2 ∷ []) 2 1 refl refl refl refl refl refl) refl in
    let splits = factor_divides 3 (1 ∷ []) (2 ∷ 1 ∷ []) (2 ∷ 0 ∷ []) (lit≤ tt) refl refl (lit< tt) (lit< tt) refl in
    record {
      A = A;
      B = refl;
      b_finds_a = outputs A (2 ∷ 1 ∷ []) (1 ∷ 1 ∷ []) refl refl;
      c_forward = λ out e. rw (eq-eqb (length out) 2 e);
      c_back = λ out e. rw (eq-eqb (length out) 2 e);
      D = found refl refl refl refl (listed (0 ∷ 0 ∷ 1 ∷ []) 4 3 refl refl refl refl refl refl) (listed (0 ∷ 1 ∷ 0 ∷ []) 3 1 refl refl refl refl refl refl) refl;
      d_stored = refl;
      E = found refl refl refl refl (listed (1 ∷ []) 1 1 refl refl refl refl refl refl) (listed (1 ∷ []) 1 1 refl refl refl refl refl refl) refl;
      f_check = refl;
      f_card = refl;
      f_find = λ lent_s lent_r length_s length_r.
          divisor_refused refl refl (words_counted 3 (0 ∷ 0 ∷ []) refl) (words_counted 3 (0 ∷ 0 ∷ []) refl) lent_s lent_r length_s length_r refl
          (factor_divides 3 (0 ∷ []) (0 ∷ 1 ∷ []) (0 ∷ 0 ∷ []) (lit≤ tt) refl refl (lit< tt) (lit< tt) refl);
      g_product = refl;
      g_first = λ t2 lent_s lent_r w2 length_s length_r.
          divisor_refused refl refl (words_counted 3 (2 ∷ 0 ∷ []) refl) w2 lent_s lent_r length_s length_r refl splits;
      g_second = λ lent_s lent_r length_s length_r.
          second_refused refl refl (words_counted 3 (1 ∷ 0 ∷ []) refl) (words_counted 3 (2 ∷ 0 ∷ []) refl) lent_s lent_r length_s length_r refl
          (refuse_none 5 (has_divisor 3 (1 ∷ 0 ∷ [])) _ (A.number_is (0 ∷ 0 ∷ []) (0 ∷ 0 ∷ []) refl refl)).0 splits;
      H = λ t1 t2 lent_s lent_r w1 w2 length_s length_r. indivisible_refused refl refl w1 w2 lent_s lent_r length_s length_r refl;
      i_pair = λ out e. rw (eq-eqb (length out) 5 e);
      i_job = λ out e. rw (eq-eqb (length out) 6 e);
    }
