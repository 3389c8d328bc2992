-- A table in two parts, computed.
use mathlib.Core.Path.{refl}
use Rattle.algebra.specs.Lists.{all, equal, first, range}
use Rattle.modular.specs.Prime.{is_prime}
use Rattle.array.specs.Array.{padded}
use Rattle.array.specs.Words.{all_below}
use Rattle.refusal.specs.Refusal.{bad_prime, is_degree, bad_degree, bad_length, bad_word}
use Rattle.quotient.specs.Divisor.{monic, polynomial_product}
use Rattle.quotient.specs.DivisorTest.{divides_test, has_divisor}
use Rattle.quotient.specs.Residue.{residues, prefixed, sum, scale, constant, shift, top, times_x, product, power, residue_of_x, substitute, modulus_at}
use Rattle.pair.specs.Pair.{congruences_hold}
use Rattle.text.specs.Ascii.{ascii}
use Rattle.text.specs.Digits.{decimal, last_digits}
use Rattle.held.specs.Held.{valid, valid_as, valid_held, view_as, view, loaded_held, paired_held}
use Rattle.pairing.specs.Pairing as Pairing
use Rattle.pairing.specs.Pairing.{load_from, propose_from}
use Rattle.table.specs.Table.{each_group, converted, table_number}
use Rattle.ledger.specs.Ledger.{total, letter, number, line, lines, report}
use Rattle.work.specs.Number.{state_from, state_number, full_number}
use Rattle.work.specs.Work.{is_paired, may_be_open, valid_work, looked, addressed, with_addressed}
use Rattle.conversion.specs.Conversion as Conversion
use Rattle.conversion.specs.Conversion.{images_in, convert_number}
use Rattle.running.specs.Running as Running
use Rattle.running.specs.Running.{begin_number, part_number, feed_number, feed_as, feed_output_as}
use Rattle.session.specs.Session.{counted, answer, step_with, record_with, report_text}
use Rattle.runs.specs.Theorem.{next, run}
use Rattle.examples.specs.OpenTableExamples.{OpenTableExamples}

pub open_table_examples : OpenTableExamples
unfolding all equal first range is_prime padded all_below bad_prime is_degree bad_degree bad_length bad_word monic polynomial_product divides_test has_divisor residues prefixed sum scale constant shift top
    times_x product power residue_of_x substitute modulus_at congruences_hold ascii decimal last_digits valid valid_as valid_held view_as view loaded_held paired_held Pairing.answer load_from Pairing.load propose_from
    Pairing.propose each_group converted table_number total letter number line lines report is_paired may_be_open valid_work looked addressed with_addressed images_in state_from state_number full_number convert_number
    Conversion.convert Conversion.convert_output begin_number Running.begin part_number feed_number feed_as Running.feed feed_output_as Running.feed_output Running.end counted
    answer step_with record_with report_text next run
open_table_examples =
    record {
      first_part = refl;
      second_part = refl;
      report_meanwhile = refl;
      report_after = refl;
      next_pair = refl;
      dropped = refl;
      no_second_table = refl;
      no_conversion = refl;
      no_feed = refl;
      no_end = refl;
    }
