-- The sheets of examples A and E, computed.
use borrow.Author.Tests.{eq-eqb, ne_eqb}
use lib.ListN.{length}
use Rattle.algebra.specs.Lists.{all, equal, first, range}
use Rattle.modular.specs.Prime.{is_prime}
use Rattle.array.specs.Words.{all_below}
use Rattle.refusal.specs.Refusal.{bad_prime, is_degree, bad_degree, bad_length, bad_word}
use Rattle.pair.specs.Pair.{congruences_hold, check_number_or}
use Rattle.quotient.specs.DivisorTest.{divides_test, has_divisor}
use Rattle.quotient.specs.Residue.{residues, prefixed, sum, scale, constant, shift, top, times_x, product, power, residue_of_x, substitute, modulus_at}
use Rattle.text.specs.Ascii.{ascii}
use Rattle.text.specs.Digits.{decimal, last_digits}
use Rattle.text.specs.Columns.{blanks, signed_decimal, right_justified, filled}
use Rattle.sheet.specs.Sheet.{centred, columns, line, lines, polynomial, sheet_text, sheet_length, sheet_number, sheet_output}
use Rattle.examples.specs.SheetExamples.{SheetExamples}

pub sheet_examples : SheetExamples
unfolding has_divisor divides_test residues prefixed all equal first range is_prime all_below bad_prime is_degree bad_degree bad_length bad_word congruences_hold check_number_or sum scale constant shift top times_x product power residue_of_x substitute modulus_at
    ascii decimal last_digits blanks signed_decimal right_justified filled centred columns line lines polynomial sheet_text sheet_length sheet_number sheet_output
sheet_examples =
    record {
      a_number = λ out e. rw (eq-eqb (length out) 240 e);
      a_refused = λ out e. rw (ne_eqb (length out) 240 e);
      a_output = λ out e. rw (eq-eqb (length out) 240 e);
      e_output = λ out e. rw (eq-eqb (length out) 240 e);
    }
