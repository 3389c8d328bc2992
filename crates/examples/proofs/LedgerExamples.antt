-- The reports of no records and of example A, computed.
use mathlib.Core.Path.{refl}
use borrow.Author.Tests.{eq-eqb}
use lib.ListN.{length}
use Rattle.algebra.specs.Lists.{all, first, range}
use Rattle.modular.specs.Prime.{is_prime}
use Rattle.array.specs.Array.{padded}
use Rattle.array.specs.Words.{all_below}
use Rattle.refusal.specs.Refusal.{bad_prime, is_degree, bad_degree, bad_word}
use Rattle.text.specs.Ascii.{ascii}
use Rattle.text.specs.Digits.{decimal, last_digits}
use Rattle.held.specs.Held.{valid, valid_as, valid_held, view_as, view, paired_held}
use Rattle.table.specs.Table.{table_number}
use Rattle.ledger.specs.Ledger.{total, letter, number, line, lines, report}
use Rattle.work.specs.Number.{state_from, state_number, full_number}
use Rattle.work.specs.Work.{valid_work, looked}
use Rattle.conversion.specs.Conversion.{convert_number, convert}
use Rattle.session.specs.Session.{counted, answer, record_with, report_text, report_number}
use Rattle.examples.specs.LedgerExamples.{LedgerExamples}

pub ledger_examples : LedgerExamples
unfolding all first range is_prime padded all_below bad_prime is_degree bad_degree bad_word ascii decimal last_digits valid valid_as valid_held view_as view paired_held table_number total letter number line lines report
    valid_work looked counted answer record_with state_from state_number full_number convert_number convert report_text report_number
ledger_examples = record { no_records = refl; a_report = refl; a_output = λ out e. rw (eq-eqb (length out) 4 e) }
