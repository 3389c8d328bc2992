-- Reports (document 02, S-2), computed: of no records, and of example A of document 01 with two residues forward and none back.
use Rattle.std.specs.Prelude.{◌≡◌, List, [], ◌∷◌, ℕ, length}
use Rattle.text.specs.Ascii.{ascii}
use Rattle.ledger.specs.declared.Direction.TheVariants.{Forward, Back}
use Rattle.session.specs.Session.{new_session, convert, report_text, report_output}
use Rattle.examples.specs.Examples.{pair_of_a}

pub record LedgerExamples : Type 0 where
  pub no_records : report_text new_session ≡ ascii "0\n0\n"
  pub a_report :
      report_text (convert Back (convert Forward pair_of_a (1 ∷ 1 ∷ 0 ∷ 2 ∷ []) (0 ∷ 0 ∷ 0 ∷ 0 ∷ [])).session [] []).session ≡ ascii "F 2\nB 0\n2\n0\n"
  pub a_output : (out : List ℕ) → length out ≡ 4 → report_output pair_of_a out ≡ ascii "0\n0\n"
