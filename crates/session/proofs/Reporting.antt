-- The report is that of the ledger of what the session counts as, and is written where the output list has its length.
use mathlib.Core.Path.{◌≡◌, sym, ap, ◌∙◌}
use mathlib.Core.Bool.{true, false, not}
use mathlib.Core.List.{List}
use Prim.Native.Nat.{ℕ, ◌≤◌}
use lib.Dec.{eqb}
use lib.ListN.{length}
use borrow.Author.Tests.{not-true, not-false, eq-eqb, ne_eqb}
use Rattle.ledger.specs.Ledger as Ledger
use Rattle.ledger.specs.Ledger.{most_records, records_of}
use Rattle.work.specs.Counted.{counted_as}
use Rattle.work.specs.declared.counted.CountsAs.{CountsAs}
use Rattle.session.specs.Session.{new_session, counted, report_text, report_number, report, report_output}
use Rattle.session.specs.declared.Session.{Session}
use Rattle.session.proofs.CountsAs.{valid_is, work_is, counted_itself, counted_new, counted_parts}

-- what the session counts as, by the test of the code
module _ (x : Session) (c : CountsAs) (e : c ≡ counted_as x.work x.ledger.count) where
  pub counts_new : not c.valid ≡ true → (y : Session) → y ≡ new_session → y ≡ counted x
  counts_new h y f = f ∙ sym (counted_new x (sym (valid_is x c e) ∙ not-true c.valid h))

  pub counts_itself : not c.valid ≡ false → record { work = c.work; ledger = x.ledger } ≡ counted x
  counts_itself h =
      let own = counted_itself x (sym (valid_is x c e) ∙ not-false c.valid h) in
      ap (λ w. record { work = w; ledger = x.ledger }) (work_is x c e ∙ ap (λ y. y.work) own) ∙ sym own

module _ (x y : Session) (e : y ≡ counted x) where
  pub few_records : y.ledger.count ≤ most_records
  few_records = rw e (counted_parts x).few

  text_is : Ledger.report (records_of y.ledger) ≡ report_text x
  unfolding report_text
  text_is = ap (λ z. Ledger.report (records_of z.ledger)) e

  module _ (k : ℕ) (f : k ≡ length (Ledger.report (records_of y.ledger))) where
    pub report_long : k ≡ length (report_text x)
    report_long = f ∙ ap length text_is

    module _ (out : List ℕ) where
      module _ (other : length out ≡ k → ⊥) where
        differs : eqb (length out) (length (report_text x)) ≡ false
        differs = ne_eqb (length out) (length (report_text x)) (λ z. other (z ∙ sym report_long))

        pub report_refused : record { number = 3; session = x } ≡ report x out
        unfolding report_number
        report_refused = rw differs

        pub nothing_written : out ≡ report_output x out
        unfolding report_number
        nothing_written = rw differs

      module _ (own : length out ≡ k) where
        pub room_is : length out ≡ length (Ledger.report (records_of y.ledger))
        room_is = own ∙ f

        agrees : eqb (length out) (length (report_text x)) ≡ true
        agrees = eq-eqb (length out) (length (report_text x)) (own ∙ report_long)

        pub report_accepted : record { number = 0; session = x } ≡ report x out
        unfolding report_number
        report_accepted = rw agrees

        pub report_written : (after : List ℕ) → after ≡ Ledger.report (records_of y.ledger) → after ≡ report_output x out
        unfolding report_number
        report_written after g = rw agrees (g ∙ text_is)
