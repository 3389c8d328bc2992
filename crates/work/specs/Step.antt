-- What the calls below a session's give: a number, and the next value.
--   WorkStep       a call's number, 0 where it succeeds, and the next value
--   RecordStep     the same of a call that adds a record, and that record
--   Answers r y    r is the answer y: the next value of y where its number is 0, else the refusal
--                  with its number
--   Records r y    the same of a call that adds a record
use Rattle.std.specs.Prelude.{◌≡◌, ℕ, Result, Ok, Err}
use Rattle.ledger.specs.declared.Record.{Record}
use Rattle.refusal.specs.Number.{number}
use Rattle.refusal.specs.declared.number.Refusal.{Refusal}
use Rattle.work.specs.declared.Recorded.{Recorded}
use Rattle.work.specs.declared.Work.{Work}

pub record WorkStep : Type 0 where
  pub number : ℕ
  pub work : Work

pub record RecordStep : Type 0 where
  pub number : ℕ
  pub work : Work
  pub entry : Record

abbrev pub Answers : Result Work Refusal → WorkStep → Type 0
Answers (Ok w) y = (y.number ≡ 0) × (w ≡ y.work)
Answers (Err e) y = y.number ≡ number e

abbrev pub Records : Result Recorded Refusal → RecordStep → Type 0
Records (Ok x) y = (y.number ≡ 0) × (x.work ≡ y.work) × (x.entry ≡ y.entry)
Records (Err e) y = y.number ≡ number e
