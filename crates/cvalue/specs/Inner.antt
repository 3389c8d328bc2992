-- What the functions below the calls go by; no call is stated by these.
--   valid_value v        v counts as itself: it is made, and its session is valid
--   counts_value v       what v counts as: whether it is itself, or else a new one, without records
--   Recordable v number  a call with the number 0 that adds a record finds v counting as itself, and room behind its records
use Rattle.std.specs.Prelude.{◌≡◌, Bool, true, ◌&&◌, ℕ, ◌<◌}
use Rattle.ledger.specs.Ledger.{most_records}
use Rattle.work.specs.Counted.{counted_if}
use Rattle.work.specs.Work.{valid_work}
use Rattle.work.specs.declared.counted.CountsAs.{CountsAs}
use Rattle.cvalue.specs.Values.{made, work_of}
use Rattle.cvalue.specs.declared.SessionValue.{SessionValue}

unfoldable pub valid_value : SessionValue → Bool
valid_value v = made v && valid_work (work_of v) v.records

unfoldable pub counts_value : SessionValue → CountsAs
counts_value v = counted_if (valid_value v) (work_of v) v.records

pub record Recordable (v : SessionValue) (number : ℕ) : Type 0 where
  pub itself : number ≡ 0 → valid_value v ≡ true
  pub free : number ≡ 0 → v.records < most_records
