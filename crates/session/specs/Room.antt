-- What the recording goes by; no call of a session is stated by it.
--   Room number x   a call with the number 0 that adds a record to x finds x counting as itself, and room behind its records
use Rattle.std.specs.Prelude.{◌≡◌, true, ℕ, ◌<◌}
use Rattle.ledger.specs.Ledger.{most_records}
use Rattle.session.specs.Session.{valid_session}
use Rattle.session.specs.declared.Session.{Session}

pub record Room (number : ℕ) (x : Session) : Type 0 where
  pub itself : number ≡ 0 → valid_session x ≡ true
  pub free : number ≡ 0 → x.ledger.count < most_records
