-- What a session's calls give: a number, and a session.
--   Step        a call's number, 0 where it succeeds, and the next session; refused, the session
--               that was taken
--   step_of r   what the Result r of a call says of these
use Rattle.std.specs.Prelude.{ℕ, Result, Ok, Err}
use Rattle.refusal.specs.Number.{number}
use Rattle.session.specs.declared.Refused.{Refused}
use Rattle.session.specs.declared.Session.{Session}

pub record Step : Type 0 where
  pub number : ℕ
  pub session : Session

abbrev pub step_of : Result Session Refused → Step
step_of (Ok x) = record { number = 0; session = x }
step_of (Err r) = record { number = number r.refusal; session = r.session }
