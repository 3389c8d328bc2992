-- The report of the session of the value, which is given back.
use Rattle.std.proofs.Common.{ap, ◌∙◌}
use Rattle.cvalue.proofs.Calls.{report_gives}
use Rattle.capi.proofs.sessions.yokebean_session_report.Goals as goal

pub returns-in-Ok-clause-value : goal.returns-in-Ok-clause-value
returns-in-Ok-clause-value c = report_gives _ _ c.session_of.ensures _ _ c.in-Ok.ensures.value

pub returns-in-Err-clause-value : goal.returns-in-Err-clause-value
returns-in-Err-clause-value c =
    ap (λ k. record { number = k; session = c.args.session }) c.into-number.ensures ∙ report_gives _ _ c.session_of.ensures _ _ c.in-Err.ensures.value
