-- By whether the session is valid.
use Rattle.session.proofs.Reporting.{counts_new, counts_itself}
use Rattle.session.proofs.Session.counted.Goals as goal

pub returns-then-not-x : goal.returns-then-not-x
returns-then-not-x c = search counts_new

pub returns : goal.returns
returns c = search counts_itself
