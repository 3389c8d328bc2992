-- By whether the session counts as itself.
use Rattle.session.proofs.Answer.{cleared_new, cleared}
use Rattle.session.proofs.CountsAs.{valid_is}
use Rattle.session.proofs.Session.clear.Goals as goal

pub returns-then-not-x : goal.returns-then-not-x
returns-then-not-x c = cleared_new c.args.self _ (valid_is c.args.self _ c.counted-x.ensures) c.if-not-x.true _ c.new.ensures

pub returns : goal.returns
returns c = cleared c.args.self _ (valid_is c.args.self _ c.counted-x.ensures) c.if-not-x.false _ c.new-empty.ensures
