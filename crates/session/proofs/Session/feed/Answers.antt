-- The part is converted by what the session counts as.
use Rattle.session.specs.Step.{Step}
use Rattle.session.proofs.Calls.{feed_answers, feed_writes, over_pair}
use Rattle.session.proofs.CountsAs.{valid_is, work_is}
use Rattle.session.proofs.Session.feed.Goals as goal

pub feed-requires : goal.feed-requires
feed-requires c = search (over_pair, work_is)

pub step_with-requires : goal.step_with-requires
step_with-requires c = search valid_is

pub returns-clause-value : goal.returns-clause-value
returns-clause-value c = feed_answers (λ (y : Step). y) _ _ _ (work_is _ _ c.counted-x.ensures) _ _ (c.step_with.ensures _ c.feed.ensures.value)

pub returns-clause-out_after : goal.returns-clause-out_after
returns-clause-out_after c = search (feed_writes, work_is)
