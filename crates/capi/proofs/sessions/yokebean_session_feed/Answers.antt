-- The part is converted by what the value counts as.
use Rattle.cvalue.proofs.Calls.{feed_gives, feed_fills, open_over_pair}
use Rattle.cvalue.proofs.Counting.{value_valid}
use Rattle.capi.proofs.sessions.yokebean_session_feed.Goals as goal

pub feed-requires : goal.feed-requires
feed-requires c = search open_over_pair

pub work_answers-requires : goal.work_answers-requires
work_answers-requires c = search value_valid

pub returns-clause-value : goal.returns-clause-value
returns-clause-value c = feed_gives _ _ c.counted_value-x.ensures _ _ _ (c.work_answers.ensures _ c.feed.ensures.value)

pub returns-clause-out_after : goal.returns-clause-out_after
returns-clause-out_after c = search feed_fills
