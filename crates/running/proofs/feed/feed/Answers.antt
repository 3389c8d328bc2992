-- By whether a table is open.
use Rattle.running.proofs.feed.Laws.{feed_closed, closed_output, feed_open, open_output}
use Rattle.running.proofs.feed.feed.Goals as goal

pub returns-in-Closed-clause-value : goal.returns-in-Closed-clause-value
returns-in-Closed-clause-value c = search feed_closed

pub returns-in-Closed-clause-out_after : goal.returns-in-Closed-clause-out_after
returns-in-Closed-clause-out_after c = search closed_output

pub returns-in-Open-clause-value : goal.returns-in-Open-clause-value
returns-in-Open-clause-value c = search feed_open

pub returns-in-Open-clause-out_after : goal.returns-in-Open-clause-out_after
returns-in-Open-clause-out_after c = search open_output
