-- By the pair, the room for a record, and the waiting session.
use Rattle.work.proofs.counted.Laws.{over_no_pair, over_full_ledger, waiting_decides}
use Rattle.work.proofs.counted.may_be_open.Goals as goal

pub returns-then-not-is_paired : goal.returns-then-not-is_paired
returns-then-not-is_paired c = search over_no_pair

pub returns-then-count : goal.returns-then-count
returns-then-count c = search over_full_ledger

pub returns : goal.returns
returns c = search waiting_decides
