-- `reader::is_short`: one law for each outcome of its tests.
use Rattle.reader.proofs.reader.ReadFaults.{short_bytes, wide_decides, narrow_there}
use Rattle.reader.proofs.reader.is_short.Goals as goal

pub returns-then-card-lt3 : goal.returns-then-card-lt3
returns-then-card-lt3 c = search short_bytes

pub returns-then-is_wide : goal.returns-then-is_wide
returns-then-is_wide c = search wide_decides

pub returns-else-is_wide : goal.returns-else-is_wide
returns-else-is_wide c = search narrow_there
