-- `reader::is_wide`: the field of the first 16 bits is 0.
use Rattle.reader.proofs.reader.ReadFaults.{wide_test}
use Rattle.reader.proofs.reader.is_wide.Goals as goal

pub returns : goal.returns
returns c = search wide_test
