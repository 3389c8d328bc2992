-- `reader::is_filled`: the zero bits of the header, then those that fill the last byte.
use Rattle.reader.proofs.reader.Scans.{fill_tested}
use Rattle.reader.proofs.reader.is_filled.Goals as goal

pub returns : goal.returns
returns c = search fill_tested
