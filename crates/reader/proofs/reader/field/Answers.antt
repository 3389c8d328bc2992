-- `reader::field`: the whole bytes, without the bits behind the field and before it.
use Rattle.std.proofs.Common.{rules}
use Rattle.reader.proofs.WholeBytes.{field_code}
use Rattle.reader.proofs.reader.field.Goals as goal

pub returns : goal.returns
returns c = field_code _ _ _ (search rules) _ c.whole_bytes-value.ensures (search rules)
