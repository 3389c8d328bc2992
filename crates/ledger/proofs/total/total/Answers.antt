use Rattle.std.proofs.Common.{rules}
use Rattle.ledger.proofs.Records.{total_of_sum}
use Rattle.ledger.proofs.total.total.Goals as goal

pub returns : goal.returns
returns c = total_of_sum _ _ _ (search rules)
