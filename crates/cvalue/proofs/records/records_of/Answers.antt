use Rattle.std.proofs.Common.{rules}
use Rattle.ledger.specs.Ledger.{none}
use Rattle.ledger.proofs.Records.{Before, records_long}
use Rattle.cvalue.specs.Values.{record_of, none_value}
use Rattle.cvalue.proofs.Mapped.{mapped_none, mapped_next}
use Rattle.cvalue.proofs.records.records_of.Goals as goal

pub loop-i-init : goal.loop-i-init
loop-i-init c = search (mapped_none record_of none_value none)

pub loop-i-preserved : goal.loop-i-preserved
loop-i-preserved c =
    let b : Before c.args.v.ledger c.args.v.records c.loop-i.i = record { within = search rules; few = search rules; long = search (records_long, c.well_formed) } in
    search (mapped_next record_of none_value none, b)
