-- One, four or eight columns, by the number of columns.
use Rattle.std.proofs.Common.{rules}
use Rattle.restoring.proofs.columns.Some.{width_one, width_four, width_eight, width_fits, width_columns}
use Rattle.restoring.proofs.columns.restore_some.Goals as goal

pub restore_lanes-requires-clause-lanes : goal.restore_lanes-requires-clause-lanes
restore_lanes-requires-clause-lanes c = (search rules, search (width_fits, width_one))

pub restore_lanes-requires-in-4-to-7-clause-lanes : goal.restore_lanes-requires-in-4-to-7-clause-lanes
restore_lanes-requires-in-4-to-7-clause-lanes c = (search rules, search (width_fits, width_four))

pub restore_lanes-requires-in_default-clause-lanes : goal.restore_lanes-requires-in_default-clause-lanes
restore_lanes-requires-in_default-clause-lanes c = (search rules, search (width_fits, width_eight))

pub returns-in-0-to-3 : goal.returns-in-0-to-3
returns-in-0-to-3 c = search (width_columns, width_one)

pub returns-in-4-to-7 : goal.returns-in-4-to-7
returns-in-4-to-7 c = search (width_columns, width_four)

pub returns-in_default : goal.returns-in_default
returns-in_default c = search (width_columns, width_eight)
