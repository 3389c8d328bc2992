-- By the state, the table, how many records count, and their directions.
use Rattle.cvalue.proofs.sessions.Laws.{state_past, table_unmade, records_past, directions_decide}
use Rattle.cvalue.proofs.Directions.{directions_tested}
use Rattle.cvalue.proofs.sessions.is_made.Goals as goal

pub returns-then-v-gt2 : goal.returns-then-v-gt2
returns-then-v-gt2 c = search state_past

pub returns-then-not-is_table : goal.returns-then-not-is_table
returns-then-not-is_table c = search table_unmade

pub returns-then-v-gt512 : goal.returns-then-v-gt512
returns-then-v-gt512 c = search records_past

pub returns : goal.returns
returns c = let e = directions_tested _ _ c.have_directions.ensures in search (directions_decide, e)
