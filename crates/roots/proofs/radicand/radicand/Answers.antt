use Rattle.roots.proofs.Radicands.{scan_start, scan_within, scan_turn, scan_found, scan_end}
use Rattle.roots.proofs.radicand.radicand.Goals as goal

pub loop-w-init : goal.loop-w-init
loop-w-init c = search scan_start

pub next-w-requires-clause-below : goal.next-w-requires-clause-below
next-w-requires-clause-below c = search scan_within

pub loop-w-preserved : goal.loop-w-preserved
loop-w-preserved c = search scan_turn

pub returns : goal.returns
returns c = (search scan_end, search scan_found)
