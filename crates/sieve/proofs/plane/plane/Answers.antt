use Rattle.std.proofs.Common.{rules}
use Rattle.sieve.proofs.digits.Turns.{power_none}
use Rattle.sieve.proofs.plane.Planes.{shifted_holds, shifted_first, shifted_turn, shifted_end, plane_below, plane_first, plane_turn, plane_some, plane_room, plane_power}
use Rattle.sieve.proofs.plane.plane.Goals as goal

pub loop-init : goal.loop-init
loop-init c = (search rules, search power_none, search shifted_first, search rules, search plane_first)

pub extend-size-requires-clause-sizes : goal.extend-size-requires-clause-sizes
extend-size-requires-clause-sizes c = (search rules, search rules, search rules, search plane_some, search plane_room)

pub extend-size-requires-clause-words_below : goal.extend-size-requires-clause-words_below
extend-size-requires-clause-words_below c = search plane_below

pub loop-preserved : goal.loop-preserved
loop-preserved c = (search rules, search plane_power, search shifted_turn, search shifted_holds, search plane_turn)

pub returns-clause-value : goal.returns-clause-value
returns-clause-value c = search shifted_end
