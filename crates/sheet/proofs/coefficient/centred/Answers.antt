-- v where it is at most half of p, else v − p.
use Rattle.sheet.proofs.coefficient.ReadBack.{low_is, high_is}
use Rattle.sheet.proofs.coefficient.centred.Goals as goal

pub returns-then-v-p : goal.returns-then-v-p
returns-then-v-p c = search low_is

pub returns : goal.returns
returns c = search high_is
