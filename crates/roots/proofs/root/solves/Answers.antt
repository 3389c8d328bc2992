-- `solves` compares c^n·a2 with a1.
use Rattle.roots.proofs.root.RootScan.{solves_test}
use Rattle.roots.proofs.root.solves.Goals as goal

pub returns : goal.returns
returns c = search solves_test
