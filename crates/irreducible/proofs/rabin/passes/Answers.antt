-- `passes`: where q divides n, the inverse of X^(p^(n/q)) − X decides.
use Rattle.irreducible.proofs.rabin.Test.{difference_holds, passes_decides, passes_vacuous}
use Rattle.irreducible.proofs.rabin.passes.Goals as goal

pub returns-then-n-q-ne0 : goal.returns-then-n-q-ne0
returns-then-n-q-ne0 c = search passes_vacuous

pub has_inverse-requires-clause-holds : goal.has_inverse-requires-clause-holds
has_inverse-requires-clause-holds c = search difference_holds

pub returns : goal.returns
returns c = search passes_decides
