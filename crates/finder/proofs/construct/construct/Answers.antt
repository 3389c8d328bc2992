-- `construct`: where n divides p − 1, the first method; otherwise 5, or the second.
use Rattle.std.proofs.lemmas.Result.{err_from_is_err_and}
use Rattle.finder.proofs.construct.Numbers.{refused_degree, second_size, exponent_size}
use Rattle.finder.proofs.construct.OkOr.{some_of, none_of}
use Rattle.finder.proofs.construct.construct.Goals as goal

pub returns-in_err-k-clause-number : goal.returns-in_err-k-clause-number
returns-in_err-k-clause-number c =
    let p = err_from_is_err_and c.from_residual.result c.from_residual.ensures.1 in
    let none = none_of _ _ _ _ _ c.in_err-k.ensures.value c.exponent.ensures in
    rw (p.1, p.2, none.1) (refused_degree _ _ _ _ c.if-p-n-eq0.false none.0)

pub from_rounds-requires-clause-size : goal.from_rounds-requires-clause-size
from_rounds-requires-clause-size c =
    let k = some_of _ _ _ _ _ c.in_ok-k.ensures.value c.exponent.ensures in search (second_size, k.0, k.1)

pub from_rounds-requires-clause-exponent : goal.from_rounds-requires-clause-exponent
from_rounds-requires-clause-exponent c =
    let k = some_of _ _ _ _ _ c.in_ok-k.ensures.value c.exponent.ensures in (k.0, exponent_size _ _ _ k.0 k.1)
