-- `from_eigenvectors`: a modulus without an eigenvector is refused, T1 before T2; otherwise c exists.
use Rattle.std.proofs.Common.{rules}
use Rattle.std.proofs.lemmas.Result.{err_from_is_err_and}
use Rattle.finder.proofs.construct.FromEigenvectors.{zeta_has_order}
use Rattle.finder.proofs.construct.Numbers.{first_size, six, seven}
use Rattle.finder.proofs.construct.OkOr.{some_of, none_of}
use Rattle.finder.proofs.construct.from_eigenvectors.Goals as goal

pub eigenvector-requires-clause-order : goal.eigenvector-requires-clause-order
eigenvector-requires-clause-order c = (search rules, search zeta_has_order)

pub returns-in_err-first-clause-number : goal.returns-in_err-first-clause-number
returns-in_err-first-clause-number c =
    let p = err_from_is_err_and c.from_residual.result c.from_residual.ensures.1 in
    let none = none_of _ _ _ _ _ c.in_err-first.ensures.value c.eigenvector.ensures.eigenvector in
    rw (p.1, p.2, none.1) (six _ _ _ _ (first_size _ _ c.requires.admissible) none.0)

pub eigenvector-requires-2-clause-order : goal.eigenvector-requires-2-clause-order
eigenvector-requires-2-clause-order c =
    let (p_is, n_is) = c.requires.same in
    let order = zeta_has_order _ _ c.requires.admissible c.zeta-z.result (search rules) in
    rw (p_is, n_is) (search rules, order)

pub returns-in_err-second-clause-number : goal.returns-in_err-second-clause-number
returns-in_err-second-clause-number c =
    let p = err_from_is_err_and c.from_residual-in_err-second.result c.from_residual-in_err-second.ensures.1 in
    let first = some_of _ _ _ _ _ c.in_ok-first.ensures.value c.eigenvector.ensures.eigenvector in
    let (p_is, n_is) = c.requires.same in
    let decided = rw (p_is, n_is) at c.eigenvector-2.ensures.eigenvector in
    let none = none_of _ _ _ _ _ c.in_err-second.ensures.value decided in
    rw (p.1, p.2, none.1) (seven _ _ _ _ (first_size _ _ c.requires.admissible) first.irreducible none.0)

pub from_scalings-requires-clause-first_found : goal.from_scalings-requires-clause-first_found
from_scalings-requires-clause-first_found c = some_of _ _ _ _ _ c.in_ok-first.ensures.value c.eigenvector.ensures.eigenvector

pub from_scalings-requires-clause-second_found : goal.from_scalings-requires-clause-second_found
from_scalings-requires-clause-second_found c =
    let (p_is, n_is) = c.requires.same in
    let decided = rw (p_is, n_is) at c.eigenvector-2.ensures.eigenvector in
    some_of _ _ _ _ _ c.in_ok-second.ensures.value decided
