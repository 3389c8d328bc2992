-- `from_rounds`: a modulus whose rounds have no solution is refused, T1 before T2; otherwise the rounds give α1 and α2.
use Rattle.std.proofs.lemmas.Result.{err_from_is_err_and}
use Rattle.finder.proofs.construct.FromRounds.{rounds_choices}
use Rattle.finder.proofs.construct.Numbers.{six, seven}
use Rattle.finder.proofs.construct.OkOr.{some_of, none_of}
use Rattle.finder.proofs.construct.from_rounds.Goals as goal

pub returns-in_err-alpha1-clause-number : goal.returns-in_err-alpha1-clause-number
returns-in_err-alpha1-clause-number c =
    let p = err_from_is_err_and c.from_residual.result c.from_residual.ensures.1 in
    let none = none_of _ _ _ _ _ c.in_err-alpha1.ensures.value c.generator.ensures in
    rw (p.1, p.2, none.1) (six _ _ _ _ c.requires.size none.0)

pub returns-in_err-alpha2-clause-number : goal.returns-in_err-alpha2-clause-number
returns-in_err-alpha2-clause-number c =
    let p = err_from_is_err_and c.from_residual-in_err-alpha2.result c.from_residual-in_err-alpha2.ensures.1 in
    let first = some_of _ _ _ _ _ c.in_ok-alpha1.ensures.value c.generator.ensures in
    let (p_is, n_is) = c.requires.same in
    let decided = rw (p_is, n_is) at c.generator-2.ensures in
    let none = none_of _ _ _ _ _ c.in_err-alpha2.ensures.value decided in
    rw (p.1, p.2, none.1) (seven _ _ _ _ c.requires.size first.irreducible none.0)

pub between-requires-clause-choices : goal.between-requires-clause-choices
between-requires-clause-choices c =
    let first = some_of _ _ _ _ _ c.in_ok-alpha1.ensures.value c.generator.ensures in
    let (p_is, n_is) = c.requires.same in
    let decided = rw (p_is, n_is) at c.generator-2.ensures in
    let second = some_of _ _ _ _ _ c.in_ok-alpha2.ensures.value decided in
    rounds_choices _ _ _ _ _ c.requires.size _ _ first second c.requires.exponent.0 c.requires.exponent.1
