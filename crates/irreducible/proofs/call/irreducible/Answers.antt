-- `irreducible`: a refusal from 1 to 4, or what Rabin's test decides.
use Rattle.std.proofs.lemmas.Result.{err_from_is_err_and}
use Rattle.refusal.proofs.Refused.{refused}
use Rattle.irreducible.proofs.OneModulus.{one_refused, one_given, one_accepted, one_six}
use Rattle.irreducible.proofs.call.irreducible.Goals as goal

pub returns-in_err-sent : goal.returns-in_err-sent
returns-in_err-sent c =
    let p = err_from_is_err_and c.from_residual.result c.from_residual.ensures.1 in
    rw (p.1, p.2) (one_refused _ _ _ _ c.in_err-sent.ensures (refused _))

pub is_field-requires : goal.is_field-requires
is_field-requires c = one_given _ _ _ c.in_ok-sent.ensures

pub returns-then-not-is_field : goal.returns-then-not-is_field
returns-then-not-is_field c = one_six _ _ _ c.in_ok-sent.ensures _ c.is_field.ensures c.if-not-is_field.true

pub returns : goal.returns
returns c = one_accepted _ _ _ c.in_ok-sent.ensures _ c.is_field.ensures c.if-not-is_field.false
