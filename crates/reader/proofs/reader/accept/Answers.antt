-- `reader::accept`: one law for each return.
use Rattle.std.proofs.lemmas.Result.{err_from_is_err_and}
use Rattle.reader.proofs.reader.ReadFaults.{read_room, read_short, read_nonprime, read_layout, read_unknown, read_body}
use Rattle.card.proofs.Header.{short_bytes_there}
use Rattle.reader.proofs.reader.accept.Goals as goal

pub returns-then-words-ne64-clause-number : goal.returns-then-words-ne64-clause-number
returns-then-words-ne64-clause-number c = search read_room

pub returns-then-is_short-clause-number : goal.returns-then-is_short-clause-number
returns-then-is_short-clause-number c = search read_short

pub is_wide-wide-requires : goal.is_wide-wide-requires
is_wide-wide-requires c = search short_bytes_there

pub returns-then-not-is_prime-clause-number : goal.returns-then-not-is_prime-clause-number
returns-then-not-is_prime-clause-number c = search read_nonprime

pub returns-then-is_misplaced-clause-number : goal.returns-then-is_misplaced-clause-number
returns-then-is_misplaced-clause-number c = search read_layout

pub returns-in_err-kind-clause-number : goal.returns-in_err-kind-clause-number
returns-in_err-kind-clause-number c =
    let p = err_from_is_err_and c.from_residual.result c.from_residual.ensures.1 in
    rw (p.1, p.2)
    (read_unknown _ _ c.if-words-ne64.false _ c.is_short.ensures c.if-is_short.false _ _ c.header-said.ensures.prime.0 c.is_prime.ensures c.if-not-is_prime.false _ _
    c.is_wide-wide.ensures c.is_misplaced.ensures c.if-is_misplaced.false _ _ c.header-said.ensures.degree.0 c.header-said.ensures.kind _
    c.in_err-kind.ensures.0 c.in_err-kind.ensures.1 c.in_err-kind.ensures.2)

pub returns-in_err-body-clause-number : goal.returns-in_err-body-clause-number
returns-in_err-body-clause-number c =
    let p = err_from_is_err_and c.from_residual-in_err-body.result c.from_residual-in_err-body.ensures.1 in
    rw (p.1, p.2)
    (read_body _ _ c.if-words-ne64.false _ c.is_short.ensures c.if-is_short.false _ _ c.header-said.ensures.prime.0 c.is_prime.ensures c.if-not-is_prime.false _ _
    c.is_wide-wide.ensures c.is_misplaced.ensures c.if-is_misplaced.false _ _ c.header-said.ensures.degree.0 c.header-said.ensures.kind _ _ _
    c.in_ok-kind.ensures c.word_count.ensures.0 c.in_err-body.ensures)

pub returns-clause-number : goal.returns-clause-number
returns-clause-number c =
    read_body _ _ c.if-words-ne64.false _ c.is_short.ensures c.if-is_short.false _ _ c.header-said.ensures.prime.0 c.is_prime.ensures c.if-not-is_prime.false _ _
    c.is_wide-wide.ensures c.is_misplaced.ensures c.if-is_misplaced.false _ _ c.header-said.ensures.degree.0 c.header-said.ensures.kind _ _ _
    c.in_ok-kind.ensures c.word_count.ensures.0 c.in_ok-body.ensures
