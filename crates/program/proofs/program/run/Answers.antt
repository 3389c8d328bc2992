-- What is printed is the answer to the bytes of the card that were read.
use Rattle.std.proofs.Common.{◌≤◌, length, take, subst, arith, length-take-le}
use Rattle.std.specs.Io.KnownBytes.{Appends}
use Rattle.program.proofs.Answered.{answered, on_ok, on_err}
use Rattle.program.proofs.program.run.Goals as goal

pub returns-clause-answered : goal.returns-clause-answered
returns-clause-answered g c =
    let within : c.in_ok-n.n ≤ length c.read_card.new.card = omega (arith, c.read_card.array_long, c.in_ok-n.ensures.within) in
    let whole = c.in_ok-n.ensures.whole in
    on_ok c.write_text.result
    (λ appended. answered _ _ _ _ c.in_ok-n.n c.read_card.new.card within c.in_ok-n.ensures.bytes whole (subst (Appends _ _) c.answer-k.ensures.text appended))
    c.write_text.ensures.whole

pub returns-clause-card : goal.returns-clause-card
returns-clause-card g c =
    let within : c.in_ok-n.n ≤ length c.read_card.new.card = omega (arith, c.read_card.array_long, c.in_ok-n.ensures.within) in
    let few : length (take c.in_ok-n.n c.read_card.new.card) ≤ 167 = omega (arith, length-take-le c.in_ok-n.n c.read_card.new.card within, c.in_ok-n.ensures.within) in
    on_ok c.write_text.result (λ appended. (_, few, c.in_ok-n.ensures.bytes, subst (Appends _ _) c.answer-k.ensures.text appended)) c.write_text.ensures.whole

pub returns-clause-failed : goal.returns-clause-failed
returns-clause-failed g c =
    let within : c.in_ok-n.n ≤ length c.read_card.new.card = omega (arith, c.read_card.array_long, c.in_ok-n.ensures.within) in
    let few : length (take c.in_ok-n.n c.read_card.new.card) ≤ 167 = omega (arith, length-take-le c.in_ok-n.n c.read_card.new.card within, c.in_ok-n.ensures.within) in
    on_err c.write_text.result
    (λ h. (_, h.0, few, c.in_ok-n.ensures.bytes, subst (λ l. Appends (g.W.Write.contents c.args.writer.now) (g.W.Write.contents c.write_text.new.writer) (take h.0 l)) c.answer-k.ensures.text h.1))
    c.write_text.ensures.failed
