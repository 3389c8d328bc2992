-- `answer`: the moduli hold the lists.
use Rattle.std.proofs.Common.{◌≡◌, IfOk, sym, ◌∙◌}
use Rattle.refusal.specs.Number.{number_of}
use Rattle.finder.specs.Construct.{FoundPair}
use Rattle.finder.specs.Finder.{refuse_find}
use Rattle.finder.proofs.find.FindAnswer.{in_range, of_lists}
use Rattle.finder.proofs.find.answer.Goals as goal

pub load-t1-requires : goal.load-t1-requires
load-t1-requires c = record { prime = in_range _ _ _ _ c.requires; degree = c.requires.degree; words = c.requires.modulus1 }

pub load-t2-requires : goal.load-t2-requires
load-t2-requires c = record { prime = in_range _ _ _ _ c.requires; degree = c.requires.degree; words = c.requires.modulus2 }

pub construct-requires : goal.construct-requires
construct-requires c =
    let (p1, n1, _) = c.load-t1.ensures in
    let (p2, n2, _) = c.load-t2.ensures in
    record { prime = rw p1 c.requires.prime; same = (p2 ∙ sym p1, n2 ∙ sym n1) }

pub returns-clause-number : goal.returns-clause-number
returns-clause-number c =
    let (p1, n1, words1) = c.load-t1.ensures in
    let (_, _, words2) = c.load-t2.ensures in
    of_lists _ _ _ _ c.requires
    (λ x y. number_of c.construct.result ≡ refuse_find c.args.p c.args.n x y) _ _ words1 words2 (rw (p1, n1) at c.construct.ensures.number)

pub returns-clause-pair : goal.returns-clause-pair
returns-clause-pair c =
    let (p1, n1, words1) = c.load-t1.ensures in
    let (_, _, words2) = c.load-t2.ensures in
    of_lists _ _ _ _ c.requires
    (λ x y. IfOk c.construct.result (λ pair. FoundPair c.args.p c.args.n x y 0 pair.forward pair.backward))
    _ _ words1 words2 (rw (p1, n1) at c.construct.ensures.pair)
