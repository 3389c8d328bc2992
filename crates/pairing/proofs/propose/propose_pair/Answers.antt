-- The number is the checker's; where it is 0 the lists fit.
use Rattle.std.proofs.Common.{refl, sym, ◌∙◌}
use Rattle.pairing.specs.Pairing.{propose_from}
use Rattle.pairing.proofs.Accepted.{proposed_number, accepted_given}
use Rattle.pairing.proofs.Answer.{refused_by, answer_number, accepted}
use Rattle.pairing.proofs.propose.propose_pair.Goals as goal

pub returns-in_err-check : goal.returns-in_err-check
unfolding propose_from
returns-in_err-check c =
    λ x. refused_by _ _ _ c.from_residual.ensures.1 (answer_number _ x _ ∙ sym (proposed_number _ _ _ _ _ _ _ c.in_err-check.ensures c.requires))

pub paired-requires : goal.paired-requires
paired-requires c = accepted_given _ _ 0 _ _ _ _ c.in_ok-check.ensures refl

pub returns : goal.returns
unfolding propose_from
returns c = λ x. accepted _ x _ _ (sym (proposed_number _ _ 0 _ _ _ _ c.in_ok-check.ensures c.requires)) c.paired.ensures
