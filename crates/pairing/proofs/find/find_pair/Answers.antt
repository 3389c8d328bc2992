-- Where the number is 0 the lists hold the finder's pair.
use Rattle.std.proofs.Common.{refl, sym, ◌∙◌}
use Rattle.pairing.specs.Pairing.{find_from}
use Rattle.pairing.proofs.Answer.{refused_by, answer_number, accepted}
use Rattle.pairing.proofs.find.Laws.{fronts, found_number, found_given, found_paired}
use Rattle.pairing.proofs.find.find_pair.Goals as goal

pub returns-in_err-find : goal.returns-in_err-find
unfolding find_from
returns-in_err-find c =
    λ x. refused_by _ _ _ c.from_residual.ensures.1
    (answer_number _ x _ ∙ sym (found_number _ _ _ _ _ _ _ c.requires (fronts c.requires) c.in_err-find.ensures.value))

pub paired-requires : goal.paired-requires
paired-requires c =
    found_given _ _ 0 _ _ _ _ c.requires (fronts c.requires) c.in_ok-find.ensures.value refl _ _ c.in_ok-find.ensures.s_after c.in_ok-find.ensures.r_after

pub returns : goal.returns
unfolding find_from
returns c =
    λ x.
    accepted _ x _ _ (sym (found_number _ _ 0 _ _ _ _ c.requires (fronts c.requires) c.in_ok-find.ensures.value))
    (found_paired _ _ 0 _ _ _ _ c.requires (fronts c.requires) c.in_ok-find.ensures.value refl _ _
    c.in_ok-find.ensures.s_after c.in_ok-find.ensures.r_after _ c.paired.ensures)
