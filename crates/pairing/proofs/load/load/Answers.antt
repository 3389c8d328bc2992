-- By the state of what the value counts as; where the lists pass, they are models.
use Rattle.std.proofs.Common.{refl, sym, ◌∙◌}
use Rattle.pairing.proofs.Accepted.{loaded_models}
use Rattle.pairing.proofs.Answer.{refused_by}
use Rattle.pairing.proofs.Calls.{load_number, load_next, load_held}
use Rattle.pairing.proofs.load.load.Goals as goal

pub returns-in_err-sent-in-Empty : goal.returns-in_err-sent-in-Empty
returns-in_err-sent-in-Empty c =
    refused_by _ _ _ c.from_residual.ensures.1 (load_number _ _ c.counts_as.ensures _ _ _ _ c.in-Empty.is ∙ sym c.in_err-sent-in-Empty.ensures)

pub loaded-requires : goal.loaded-requires
loaded-requires c = loaded_models _ _ 0 _ _ c.in_ok-sent-in-Empty.ensures refl

pub returns-in_ok-sent-in-Empty : goal.returns-in_ok-sent-in-Empty
returns-in_ok-sent-in-Empty c = load_next _ _ c.counts_as.ensures _ _ _ _ c.in-Empty.is (sym c.in_ok-sent-in-Empty.ensures) _ c.loaded.ensures

pub returns-in-Loaded : goal.returns-in-Loaded
returns-in-Loaded c = load_held _ _ c.counts_as.ensures _ _ _ _ c.in-Loaded.is
