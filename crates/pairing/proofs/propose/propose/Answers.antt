-- By the state of what the value counts as. The first n words of its arrays are models.
use Rattle.held.proofs.Contents.{loaded_valid}
use Rattle.held.proofs.Valid.{front_fits, front_models}
use Rattle.pairing.proofs.Calls.{propose_empty, propose_loaded, propose_paired}
use Rattle.pairing.proofs.propose.propose.Goals as goal

pub front-t1-requires : goal.front-t1-requires
front-t1-requires c = search (front_fits, loaded_valid _ _ c.counts_as.ensures c.in-Loaded.is)

pub front-t2-requires : goal.front-t2-requires
front-t2-requires c = search (front_fits, loaded_valid _ _ c.counts_as.ensures c.in-Loaded.is)

pub propose_pair-requires : goal.propose_pair-requires
propose_pair-requires c = search (front_models, loaded_valid)

pub returns-in-Empty : goal.returns-in-Empty
returns-in-Empty c = search propose_empty

pub returns-in-Loaded : goal.returns-in-Loaded
returns-in-Loaded c =
    propose_loaded _ _ c.counts_as.ensures _ _ c.in-Loaded.is _ _ c.front-t1.ensures c.front-t2.ensures _ (c.propose_pair.ensures c.args.x)

pub returns-in-Paired : goal.returns-in-Paired
returns-in-Paired c = search propose_paired
