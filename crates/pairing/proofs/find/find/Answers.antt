-- By the state of what the value counts as. The first n words of its arrays are models.
use Rattle.held.proofs.Contents.{loaded_valid}
use Rattle.held.proofs.Valid.{front_fits, front_models}
use Rattle.pairing.proofs.Calls.{find_empty, find_loaded, find_paired}
use Rattle.pairing.proofs.find.find.Goals as goal

pub front-t1-requires : goal.front-t1-requires
front-t1-requires c = search (front_fits, loaded_valid _ _ c.counts_as.ensures c.in-Loaded.is)

pub front-t2-requires : goal.front-t2-requires
front-t2-requires c = search (front_fits, loaded_valid _ _ c.counts_as.ensures c.in-Loaded.is)

pub find_pair-requires : goal.find_pair-requires
find_pair-requires c = search (front_models, loaded_valid)

pub returns-in-Empty : goal.returns-in-Empty
returns-in-Empty c = search find_empty

pub returns-in-Loaded : goal.returns-in-Loaded
returns-in-Loaded c =
    find_loaded _ _ c.counts_as.ensures c.in-Loaded.is _ _ c.front-t1.ensures c.front-t2.ensures _ (c.find_pair.ensures c.args.x)

pub returns-in-Paired : goal.returns-in-Paired
returns-in-Paired c = search find_paired
