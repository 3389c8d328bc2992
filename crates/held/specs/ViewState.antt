-- The state of what a value counts as, by which the code goes.
use Rattle.held.specs.Held.{View, empty, loaded, paired}
use Rattle.held.specs.declared.State.{State}
use Rattle.held.specs.declared.State.TheVariants.{Empty, Loaded, Paired}

unfoldable pub view_state : View → State
view_state empty = Empty
view_state (loaded p n t1 t2) = Loaded
view_state (paired p n t1 t2 s r) = Paired
