-- The session that load, propose and find act on, by the open table.
use mathlib.Core.Path.{◌≡◌}
use Rattle.held.specs.declared.Held.{Held}
use Rattle.ledger.specs.declared.Record.{Record}
use Rattle.work.specs.Work.{addressed, with_addressed}
use Rattle.work.specs.declared.Table.TheVariants.{Closed, Open}
use Rattle.work.specs.declared.Work.{Work}

module _ (x : Work) where
  module _ (e : x.table ≡ Closed) where
    pub current_addressed : x.held ≡ addressed x
    unfolding addressed
    current_addressed = rw e

    pub current_replaced : (h : Held) → record { held = h; table = x.table; waiting = x.waiting } ≡ with_addressed x h
    unfolding with_addressed
    current_replaced h = rw e

  module _ (r : Record) (e : x.table ≡ Open r) where
    pub waiting_addressed : x.waiting ≡ addressed x
    unfolding addressed
    waiting_addressed = rw e

    pub waiting_replaced : (h : Held) → record { held = x.held; table = x.table; waiting = h } ≡ with_addressed x h
    unfolding with_addressed
    waiting_replaced h = rw e
