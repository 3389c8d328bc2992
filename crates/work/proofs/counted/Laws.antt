-- What a value counts as, by the tests of the code.
use mathlib.Core.Path.{◌≡◌, refl, ap, ◌∙◌}
use mathlib.Core.Bool.{Bool, true, false, not}
use Prim.Native.Nat.{ℕ, ◌≤◌, ◌<◌}
use denote.Enum.Bare.{sameb}
use borrow.Author.Tests.{not-true, not-false, le-leb, lt-leb, eq-eqb, ne_eqb}
use Rattle.held.specs.Held.{view, valid_held, new_held}
use Rattle.held.specs.declared.Held.{Held}
use Rattle.held.specs.ViewState.{view_state}
use Rattle.held.specs.contracts.State.{the_type}
use Rattle.held.specs.declared.State.{State}
use Rattle.held.specs.declared.State.TheVariants.{Empty, Loaded, Paired}
use Rattle.held.proofs.Contents.{empty-view, loaded-view, paired-view, valid_state}
use Rattle.ledger.specs.Ledger.{most_records}
use Rattle.ledger.specs.declared.Record.{Record}
use Rattle.work.specs.Work.{new_work, is_paired, is_open, may_be_open, valid_table, valid_work, looked, waiting_as}
use Rattle.work.specs.Counted.{counted_as}
use Rattle.work.specs.declared.Table.{Table}
use Rattle.work.specs.declared.Table.TheVariants.{Closed, Open}
use Rattle.work.specs.declared.Work.{Work}

pub held_passed : (x : Held) (b : Bool) → b ≡ valid_held x → not b ≡ false → valid_held x ≡ true
held_passed x b e n = rw (← e) (not-false b n)

-- whether a valid value is paired
pub paired_state : (x : Held) → valid_held x ≡ true → sameb the_type x.state Paired ≡ is_paired (view x)
unfolding is_paired
paired_state x v = go x.state (valid_state x v)
  where
    go : (s : State) → s ≡ view_state (view x) → sameb the_type s Paired ≡ is_paired (view x)
    go Empty e = rw (empty-view x Empty e refl) refl
    go Loaded e = rw (loaded-view x Loaded e refl) refl
    go Paired e = rw (paired-view x Paired e refl) refl

-- whether a table may be open
module _ (h : Held) (k : ℕ) (w : Held) (b : Bool) (e : b ≡ is_paired (view h)) where
  pub over_no_pair : not b ≡ true → false ≡ may_be_open h k w
  unfolding may_be_open
  over_no_pair n = rw (← e, not-true b n)

  module _ (n : not b ≡ false) where
    pub over_full_ledger : k ≡ most_records → false ≡ may_be_open h k w
    unfolding may_be_open
    over_full_ledger f = rw (← e, not-false b n, eq-eqb k most_records f)

    pub waiting_decides : (k ≡ most_records → ⊥) → (c : Bool) → c ≡ valid_held w → c ≡ may_be_open h k w
    unfolding may_be_open
    waiting_decides f c g = rw (← e, not-false b n, ne_eqb k most_records f) g

-- whether a value counts as itself
closed_valid : (t : Table) (h : Held) (k : ℕ) (w : Held) → is_open t ≡ false → true ≡ valid_table t h k w
closed_valid Closed h k w e = refl
closed_valid (Open x) h k w e = cc

open_valid : (t : Table) (h : Held) (k : ℕ) (w : Held) → is_open t ≡ true → may_be_open h k w ≡ valid_table t h k w
open_valid Closed h k w e = cc
open_valid (Open x) h k w e = refl

module _ (x : Work) (k : ℕ) where
  pub past_limit : most_records < k → false ≡ valid_work x k
  unfolding valid_work
  past_limit l = rw (lt-leb k most_records l)

  module _ (few : k ≤ most_records) (b : Bool) (e : b ≡ valid_held x.held) where
    pub held_refused : not b ≡ true → false ≡ valid_work x k
    unfolding valid_work
    held_refused n = rw (le-leb k most_records few, ← e, not-true b n)

    module _ (n : not b ≡ false) (o : Bool) (f : o ≡ is_open x.table) where
      pub closed_decides : not o ≡ true → true ≡ valid_work x k
      unfolding valid_work
      closed_decides m = rw (le-leb k most_records few, ← e, not-false b n) (closed_valid x.table _ k _ (rw (← f) (not-true o m)))

      pub open_decides : not o ≡ false → (c : Bool) → c ≡ may_be_open x.held k x.waiting → c ≡ valid_work x k
      unfolding valid_work
      open_decides m c g = rw (le-leb k most_records few, ← e, not-false b n) (g ∙ open_valid x.table _ k _ (rw (← f) (not-false o m)))

-- what is looked at
module _ (x : Work) where
  pub looked_closed : x.table ≡ Closed → (w : Held) → w ≡ new_held → record { held = x.held; table = x.table; waiting = w } ≡ looked x
  unfolding looked
  looked_closed e w f = rw (e, f)

  pub looked_open : (r : Record) → x.table ≡ Open r → x ≡ looked x
  unfolding looked
  looked_open r e = ap (λ w. record { held = x.held; table = x.table; waiting = w }) (go x.table e)
    where
      go : (t : Table) → t ≡ Open r → x.waiting ≡ waiting_as t x.waiting
      go Closed e = cc
      go (Open s) e = refl

-- what a value counts as
module _ (x : Work) (k : ℕ) (b : Bool) (e : b ≡ valid_work x k) where
  pub counted_new : not b ≡ true → (y : Work) → y ≡ new_work → record { valid = false; work = y; count = 0 } ≡ counted_as x k
  unfolding counted_as
  counted_new n y f = rw (← e, not-true b n, f)

  pub counted_itself : not b ≡ false → (y : Work) → y ≡ looked x → record { valid = true; work = y; count = k } ≡ counted_as x k
  unfolding counted_as
  counted_itself n y f = rw (← e, not-false b n, f)
