-- The refusals by where a session is, by the tests of the code.
use mathlib.Core.Path.{◌≡◌}
use mathlib.Core.Bool.{Bool, true, false}
use Prim.Native.Nat.{ℕ}
use borrow.Author.Tests.{eq-eqb, ne_eqb}
use Rattle.held.specs.Held.{valid_held}
use Rattle.held.specs.declared.State.TheVariants.{Empty, Loaded, Paired}
use Rattle.held.proofs.Contents.{empty-view, loaded-view, paired-view, valid_state}
use Rattle.ledger.specs.Ledger.{most_records}
use Rattle.work.specs.Number.{state_from, state_number, full_number}
use Rattle.work.specs.Work.{is_open}
use Rattle.work.specs.declared.Work.{Work}

module _ (x : Work) (v : valid_held x.held ≡ true) where
  pub state_empty : x.held.state ≡ Empty → 21 ≡ state_number x
  unfolding state_number state_from
  state_empty f = rw (empty-view x.held _ (valid_state x.held v) f)

  pub state_loaded : x.held.state ≡ Loaded → 22 ≡ state_number x
  unfolding state_number state_from
  state_loaded f = rw (loaded-view x.held _ (valid_state x.held v) f)

  module _ (b : Bool) (e : b ≡ is_open x.table) (f : x.held.state ≡ Paired) where
    pub state_open : b ≡ true → 27 ≡ state_number x
    unfolding state_number state_from
    state_open h = rw (paired-view x.held _ (valid_state x.held v) f, ← e, h)

    pub state_closed : b ≡ false → 0 ≡ state_number x
    unfolding state_number state_from
    state_closed h = rw (paired-view x.held _ (valid_state x.held v) f, ← e, h)

module _ (k : ℕ) where
  pub is_full : k ≡ most_records → 25 ≡ full_number k
  unfolding full_number
  is_full h = rw (eq-eqb k most_records h)

  pub has_room : (k ≡ most_records → ⊥) → 0 ≡ full_number k
  unfolding full_number
  has_room h = rw (ne_eqb k most_records h)
