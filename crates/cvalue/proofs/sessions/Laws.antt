-- The session of a value and what it counts as, by the tests of the code.
--   state_past, table_unmade, records_past, directions_decide   whether a value is made
--   counts_unmade, counts_made                                  what a value counts as
--   unmade_session, records_few, session_made                  the session of a value
use mathlib.Core.Path.{◌≡◌, sym, ap, ◌∙◌}
use mathlib.Core.Bool.{Bool, true, false, not}
use mathlib.Core.List.{List, map}
use Prim.Native.Nat.{◌≤◌, ◌<◌}
use borrow.Author.Tests.{not-true, not-false, le-leb, lt-leb}
use lib.ListN.{take}
use Rattle.algebra.specs.Lists.{all}
use Rattle.ledger.specs.Ledger.{most_records, none}
use Rattle.ledger.specs.declared.Record.{Record}
use Rattle.work.specs.Counted.{counted_as}
use Rattle.work.specs.Work.{new_work}
use Rattle.work.specs.declared.Work.{Work}
use Rattle.work.specs.declared.counted.CountsAs.{CountsAs}
use Rattle.session.specs.Session.{new_session}
use Rattle.session.specs.declared.Session.{Session}
use Rattle.cvalue.specs.Inner.{valid_value, counts_value}
use Rattle.cvalue.specs.Values.{table_made, record_of, has_direction, made, up_to, work_of, session_of}
use Rattle.cvalue.specs.declared.SessionValue.{SessionValue}
use Rattle.cvalue.proofs.Counting.{few_records}

-- whether a value is made
module _ (v : SessionValue) where
  pub state_past : 2 < v.held.state → false ≡ made v
  unfolding made
  state_past h = rw (lt-leb v.held.state 2 h)

  module _ (low : v.held.state ≤ 2) (b : Bool) (e : b ≡ table_made v.table v.waiting.state) where
    pub table_unmade : not b ≡ true → false ≡ made v
    unfolding made
    table_unmade n = rw (le-leb v.held.state 2 low, ← e, not-true b n)

    module _ (n : not b ≡ false) where
      pub records_past : most_records < v.records → false ≡ made v
      unfolding made
      records_past h = rw (le-leb v.held.state 2 low, ← e, not-false b n, lt-leb v.records most_records h)

      pub directions_decide : v.records ≤ most_records → (d : Bool) → d ≡ all has_direction (take v.records v.ledger) → d ≡ made v
      unfolding made
      directions_decide h d f = rw (le-leb v.held.state 2 low, ← e, not-false b n, le-leb v.records most_records h) f

module _ (v : SessionValue) (b : Bool) (e : b ≡ made v) where
  -- what a value counts as
  pub counts_unmade : not b ≡ true → (w : Work) → w ≡ new_work → record { valid = false; work = w; count = 0 } ≡ counts_value v
  unfolding counts_value valid_value
  counts_unmade n w f = rw (← e, not-true b n, f)

  pub counts_made : not b ≡ false → (w : Work) → w ≡ work_of v → (c : CountsAs) → c ≡ counted_as w v.records → c ≡ counts_value v
  unfolding counts_value valid_value counted_as
  counts_made n w f c g = rw (← e, not-false b n) (g ∙ ap (λ u. counted_as u v.records) f)

  -- the session of a value
  pub unmade_session : not b ≡ true → (x : Session) → x ≡ new_session → x ≡ session_of v
  unfolding session_of
  unmade_session n x f = rw (← e, not-true b n) f

  module _ (n : not b ≡ false) where
    pub records_few : v.records ≤ most_records
    records_few = few_records v (sym e ∙ not-false b n)

    pub session_made : (w : Work) (xs : List Record) → w ≡ work_of v → xs ≡ up_to most_records none (map record_of (take v.records v.ledger))
        → record { work = w; ledger = record { count = v.records; records = xs } } ≡ session_of v
    unfolding session_of
    session_made w xs f g = rw (← e, not-false b n, f, g)
