-- The calls over C: each goes by what the value v counts as, and answers as the call of its session does. These are the laws of sessions, with the answer
-- of a call as a value.
--   load_gives, propose_gives, find_gives, convert_gives, begin_gives, feed_gives, end_gives, clear_gives, report_gives    the answers
--   convert_fills, feed_fills                      what the lent list then holds
--   held_counts_valid, open_over_pair              what the functions below these calls ask for
--   convert_recordable, end_recordable             where a record is added the value counts as itself and has room
use mathlib.Core.Path.{◌≡◌, ap, ◌∙◌}
use mathlib.Core.Bool.{true}
use mathlib.Core.List.{List}
use Prim.Native.Nat.{ℕ}
use Rattle.held.specs.Held.{valid_held}
use Rattle.held.specs.declared.Held.{Held}
use Rattle.pairing.specs.Pairing as Pairing
use Rattle.ledger.specs.declared.Direction.{Direction}
use Rattle.work.specs.Work.{new_work, addressed}
use Rattle.work.specs.declared.Work.{Work}
use Rattle.work.specs.declared.counted.CountsAs.{CountsAs}
use Rattle.conversion.specs.Conversion as Conversion
use Rattle.running.specs.OverPair.{OverPair}
use Rattle.running.specs.Running as Running
use Rattle.session.specs.Session.{step_with, placed, load, propose, find, record_with, convert, convert_output, begin, feed, feed_output, end, report, clear}
use Rattle.session.specs.declared.Session.{Session}
use Rattle.session.specs.Step.{Step}
use Rattle.session.proofs.Calls as Calls
use Rattle.cvalue.specs.Inner.{counts_value, Recordable}
use Rattle.cvalue.specs.Values.{session_of, step_of, given_back}
use Rattle.cvalue.specs.declared.SessionValue.{SessionValue}
use Rattle.cvalue.specs.declared.StepValue.{StepValue}
use Rattle.cvalue.proofs.Counting.{value_work, value_count, recordable}

module _ (v : SessionValue) (c : CountsAs) (e : c ≡ counts_value v) where
  pub held_counts_valid : valid_held c.work.held ≡ true
  held_counts_valid = Calls.held_valid (session_of v) c.work (value_work v c e)

  pub open_over_pair : OverPair c.work
  open_over_pair = Calls.over_pair (session_of v) c.work (value_work v c e)

  module _ (r : StepValue) where
    module _ (z : Held) (g : z ≡ addressed c.work) where
      pub load_gives : (p n : ℕ) (t1 t2 : List ℕ) → r ≡ step_of v (step_with (session_of v) (placed c.work (Pairing.load z p n t1 t2)))
          → r ≡ step_of v (load (session_of v) p n t1 t2)
      load_gives = Calls.load_answers (step_of v) (session_of v) r c.work (value_work v c e) z g

      pub propose_gives : (s t : List ℕ) → r ≡ step_of v (step_with (session_of v) (placed c.work (Pairing.propose z s t)))
          → r ≡ step_of v (propose (session_of v) s t)
      propose_gives = Calls.propose_answers (step_of v) (session_of v) r c.work (value_work v c e) z g

      pub find_gives : r ≡ step_of v (step_with (session_of v) (placed c.work (Pairing.find z))) → r ≡ step_of v (find (session_of v))
      find_gives = Calls.find_answers (step_of v) (session_of v) r c.work (value_work v c e) z g

    pub begin_gives : (d : Direction) → r ≡ step_of v (step_with (session_of v) (Running.begin d c.work c.count)) → r ≡ step_of v (begin d (session_of v))
    begin_gives = Calls.begin_answers (step_of v) (session_of v) r c.work (value_work v c e) c.count (value_count v c e)

    pub feed_gives : (table out : List ℕ) → r ≡ step_of v (step_with (session_of v) (Running.feed c.work table out))
        → r ≡ step_of v (feed (session_of v) table out)
    feed_gives = Calls.feed_answers (step_of v) (session_of v) r c.work (value_work v c e)

    pub convert_gives : (d : Direction) (table out : List ℕ) → r ≡ step_of v (record_with (session_of v) (Conversion.convert d c.work c.count table out))
        → r ≡ step_of v (convert d (session_of v) table out)
    convert_gives = Calls.convert_answers (step_of v) (session_of v) r c.work (value_work v c e) c.count (value_count v c e)

    pub end_gives : r ≡ step_of v (record_with (session_of v) (Running.end c.work)) → r ≡ step_of v (end (session_of v))
    end_gives = Calls.end_answers (step_of v) (session_of v) r c.work (value_work v c e)

  pub feed_fills : (table out after : List ℕ) → after ≡ Running.feed_output c.work table out → after ≡ feed_output (session_of v) table out
  feed_fills = Calls.feed_writes (session_of v) c.work (value_work v c e)

  pub convert_fills : (d : Direction) (table out after : List ℕ) → after ≡ Conversion.convert_output d c.work c.count table out
      → after ≡ convert_output d (session_of v) table out
  convert_fills = Calls.convert_writes (session_of v) c.work (value_work v c e) c.count (value_count v c e)

  pub convert_recordable : (d : Direction) (table out : List ℕ) (k : ℕ) → k ≡ (Conversion.convert d c.work c.count table out).number → Recordable v k
  convert_recordable d table out k h =
      recordable v k (Calls.convert_records (session_of v) c.work (value_work v c e) c.count (value_count v c e) d table out k h)

  pub end_recordable : (k : ℕ) → k ≡ (Running.end c.work).number → Recordable v k
  end_recordable k h = recordable v k (Calls.end_records (session_of v) c.work (value_work v c e) k h)

pub clear_gives : (v : SessionValue) (w : Work) → w ≡ new_work → (r : StepValue) → r ≡ step_of v (step_with (session_of v) (record { number = 0; work = w }))
    → r ≡ step_of v (clear (session_of v))
clear_gives v w f r = Calls.clear_answers (step_of v) (session_of v) r w f

pub report_gives : (v : SessionValue) (x : Session) → x ≡ session_of v → (out : List ℕ) (y : Step) → y ≡ report x out
    → record { number = y.number; session = v } ≡ given_back v (report (session_of v) out)
unfolding given_back
report_gives v x e out y g = ap (given_back v) (g ∙ ap (λ x. report x out) e)
