-- Sessions over C follow those of the library: a value that calls made has the session's records, with none after them, so that it is taken for that
-- session again.
use mathlib.Core.Path.{◌≡◌, refl, sym, ap, ap₂, subst, ◌∙◌}
use mathlib.Core.Bool.{true}
use mathlib.Core.List.{List, [], ◌∷◌, map}
use Prim.Native.Nat.{ℕ, zero, suc, ◌≤◌}
use native.Mathlib.Omega.{arith}
use borrow.Author.Tests.{le-leb}
use lib.ListN.{length, take, drop, set, length-append, length-drop, length-map}
use lib.Seq.{length-take-le, take_at}
use Rattle.algebra.specs.Lists.{all}
use Rattle.ledger.specs.Ledger.{most_records, none, records_of, added}
use Rattle.ledger.specs.declared.Ledger.{Ledger}
use Rattle.ledger.specs.declared.Record.{Record}
use Rattle.ledger.proofs.Theorem.{added_behind}
use Rattle.work.specs.Work.{new_work}
use Rattle.work.specs.Step.{WorkStep, RecordStep}
use Rattle.session.specs.Session.{new_session, counted, answer, step_with, record_with}
use Rattle.runs.specs.Theorem.{Call, call_load, call_propose, call_find, call_convert, call_begin, call_feed, call_end, call_report, call_clear, next, run}
use Rattle.session.specs.declared.Session.{Session}
use Rattle.session.specs.Step.{Step}
use Rattle.session.proofs.Calls.{Recording, convert_records, end_records}
use Rattle.runs.proofs.Kept.{Kept, kept_new, kept_next, itself, free}
use Rattle.runs.specs.OverC.{next_value, run_values, ValuesFollow}
use Rattle.cvalue.specs.Values.{number_of, record_of, record_value, has_direction, held_of, held_value, made, up_to, over, new_value, work_of, ledger_of, if_made, session_of, value_with, value_on, answer_of, step_of, given_back}
use Rattle.cvalue.specs.declared.RecordValue.{RecordValue}
use Rattle.cvalue.specs.declared.SessionValue.{SessionValue}
use Rattle.cvalue.proofs.Mapped.{up_to_next}
use Rattle.runs.proofs.There.{state_low, held_there, table_there, table_is_made, records_there, directions_there}

-- a ledger with none after its records

abbrev Filled : Ledger → Type 0
Filled l = l.records ≡ up_to most_records none (records_of l)

over_long : {A : Type 0} (xs ys : List A) → length xs ≤ length ys → length (over xs ys) ≡ length ys
unfolding over
over_long xs ys h = omega (arith, length-append xs (drop (length xs) ys), length-drop (length xs) ys)

-- a value with a session in it is taken for that session

module _ (v : SessionValue) (x : Session) (long : length v.ledger ≡ most_records) (kept : Kept x) (filled : Filled x.ledger) where
  values : List RecordValue
  values = map record_value (records_of x.ledger)

  values-count : length values ≡ x.ledger.count
  unfolding values
  values-count =
      length-map (records_of x.ledger) record_value ∙ length-take-le x.ledger.count x.ledger.records (omega (arith, kept.few, kept.long))

  values_taken : take x.ledger.count (over values v.ledger) ≡ values
  unfolding over
  values_taken = take_at values (drop (length values) v.ledger) x.ledger.count values-count

  value_long : length (value_on v x).ledger ≡ most_records
  unfolding value_on value_with values
  value_long = over_long values v.ledger (omega (arith, values-count, kept.few, long)) ∙ long

  value_made : made (value_on v x) ≡ true
  unfolding made value_on value_with held_value values
  value_made =
      rw (
        le-leb (number_of x.work.held.state) 2 (state_low x.work.held.state),
        table_is_made x.work.table x.work.waiting.state,
        le-leb x.ledger.count most_records kept.few,
      )
      (ap (all has_direction) values_taken ∙ directions_there (records_of x.ledger))

  work_follows : work_of (value_on v x) ≡ x.work
  unfolding work_of value_on value_with
  work_follows = rw (held_there x.work.held, table_there x.work.table, held_there x.work.waiting)

  ledger_follows : ledger_of (value_on v x) ≡ x.ledger
  unfolding value_on value_with values
  ledger_follows =
      ap (λ l. record { count = x.ledger.count; records = up_to most_records none l }) (ap (map record_of) values_taken ∙ records_there (records_of x.ledger))
      ∙ ap (λ l. record { count = x.ledger.count; records = l }) (sym filled)

  value_follows : session_of (value_on v x) ≡ x
  unfolding session_of
  value_follows =
      ap (λ b. if_made b (record { work = work_of (value_on v x); ledger = ledger_of (value_on v x) })) value_made
      ∙ ap₂ (λ w l. record { work = w; ledger = l }) work_follows ledger_follows

-- what every call over C keeps

record Following (v : SessionValue) : Type 0 where
  long : length v.ledger ≡ most_records
  kept : Kept (session_of v)
  filled : Filled (session_of v).ledger

value_following : (v : SessionValue) (x : Session) → length v.ledger ≡ most_records → Kept x → Filled x.ledger → Following (value_on v x)
value_following v x long kept filled =
    let same : x ≡ session_of (value_on v x) = sym (value_follows v x long kept filled) in
    record { long = value_long v x long kept filled; kept = subst Kept same kept; filled = subst (λ y. Filled y.ledger) same filled }

abbrev Follows : SessionValue → Step → Type 0
Follows v y = (session_of (step_of v y).session ≡ y.session) × Following (step_of v y).session

answer_follows : (v : SessionValue) → Following v → (k : ℕ) (x : Session) → Kept (answer k x (session_of v)).session → (k ≡ 0 → Filled x.ledger)
    → Follows v (answer k x (session_of v))
unfolding step_of answer_of answer
answer_follows v h zero x kept filled = (value_follows v x h.long kept (filled refl), value_following v x h.long kept (filled refl))
answer_follows v h (suc k) x kept filled = (refl, h)

-- one record more
added_filled : (x : Session) → Kept x → Filled x.ledger → (x.ledger.count ≡ most_records → ⊥) → (e : Record) → Filled (added x.ledger e)
added_filled x kept filled other e =
    let room = free kept other in
    let size : length (records_of x.ledger) ≡ x.ledger.count = length-take-le x.ledger.count x.ledger.records (omega (arith, kept.few, kept.long)) in
    ap₂ (λ l k. set l k e) filled (sym size)
    ∙ up_to_next none (records_of x.ledger) e (omega (arith, size, room))
    ∙ ap (up_to most_records none) (sym (added_behind x.ledger e kept.long room))

module _ (v : SessionValue) (h : Following v) where
  counted_kept : Kept (counted (session_of v))
  counted_kept = subst Kept (itself h.kept) h.kept

  counted_filled : Filled (counted (session_of v)).ledger
  counted_filled = subst (λ x. Filled x.ledger) (itself h.kept) h.filled

  step_follows : (y : WorkStep) → Kept (step_with (session_of v) y).session → Follows v (step_with (session_of v) y)
  unfolding step_with
  step_follows y kept = answer_follows v h y.number _ kept (λ _. counted_filled)

  record_follows : (y : RecordStep) → (y.number ≡ 0 → Recording (session_of v)) → Kept (record_with (session_of v) y).session → Follows v (record_with (session_of v) y)
  unfolding record_with
  record_follows y recording kept =
      answer_follows v h y.number _ kept (λ z. added_filled (counted (session_of v)) counted_kept counted_filled (recording z).not_full y.entry)

  next_follows : (c : Call) → (session_of (next_value v c) ≡ next (session_of v) c) × Following (next_value v c)
  unfolding next_value next given_back
  next_follows (call_load p n t1 t2) = step_follows _ (kept_next h.kept (call_load p n t1 t2))
  next_follows (call_propose s r) = step_follows _ (kept_next h.kept (call_propose s r))
  next_follows call_find = step_follows _ (kept_next h.kept call_find)
  next_follows (call_convert d table out) =
      record_follows _ (convert_records (session_of v) _ refl _ refl d table out _ refl) (kept_next h.kept (call_convert d table out))
  next_follows (call_begin d) = step_follows _ (kept_next h.kept (call_begin d))
  next_follows (call_feed table out) = step_follows _ (kept_next h.kept (call_feed table out))
  next_follows call_end = record_follows _ (end_records (session_of v) _ refl _ refl) (kept_next h.kept call_end)
  next_follows (call_report out) = (refl, h)
  next_follows call_clear = unfold step_with answer in step_follows (record { number = 0; work = new_work }) (kept_next h.kept call_clear)

run_follows : (v : SessionValue) → Following v → (cs : List Call) → session_of (run_values v cs) ≡ run (session_of v) cs
unfolding run_values run
run_follows v h [] = refl
run_follows v h (c ∷ cs) =
    let (same, then) = next_follows v h c in
    run_follows (next_value v c) then cs ∙ ap (λ x. run x cs) same

new_is_new : session_of new_value ≡ new_session
unfolding session_of made all up_to work_of held_of
new_is_new = refl

new_follows : Following new_value
unfolding up_to
new_follows =
    record {
      long = refl;
      kept = subst Kept (sym new_is_new) kept_new;
      filled = subst (λ x. Filled x.ledger) (sym new_is_new) refl;
    }

pub values_follow : ValuesFollow
values_follow cs = run_follows new_value new_follows cs ∙ ap (λ x. run x cs) new_is_new
