-- What a value counts as: its own session, as far as it is looked at, where it is valid, else a new one.
--   few_records, have_directions           what it says of a value that it is made; valid_made: a valid one is made
--   counted_ledger, counted_new            what its session counts as, by whether it is valid
--   value_valid, value_work, value_count   what the code works out
--   recordable                             where a record is added to its session, the value counts as itself and has room
use mathlib.Core.Path.{◌≡◌, refl, sym, ap, ◌∙◌}
use mathlib.Core.Bool.{Bool, true, false, ◌&&◌, and-eq-true_iff}
use Prim.Native.Nat.{ℕ, ◌≤◌}
use native.Mathlib.Omega.{arith}
use borrow.Author.Tests.{leb-true}
use lib.Dec.{leb}
use lib.ListN.{take}
use Rattle.algebra.specs.Lists.{all}
use Rattle.held.specs.Held.{view}
use Rattle.ledger.specs.Ledger.{most_records}
use Rattle.work.specs.Counted.{counted_if}
use Rattle.work.specs.Work.{is_paired, valid_work, looked}
use Rattle.work.specs.declared.counted.CountsAs.{CountsAs}
use Rattle.session.specs.Session.{new_session, valid_session, or_new, counted}
use Rattle.session.specs.declared.Session.{Session}
use Rattle.session.proofs.Calls.{Recording}
use Rattle.session.proofs.CountsAs.{new_unpaired}
use Rattle.cvalue.specs.Inner.{valid_value, counts_value, Recordable}
use Rattle.cvalue.specs.Values.{table_made, has_direction, made, work_of, ledger_of, if_made, session_of}
use Rattle.cvalue.specs.declared.SessionValue.{SessionValue}

module _ (v : SessionValue) where
  module _ (h : made v ≡ true) where
    parts : (leb v.held.state 2 && table_made v.table v.waiting.state && leb v.records most_records ≡ true)
        × (all has_direction (take v.records v.ledger) ≡ true)
    unfolding made
    parts =
        (and-eq-true_iff
        (leb v.held.state 2 && table_made v.table v.waiting.state && leb v.records most_records)
        (all has_direction (take v.records v.ledger))
        ).0
        h

    pub few_records : v.records ≤ most_records
    few_records =
        leb-true v.records most_records
        ((and-eq-true_iff (leb v.held.state 2 && table_made v.table v.waiting.state) (leb v.records most_records)).0 parts.0).1

    pub have_directions : all has_direction (take v.records v.ledger) ≡ true
    have_directions = parts.1

  pub valid_made : valid_value v ≡ true → made v ≡ true
  unfolding valid_value
  valid_made h = ((and-eq-true_iff (made v) (valid_work (work_of v) v.records)).0 h).0

  abbrev own : Session
  own = record { work = work_of v; ledger = ledger_of v }

  counted_value : counted (session_of v) ≡ or_new (valid_value v) own
  unfolding counted session_of valid_value looked
  counted_value = go (made v)
    where
      new : (b : Bool) → or_new b new_session ≡ new_session
      new true = refl
      new false = refl

      go : (m : Bool) → or_new (valid_session (if_made m own)) (if_made m own) ≡ or_new (m && valid_work (work_of v) v.records) own
      go true = refl
      go false = new (valid_session new_session)

  pub counted_ledger : valid_value v ≡ true → (counted (session_of v)).ledger ≡ ledger_of v
  counted_ledger h = ap (λ x. x.ledger) (counted_value ∙ ap (λ b. or_new b own) h)

  pub counted_new : valid_value v ≡ false → counted (session_of v) ≡ new_session
  counted_new h = counted_value ∙ ap (λ b. or_new b own) h

  module _ (c : CountsAs) (e : c ≡ counts_value v) where
    counts : c ≡ record { valid = valid_value v; work = (counted (session_of v)).work; count = (counted (session_of v)).ledger.count }
    unfolding counts_value
    counts = e ∙ go (valid_value v) ∙ ap (λ x. record { valid = valid_value v; work = x.work; count = x.ledger.count }) (sym counted_value)
      where
        go : (b : Bool) → counted_if b (work_of v) v.records ≡ record { valid = b; work = (or_new b own).work; count = (or_new b own).ledger.count }
        go true = refl
        go false = refl

    pub value_valid : c.valid ≡ valid_value v
    value_valid = ap (λ x. x.valid) counts

    pub value_work : c.work ≡ (counted (session_of v)).work
    value_work = ap (λ x. x.work) counts

    pub value_count : c.count ≡ (counted (session_of v)).ledger.count
    value_count = ap (λ x. x.count) counts

  recording_itself : Recording (session_of v) → valid_value v ≡ true
  recording_itself r = go (valid_value v) refl
    where
      go : (b : Bool) → valid_value v ≡ b → b ≡ true
      go true e = refl
      go false e = sym new_unpaired ∙ ap (λ x. is_paired (view x.work.held)) (sym (counted_new e)) ∙ r.paired

  pub recordable : (k : ℕ) → (k ≡ 0 → Recording (session_of v)) → Recordable v k
  recordable k f =
      record {
        itself = λ z. recording_itself (f z);
        free = λ z.
            let valid = recording_itself (f z) in
            let other : v.records ≡ most_records → ⊥ = λ e. (f z).not_full (ap (λ l. l.count) (counted_ledger valid) ∙ e) in
            omega (arith, few_records (valid_made valid), other);
      }
