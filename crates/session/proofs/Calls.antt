-- The calls, by what the session x counts as: all of it but the ledger is w, and k of its records count. An answer is shown as F of it, so that these
-- laws serve sessions as C has them too.
--   load_answers, propose_answers, find_answers    by the session that they act on
--   convert_answers, convert_writes, begin_answers, feed_answers, feed_writes, end_answers, clear_answers
--   held_valid, over_pair           what the functions below these calls ask for
--   Recording x                     a record is added to x: it counts as paired and has room; convert_records, end_records
--   convert_room, end_room          then it counts as itself
use mathlib.Core.Path.{◌≡◌, sym, ap, ap₂, ◌∙◌}
use mathlib.Core.Bool.{true}
use mathlib.Core.List.{List}
use Prim.Native.Nat.{ℕ}
use native.Mathlib.Omega.{arith}
use Rattle.held.specs.Held.{view, valid_held}
use Rattle.held.specs.declared.Held.{Held}
use Rattle.pairing.specs.Pairing as Pairing
use Rattle.ledger.specs.Ledger.{most_records}
use Rattle.ledger.specs.declared.Direction.{Direction}
use Rattle.work.specs.Work.{new_work, is_paired, addressed}
use Rattle.work.specs.declared.Work.{Work}
use Rattle.conversion.specs.Conversion as Conversion
use Rattle.conversion.proofs.Numbers.{accepted}
use Rattle.running.specs.Running as Running
use Rattle.running.specs.OverPair.{OverPair}
use Rattle.running.proofs.Numbers.{end-zero}
use Rattle.session.specs.Room.{Room}
use Rattle.session.specs.Session.{counted, answer, step_with, placed, load, propose, find, record_with, convert, convert_output, begin, feed, feed_output, end, clear}
use Rattle.session.specs.declared.Session.{Session}
use Rattle.session.specs.Step.{Step}
use Rattle.session.proofs.CountsAs.{counted_itself, counted_parts, paired_itself}

module _ {A : Type 0} (F : Step → A) (x : Session) (r : A) (w : Work) (f : w ≡ (counted x).work) where
  module _ (z : Held) (g : z ≡ addressed w) where
    pub load_answers : (p n : ℕ) (t1 t2 : List ℕ) → r ≡ F (step_with x (placed w (Pairing.load z p n t1 t2))) → r ≡ F (load x p n t1 t2)
    load_answers p n t1 t2 a = a ∙ ap₂ (λ u v. F (step_with x (placed u (Pairing.load v p n t1 t2)))) f (g ∙ ap addressed f)

    pub propose_answers : (s t : List ℕ) → r ≡ F (step_with x (placed w (Pairing.propose z s t))) → r ≡ F (propose x s t)
    propose_answers s t a = a ∙ ap₂ (λ u v. F (step_with x (placed u (Pairing.propose v s t)))) f (g ∙ ap addressed f)

    pub find_answers : r ≡ F (step_with x (placed w (Pairing.find z))) → r ≡ F (find x)
    find_answers a = a ∙ ap₂ (λ u v. F (step_with x (placed u (Pairing.find v)))) f (g ∙ ap addressed f)

  pub feed_answers : (table out : List ℕ) → r ≡ F (step_with x (Running.feed w table out)) → r ≡ F (feed x table out)
  feed_answers table out a = a ∙ ap (λ u. F (step_with x (Running.feed u table out))) f

  pub end_answers : r ≡ F (record_with x (Running.end w)) → r ≡ F (end x)
  end_answers a = a ∙ ap (λ u. F (record_with x (Running.end u))) f

  module _ (k : ℕ) (g : k ≡ (counted x).ledger.count) (d : Direction) where
    pub convert_answers : (table out : List ℕ) → r ≡ F (record_with x (Conversion.convert d w k table out)) → r ≡ F (convert d x table out)
    convert_answers table out a = a ∙ ap₂ (λ u j. F (record_with x (Conversion.convert d u j table out))) f g

    pub begin_answers : r ≡ F (step_with x (Running.begin d w k)) → r ≡ F (begin d x)
    begin_answers a = a ∙ ap₂ (λ u j. F (step_with x (Running.begin d u j))) f g

pub clear_answers : {A : Type 0} (F : Step → A) (x : Session) (r : A) (w : Work) → w ≡ new_work → r ≡ F (step_with x (record { number = 0; work = w }))
    → r ≡ F (clear x)
unfolding step_with answer
clear_answers F x r w h a = a ∙ ap (λ u. F (step_with x (record { number = 0; work = u }))) h

-- a record is added to a session that counts as paired and has room: it counts as itself
pub record Recording (x : Session) : Type 0 where
  pub paired : is_paired (view (counted x).work.held) ≡ true
  pub not_full : (counted x).ledger.count ≡ most_records → ⊥

recording_room : (x : Session) (k : ℕ) → (k ≡ 0 → Recording x) → Room k x
recording_room x k f =
    record {
      itself = λ z. paired_itself x (f z).paired;
      free = λ z.
          let same = ap (λ y. y.ledger.count) (counted_itself x (paired_itself x (f z).paired)) in
          let other : x.ledger.count ≡ most_records → ⊥ = λ e. (f z).not_full (same ∙ e) in
          omega (arith, (counted_parts x).few, same, other);
    }

module _ (x : Session) (w : Work) (f : w ≡ (counted x).work) where
  pub held_valid : valid_held w.held ≡ true
  held_valid = rw f (counted_parts x).held_valid

  pub over_pair : OverPair w
  over_pair = rw f (record { has_pair = λ o. ((counted_parts x).open_over o).over_pair })

  pub feed_writes : (table out after : List ℕ) → after ≡ Running.feed_output w table out → after ≡ feed_output x table out
  feed_writes table out after h = h ∙ ap (λ u. Running.feed_output u table out) f

  module _ (j : ℕ) (h : j ≡ (Running.end w).number) where
    pub end_records : j ≡ 0 → Recording x
    end_records z =
        let over = (counted_parts x).open_over (end-zero (counted x).work (sym (h ∙ ap (λ u. (Running.end u).number) f) ∙ z)) in
        record { paired = over.over_pair; not_full = over.room }

    pub end_room : Room j x
    end_room = recording_room x j end_records

  module _ (k : ℕ) (g : k ≡ (counted x).ledger.count) (d : Direction) (table out : List ℕ) where
    pub convert_writes : (after : List ℕ) → after ≡ Conversion.convert_output d w k table out → after ≡ convert_output d x table out
    convert_writes after h = h ∙ ap₂ (λ u j. Conversion.convert_output d u j table out) f g

    module _ (j : ℕ) (h : j ≡ (Conversion.convert d w k table out).number) where
      pub convert_records : j ≡ 0 → Recording x
      unfolding Conversion.convert
      convert_records z =
          let zero = sym (h ∙ ap₂ (λ u i. (Conversion.convert d u i table out).number) f g) ∙ z in
          let a = accepted (counted x).work (counted x).ledger.count table out zero in
          record { paired = a.paired; not_full = a.room }

      pub convert_room : Room j x
      convert_room = recording_room x j convert_records
