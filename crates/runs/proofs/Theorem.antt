-- The proofs of what specs/Theorem.antt states of sessions.
use mathlib.Core.Path.{◌≡◌, refl, sym, ap, ◌∙◌}
use mathlib.Core.Bool.{true, false}
use mathlib.Core.List.{List, [], ◌∷◌, ◌++◌}
use Prim.Native.Nat.{ℕ, zero, suc, ◌/◌, ◌<◌}
use native.Mathlib.Omega.{arith}
use lib.ListN.{length}
use Rattle.refusal.proofs.Written.{output_old}
use Rattle.refusal.specs.Models.{Given}
use Rattle.pair.specs.Theorem.{Isomorphisms}
use Rattle.pair.proofs.Theorem.{checker_theorem}
use Rattle.held.specs.Held.{view, t1_of, t2_of, s_of, r_of, Arrays}
use Rattle.held.specs.declared.Held.{Held}
use Rattle.held.specs.declared.State.TheVariants.{Paired}
use Rattle.held.proofs.Contents.{paired_given}
use Rattle.pairing.specs.Theorem.{Reached}
use Rattle.pairing.proofs.Theorem.{reached_valid, reached_accepted}
use Rattle.ledger.specs.Ledger.{most_records, records_of}
use Rattle.ledger.specs.declared.Direction.{Direction}
use Rattle.ledger.specs.declared.Record.{Record}
use Rattle.ledger.proofs.Theorem.{added_behind}
use Rattle.table.specs.Table.{table_number}
use Rattle.work.specs.Work.{is_paired, is_open, looked}
use Rattle.work.specs.declared.Work.{Work}
use Rattle.work.proofs.Valid.{valid_whole}
use Rattle.conversion.specs.Conversion as Conversion
use Rattle.conversion.specs.Conversion.{where_zero, convert_number, images_in}
use Rattle.conversion.proofs.Numbers.{state_paired, accepted, accepted_whole}
use Rattle.running.specs.Running as Running
use Rattle.session.specs.Session.{new_session, valid_session, counted, answer, step_with, record_with, recorded, convert, convert_output, report_number}
use Rattle.runs.specs.Theorem.{run, EveryRun, RefusalsChangeNothing, GroupByGroup, opposite, with_ledger, BackAgain, ConversionAddsRecord, KeepsLedger, OthersKeepLedger}
use Rattle.session.specs.declared.Session.{Session}
use Rattle.session.proofs.Answer.{answer_keeps, answer-number, answer-zero}
use Rattle.runs.proofs.Images.{images_by, images_given, images_again, convert_zero, convert_paired, convert_closed, convert_given, convert_images}
use Rattle.runs.proofs.Kept.{Kept, itself, free, never, every_kept}
use Rattle.session.proofs.CountsAs.{counted_itself}

pub every_run : EveryRun
every_run cs = ((every_kept cs).reached, (every_kept cs).few, (every_kept cs).around)

-- refusals

pub refusals_change_nothing : RefusalsChangeNothing
unfolding step_with record_with Conversion.convert Conversion.convert_output Running.begin Running.feed Running.feed_as Running.feed_output Running.feed_output_as
refusals_change_nothing x =
    record {
      load_keeps = λ p n t1 t2 h. answer_keeps _ _ x h;
      propose_keeps = λ s r h. answer_keeps _ _ x h;
      find_keeps = λ h. answer_keeps _ _ x h;
      convert_keeps = λ d table out h. answer_keeps _ _ x h;
      convert_writes_nothing = λ d table out h. sym (output_old _ _ _ out refl (λ z. h (answer-number _ _ x ∙ z)));
      begin_keeps = λ d h. answer_keeps _ _ x h;
      feed_keeps = λ table out h. answer_keeps _ _ x h;
      feed_writes_nothing = λ table out h. sym (output_old _ _ _ out refl (λ z. h (answer-number _ _ x ∙ z)));
      end_keeps = λ h. answer_keeps _ _ x h;
      report_gives_back = λ out. refl;
      report_writes_nothing = λ out h. sym (output_old _ (report_number x out) _ out refl h);
    }

-- conversions

pub given_pair : (h : Held) → Arrays h → is_paired (view h) ≡ true → Given h.p h.n (t1_of h) (t2_of h) (s_of h) (r_of h)
given_pair h arrays e = paired_given h arrays Paired (state_paired h e) refl

pub group_by_group : GroupByGroup
group_by_group x arrays d table out z =
    let g = given_pair x.work.held arrays (convert_paired d x table out z) in
    rw (convert_images d x table out z) (images_by x.work.held g table out (convert_given d x table out z) d)

-- a pair that calls have made: the checker accepts it, so that each map undoes the other
pub made_pair : {h : Held} → Reached h → is_paired (view h) ≡ true
    → Given h.p h.n (t1_of h) (t2_of h) (s_of h) (r_of h) × Isomorphisms h.p h.n (t1_of h) (t2_of h) (s_of h) (r_of h)
made_pair {h} r e =
    let (g, _, _, maps) = (checker_theorem h.p h.n (t1_of h) (t2_of h) (s_of h) (r_of h)).0 (reached_accepted r (sym (state_paired h e))) in
    (g, maps)

conversion_accepted : (d : Direction) (x : Session) → valid_session x ≡ true → (table out : List ℕ) → is_paired (view x.work.held) ≡ true
    → is_open x.work.table ≡ false → table_number x.work.held.p x.work.held.n table out ≡ 0 → x.ledger.count < most_records
    → (convert d x table out).number ≡ 0
unfolding Conversion.convert record_with looked
conversion_accepted d x valid table out pair closed given room =
    answer-number _ _ x
    ∙ ap (λ y. convert_number y.work y.ledger.count table out) (counted_itself x valid)
    ∙ accepted_whole (looked x.work) x.ledger.count table out (record { paired = pair; closed = closed; given = given; room = λ full. omega (arith, room, full) })

pub back_again : BackAgain
back_again cs d table out lent l z room free =
    let x = run new_session cs in
    let h = x.work.held in
    let kept = every_kept cs in
    let pair = convert_paired d x table out z in
    let closed = convert_closed d x table out z in
    let given = convert_given d x table out z in
    let (g, maps) = made_pair kept.reached pair in
    let valid : valid_session (with_ledger x l) ≡ true =
    valid_whole x.work l.count
    (record { few = omega arith; held_valid = reached_valid kept.reached; open_over = λ o. absurd (never (sym o ∙ closed)) }) in
    let again = conversion_accepted (opposite d) (with_ledger x l) valid (images_in d h table) lent pair closed (images_given h g table out given d lent room) free in
    ap (λ image. convert_output (opposite d) (with_ledger x l) image lent) (convert_images d x table out z)
    ∙ convert_images (opposite d) (with_ledger x l) (images_in d h table) lent again
    ∙ images_again h g table out given maps d

-- the ledger

pub record_behind : {x : Session} → Kept x → x.ledger.count < most_records → (w : Work) (e : Record)
    → records_of (recorded x w e).ledger ≡ records_of x.ledger ++ (e ∷ [])
record_behind {x} h room w e = added_behind x.ledger e h.long room

module _ {x : Session} (h : Kept x) (d : Direction) (table out : List ℕ) (z : (convert d x table out).number ≡ 0) where
  pub converted_session : (convert d x table out).session ≡ recorded x x.work (record { direction = d; residues = length table / x.work.held.n })
  unfolding Conversion.convert record_with
  converted_session =
      let zero = convert_zero d x table out z in
      answer-zero _ _ x zero
      ∙ ap (λ k. recorded (counted x) (counted x).work (record { direction = d; residues = where_zero k (length table / (counted x).work.held.n) })) zero
      ∙ ap (λ y. recorded y y.work (record { direction = d; residues = length table / y.work.held.n })) (sym (itself h))

  pub converted_room : x.ledger.count < most_records
  converted_room =
      let k = (counted x).ledger.count in
      let other = (accepted (counted x).work k table out (convert_zero d x table out z)).room in
      free h (λ full. other (ap (λ y. y.ledger.count) (sym (itself h)) ∙ full))

pub conversion_adds_record : ConversionAddsRecord
conversion_adds_record cs d table out z =
    let x = run new_session cs in
    let h = every_kept cs in
    let e = converted_session h d table out z in
    (ap (λ y. y.work) e, ap (λ y. records_of y.ledger) e ∙ record_behind h (converted_room h d table out z) x.work _)

answer_ledger : (k : ℕ) (z x : Session) → z.ledger ≡ x.ledger → (answer k z x).session.ledger ≡ x.ledger
unfolding answer
answer_ledger zero z x e = e
answer_ledger (suc k) z x e = refl

pub keeps_ledger : {x : Session} → Kept x → KeepsLedger x
unfolding step_with
keeps_ledger {x} h =
    let e = sym (ap (λ y. y.ledger) (itself h)) in
    record {
      load_keeps_ledger = λ p n t1 t2. answer_ledger _ _ x e;
      propose_keeps_ledger = λ s r. answer_ledger _ _ x e;
      find_keeps_ledger = answer_ledger _ _ x e;
      begin_keeps_ledger = λ d. answer_ledger _ _ x e;
      feed_keeps_ledger = λ table out. answer_ledger _ _ x e;
      report_keeps_ledger = λ out. refl;
      clear_keeps_ledger = e;
    }

pub others_keep_ledger : OthersKeepLedger
others_keep_ledger cs = keeps_ledger (every_kept cs)
