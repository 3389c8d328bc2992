-- The session (document 01, "The session"; document 02, S-2 and S-8): a value around what is held, the open table, the waiting session and the ledger.
-- "The calls take a session and give the next one."
--   new_session                  "A new session starts empty"; "only a new session begins without records"
--   counted x                    what x counts as: a value made otherwise "counts as a new one"
--   with_work x w                x with w for all but the ledger
--   answer k next taken          number k: the next session where k is 0, else the session taken
--   step_with x y                the answer of a call that changes all but the ledger
--   placed w y                   the answer y of the session that a call acts on, the waiting one while a table is open, in its place in w
--   holding x y                  the answer of a call that acts on that session
--   load x p n t1 t2             load: empty to loaded; 23, 1 to 4
--   propose x s r                propose S, R: loaded to paired if the checker accepts; 21, 24, 3, 4, 6, 7, 8
--   find x                       find: loaded to paired with the finder's pair; 21, 24, 5, 6, 7
--   recorded x w e               x with w for all but the ledger, and one record more
--   record_with x y              the answer of a call that adds a record
--   convert d x table out        forward and back: "Every conversion that succeeds adds one record, also an empty one"; 21, 22, 27, 9, 10, 4, 25
--   convert_output d x table out   what the list lent to it then holds: by S modulo T2, or by R modulo T1
--   begin d x                    begin: "opens a table in one direction"; 21, 22, 27, 25
--   feed x table out             feed: "converts a part"; 26, 9, 10, 4
--   feed_output x table out      what the list lent to it then holds
--   end x                        end: "closes it and adds one ledger record with all its residues"; 26
--   report_text x                the report of the records that count
--   report_number x out          the report's number: "3 if its output list is not of exactly that length"
--   report x out                 its answer: the number, and the session taken, "allowed in every state"
--   report_output x out          what the list lent to it then holds
--   clear x                      "drops both and the open table, without a record"; it never refuses, and "keeps the ledger"
use Rattle.std.specs.Prelude.{Bool, true, false, not, List, ℕ, zero, suc, eqb, length}
use Rattle.refusal.specs.Refusal.{refuse, written}
use Rattle.pairing.specs.Pairing as Pairing
use Rattle.pairing.specs.Step.{HeldStep}
use Rattle.ledger.specs.Ledger as Ledger
use Rattle.ledger.specs.Ledger.{new_ledger, records_of, added}
use Rattle.ledger.specs.declared.Direction.{Direction}
use Rattle.ledger.specs.declared.Record.{Record}
use Rattle.work.specs.Work.{new_work, valid_work, looked, addressed, with_addressed}
use Rattle.work.specs.declared.Work.{Work}
use Rattle.work.specs.Step.{WorkStep, RecordStep}
use Rattle.conversion.specs.Conversion as Conversion
use Rattle.running.specs.Running as Running
use Rattle.session.specs.declared.Session.{Session}
use Rattle.session.specs.Step.{Step}

abbrev pub new_session : Session
new_session = record { work = new_work; ledger = new_ledger }

abbrev pub valid_session : Session → Bool
valid_session x = valid_work x.work x.ledger.count

abbrev pub or_new : Bool → Session → Session
or_new true x = record { work = looked x.work; ledger = x.ledger }
or_new false x = new_session

unfoldable pub counted : Session → Session
counted x = or_new (valid_session x) x

abbrev pub with_work : Session → Work → Session
with_work x w = record { work = w; ledger = x.ledger }

unfoldable pub answer : ℕ → Session → Session → Step
answer zero next taken = record { number = 0; session = next }
answer (suc k) next taken = record { number = suc k; session = taken }

unfoldable pub step_with : Session → WorkStep → Step
step_with x y = answer y.number (with_work (counted x) y.work) x

abbrev pub placed : Work → HeldStep → WorkStep
placed w y = record { number = y.number; work = with_addressed w y.held }

abbrev pub holding : Session → HeldStep → Step
holding x y = step_with x (placed (counted x).work y)

abbrev pub load : Session → ℕ → ℕ → List ℕ → List ℕ → Step
load x p n t1 t2 = holding x (Pairing.load (addressed (counted x).work) p n t1 t2)

abbrev pub propose : Session → List ℕ → List ℕ → Step
propose x s r = holding x (Pairing.propose (addressed (counted x).work) s r)

abbrev pub find : Session → Step
find x = holding x (Pairing.find (addressed (counted x).work))

abbrev pub recorded : Session → Work → Record → Session
recorded x w e = record { work = w; ledger = added x.ledger e }

unfoldable pub record_with : Session → RecordStep → Step
record_with x y = answer y.number (recorded (counted x) y.work y.entry) x

abbrev pub convert : Direction → Session → List ℕ → List ℕ → Step
convert d x table out = record_with x (Conversion.convert d (counted x).work (counted x).ledger.count table out)

abbrev pub convert_output : Direction → Session → List ℕ → List ℕ → List ℕ
convert_output d x table out = Conversion.convert_output d (counted x).work (counted x).ledger.count table out

abbrev pub begin : Direction → Session → Step
begin d x = step_with x (Running.begin d (counted x).work (counted x).ledger.count)

abbrev pub feed : Session → List ℕ → List ℕ → Step
feed x table out = step_with x (Running.feed (counted x).work table out)

abbrev pub feed_output : Session → List ℕ → List ℕ → List ℕ
feed_output x table out = Running.feed_output (counted x).work table out

abbrev pub end : Session → Step
end x = record_with x (Running.end (counted x).work)

unfoldable pub report_text : Session → List ℕ
report_text x = Ledger.report (records_of (counted x).ledger)

unfoldable pub report_number : Session → List ℕ → ℕ
report_number x out = refuse 3 (not (eqb (length out) (length (report_text x)))) 0

abbrev pub report : Session → List ℕ → Step
report x out = record { number = report_number x out; session = x }

abbrev pub report_output : Session → List ℕ → List ℕ
report_output x out = written (report_number x out) (report_text x) out

abbrev pub clear : Session → Step
clear x = record { number = 0; session = with_work (counted x) new_work }
