-- Sessions and their answers as C has them, with numbers for states, directions and the open table.
--   state_of k, number_of s            0 is empty, 1 loaded, 2 paired; and back
--   direction_of k, direction_number d    0 is forward, 1 back; and back
--   record_of v, record_value x        the record of a value; and back
--   none_value                         the value where there is no record: zeros
--   has_direction v                    the direction of a record is 0 or 1
--   held_of v, held_value h            what a value holds; and back
--   nothing_value                      the value where nothing is held: zeros
--   table_of k fed                     0 is no table, 1 one that is open forward, 2 one that is open back, with the residues fed to it so far
--   open_in d                          the number of a table that is open in the direction d
--   open_number t, fed_number t        the two numbers of a table: 0 where none is open
--   table_made k s                     no table is open; or its number is up to 2, and so is the state of the waiting session
--   made v                             the state is up to 2, the table is made, the records that count are up to 512, and each of these has a direction
--   up_to k z xs                       xs, and z after them, k elements in all
--   work_of v, ledger_of v             all of the session of a value but its ledger, and its ledger
--   if_made b x                        x where b is true, else a new session
--   session_of v                       the session of a value; a value made otherwise counts as a new one
--   new_value                          a new session: zeros
--   over xs ys                         xs in place of the first elements of ys
--   value_with w k xs                  the value of all but the ledger, with the array xs of records, of which k count
--   value_on v x                       the value v with the session x in it: all of x but its ledger, and its records that count; what stands past these stays
--   answer_of k next taken             number k: the next value where k is 0, else the value taken
--   step_of v y                        the answer of a call that changes a session: refused, the value that was taken
--   given_back v y                     the answer of a report: always the value that was taken
use Rattle.std.specs.Prelude.{Bool, true, false, ◌&&◌, List, ◌++◌, map, ℕ, zero, suc, ◌-◌, leb, length, take, drop, replicate}
use Rattle.algebra.specs.Lists.{all}
use Rattle.held.specs.Held.{zeros}
use Rattle.held.specs.declared.Held.{Held}
use Rattle.held.specs.declared.State.{State}
use Rattle.held.specs.declared.State.TheVariants.{Empty, Loaded, Paired}
use Rattle.ledger.specs.Ledger.{most_records, none, records_of}
use Rattle.ledger.specs.declared.Direction.{Direction}
use Rattle.ledger.specs.declared.Direction.TheVariants.{Forward, Back}
use Rattle.ledger.specs.declared.Ledger.{Ledger}
use Rattle.ledger.specs.declared.Record.{Record}
use Rattle.work.specs.declared.Table.{Table}
use Rattle.work.specs.declared.Table.TheVariants.{Closed, Open}
use Rattle.work.specs.declared.Work.{Work}
use Rattle.session.specs.Session.{new_session}
use Rattle.session.specs.declared.Session.{Session}
use Rattle.session.specs.Step.{Step}
use Rattle.cvalue.specs.declared.HeldValue.{HeldValue}
use Rattle.cvalue.specs.declared.RecordValue.{RecordValue}
use Rattle.cvalue.specs.declared.SessionValue.{SessionValue}
use Rattle.cvalue.specs.declared.StepValue.{StepValue}

abbrev pub state_of : ℕ → State
state_of zero = Empty
state_of (suc zero) = Loaded
state_of (suc (suc k)) = Paired

abbrev pub number_of : State → ℕ
number_of Empty = 0
number_of Loaded = 1
number_of Paired = 2

abbrev pub direction_of : ℕ → Direction
direction_of zero = Forward
direction_of (suc k) = Back

abbrev pub direction_number : Direction → ℕ
direction_number Forward = 0
direction_number Back = 1

unfoldable pub record_of : RecordValue → Record
record_of v = record { direction = direction_of v.direction; residues = v.residues }

unfoldable pub record_value : Record → RecordValue
record_value x = record { direction = direction_number x.direction; residues = x.residues }

abbrev pub none_value : RecordValue
none_value = record { direction = 0; residues = 0 }

unfoldable pub has_direction : RecordValue → Bool
has_direction v = leb v.direction 1

unfoldable pub held_of : HeldValue → Held
held_of v = record { state = state_of v.state; p = v.p; n = v.n; t1 = v.t1; t2 = v.t2; s = v.s; r = v.r }

unfoldable pub held_value : Held → HeldValue
held_value h = record { state = number_of h.state; p = h.p; n = h.n; t1 = h.t1; t2 = h.t2; s = h.s; r = h.r }

abbrev pub nothing_value : HeldValue
nothing_value = record { state = 0; p = 0; n = 0; t1 = zeros; t2 = zeros; s = zeros; r = zeros }

abbrev pub table_of : ℕ → ℕ → Table
table_of zero fed = Closed
table_of (suc zero) fed = Open (record { direction = Forward; residues = fed })
table_of (suc (suc k)) fed = Open (record { direction = Back; residues = fed })

abbrev pub open_in : Direction → ℕ
open_in Forward = 1
open_in Back = 2

abbrev pub open_number : Table → ℕ
open_number Closed = 0
open_number (Open x) = open_in x.direction

abbrev pub fed_number : Table → ℕ
fed_number Closed = 0
fed_number (Open x) = x.residues

abbrev pub table_made : ℕ → ℕ → Bool
table_made zero s = true
table_made (suc k) s = leb (suc k) 2 && leb s 2

unfoldable pub made : SessionValue → Bool
made v =
    leb v.held.state 2
    && table_made v.table v.waiting.state
    && leb v.records most_records
    && all has_direction (take v.records v.ledger)

unfoldable pub up_to : {A : Type 0} → ℕ → A → List A → List A
up_to k z xs = xs ++ replicate (k - length xs) z

unfoldable pub work_of : SessionValue → Work
work_of v = record { held = held_of v.held; table = table_of v.table v.fed; waiting = held_of v.waiting }

abbrev pub ledger_of : SessionValue → Ledger
ledger_of v = record { count = v.records; records = up_to most_records none (map record_of (take v.records v.ledger)) }

abbrev pub if_made : Bool → Session → Session
if_made true x = x
if_made false x = new_session

unfoldable pub session_of : SessionValue → Session
session_of v = if_made (made v) (record { work = work_of v; ledger = ledger_of v })

abbrev pub new_value : SessionValue
new_value =
    record { held = nothing_value; records = 0; ledger = replicate most_records none_value; table = 0; fed = 0; waiting = nothing_value }

unfoldable pub over : {A : Type 0} → List A → List A → List A
over xs ys = xs ++ drop (length xs) ys

unfoldable pub value_with : Work → ℕ → List RecordValue → SessionValue
value_with w k xs =
    record {
      held = held_value w.held;
      records = k;
      ledger = xs;
      table = open_number w.table;
      fed = fed_number w.table;
      waiting = held_value w.waiting;
    }

unfoldable pub value_on : SessionValue → Session → SessionValue
value_on v x = value_with x.work x.ledger.count (over (map record_value (records_of x.ledger)) v.ledger)

unfoldable pub answer_of : ℕ → SessionValue → SessionValue → StepValue
answer_of zero next taken = record { number = 0; session = next }
answer_of (suc k) next taken = record { number = suc k; session = taken }

unfoldable pub step_of : SessionValue → Step → StepValue
step_of v y = answer_of y.number (value_on v y.session) v

unfoldable pub given_back : SessionValue → Step → StepValue
given_back v y = record { number = y.number; session = v }
