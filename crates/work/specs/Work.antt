-- A session without its ledger (document 01, "The session"; document 02, S-8): what is held, the open table and the waiting session.
--   new_work               "A new session starts empty", and no table is open
--   is_paired v            whether a value counts as paired
--   is_open t              whether a table is open
--   may_be_open h k w      a table is open over h and k records, with w waiting: "with a table open over no pair or over a ledger of 512 records" a value
--                          counts as a new one, and so it does where 1, 2 or 4 refuses an item of w
--   valid_work x k         k records are not past their limit, 1, 2 and 4 refuse no item of what is held, and a table that is open may be so
--   looked x               x with nothing waiting where no table is open: then the waiting session is not looked at
--   addressed x            what load, propose and find act on: "While a table is open, load, propose and find act on a waiting session"
--   with_addressed x h     x with h in its place
use Rattle.std.specs.Prelude.{Bool, true, false, ◌&&◌, not, ℕ, leb, eqb}
use Rattle.held.specs.Held.{View, empty, loaded, paired, view, valid_held, new_held}
use Rattle.held.specs.declared.Held.{Held}
use Rattle.ledger.specs.Ledger.{most_records}
use Rattle.work.specs.declared.Table.{Table}
use Rattle.work.specs.declared.Table.TheVariants.{Closed, Open}
use Rattle.work.specs.declared.Work.{Work}

abbrev pub new_work : Work
new_work = record { held = new_held; table = Closed; waiting = new_held }

unfoldable pub is_paired : View → Bool
is_paired empty = false
is_paired (loaded p n t1 t2) = false
is_paired (paired p n t1 t2 s r) = true

abbrev pub is_open : Table → Bool
is_open Closed = false
is_open (Open e) = true

unfoldable pub may_be_open : Held → ℕ → Held → Bool
may_be_open h k w = is_paired (view h) && not (eqb k most_records) && valid_held w

abbrev pub valid_table : Table → Held → ℕ → Held → Bool
valid_table Closed h k w = true
valid_table (Open e) h k w = may_be_open h k w

unfoldable pub valid_work : Work → ℕ → Bool
valid_work x k = leb k most_records && valid_held x.held && valid_table x.table x.held k x.waiting

abbrev pub waiting_as : Table → Held → Held
waiting_as Closed w = new_held
waiting_as (Open e) w = w

unfoldable pub looked : Work → Work
looked x = record { held = x.held; table = x.table; waiting = waiting_as x.table x.waiting }

abbrev pub addressed_as : Table → Held → Held → Held
addressed_as Closed h w = h
addressed_as (Open e) h w = w

unfoldable pub addressed : Work → Held
addressed x = addressed_as x.table x.held x.waiting

abbrev pub with_addressed_as : Table → Work → Held → Work
with_addressed_as Closed x h = record { held = h; table = x.table; waiting = x.waiting }
with_addressed_as (Open e) x h = record { held = x.held; table = x.table; waiting = h }

unfoldable pub with_addressed : Work → Held → Work
with_addressed x h = with_addressed_as x.table x h
