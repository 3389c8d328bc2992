-- The numbers by where a session is (document 01, "Caused by where the session is"; document 02, S-2 and S-8).
--   or_else k rest   the number k, or what comes after it where k is 0
--   state_number x   of begin, forward and back: 21, 22, and 27 "with one open, after 21 and 22"
--   full_number k    of the calls that will add a record: 25 "when the ledger holds 512 records"
use Rattle.std.specs.Prelude.{ℕ, zero, suc, eqb}
use Rattle.refusal.specs.Refusal.{refuse}
use Rattle.held.specs.Held.{View, empty, loaded, paired, view}
use Rattle.ledger.specs.Ledger.{most_records}
use Rattle.work.specs.Work.{is_open}
use Rattle.work.specs.declared.Table.{Table}
use Rattle.work.specs.declared.Work.{Work}

abbrev pub or_else : ℕ → ℕ → ℕ
or_else zero rest = rest
or_else (suc k) rest = suc k

unfoldable pub state_from : View → Table → ℕ
state_from empty t = 21
state_from (loaded p n t1 t2) t = 22
state_from (paired p n t1 t2 s r) t = refuse 27 (is_open t) 0

unfoldable pub state_number : Work → ℕ
state_number x = state_from (view x.held) x.table

unfoldable pub full_number : ℕ → ℕ
full_number k = refuse 25 (eqb k most_records) 0
