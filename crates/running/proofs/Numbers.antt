-- What the number 0 says of begin, feed and end.
--   begin_zero     begin: what is held is paired, no table is open, and the ledger has room
--   feed_zero      feed: a table is open, and the part is given
--   part_parts     of a part: it does not bring its table above the limit, and 9, 10 and 4 do not apply
--   end-zero       end: a table is open
use mathlib.Core.Path.{◌≡◌, refl}
use mathlib.Core.Bool.{Bool, true, false}
use mathlib.Core.List.{List}
use Prim.Native.Nat.{ℕ, ◌+◌, ◌/◌, ◌≤◌}
use native.Mathlib.Omega.{arith}
use borrow.Author.Tests.{ltb-false}
use lib.Dec.{ltb}
use lib.ListN.{length}
use Rattle.refusal.specs.Refusal.{refuse}
use Rattle.held.specs.Held.{view}
use Rattle.ledger.specs.Ledger.{most_records}
use Rattle.ledger.specs.declared.Record.{Record}
use Rattle.table.specs.Table.{table_number}
use Rattle.work.specs.Number.{state_number, full_number}
use Rattle.work.specs.Work.{is_paired, is_open}
use Rattle.work.specs.declared.Table.{Table}
use Rattle.work.specs.declared.Table.TheVariants.{Closed, Open}
use Rattle.work.specs.declared.Work.{Work}
use Rattle.work.proofs.Numbers.{or_zero, state_zero, full_zero}
use Rattle.running.specs.Running.{most_residues, begin_number, part_number, feed_number_as, feed_number, end_as, end}

-- begin

pub begin_zero : (x : Work) (k : ℕ) → begin_number x k ≡ 0 → (is_paired (view x.held) ≡ true) × (is_open x.table ≡ false) × (k ≡ most_records → ⊥)
unfolding begin_number
begin_zero x k z =
    let (state, room) = or_zero (state_number x) (full_number k) z in
    let (pair, closed) = state_zero x state in
    (pair, closed, full_zero k room)

-- feed

none_above : (b : Bool) (j : ℕ) → refuse 9 b j ≡ 0 → (b ≡ false) × (j ≡ 0)
none_above true j z = absurd (omega arith)
none_above false j z = (refl, z)

pub part_parts : (p n k : ℕ) (table out : List ℕ) → part_number p n k table out ≡ 0 → (k + length table / n ≤ most_residues) × (table_number p n table out ≡ 0)
unfolding part_number
part_parts p n k table out z =
    let (few, given) = none_above (ltb most_residues (k + length table / n)) (table_number p n table out) z in
    (ltb-false most_residues (k + length table / n) few, given)

pub feed_zero : (x : Work) (table out : List ℕ) → feed_number x table out ≡ 0
    → (e : Record) × (x.table ≡ Open e) × (part_number x.held.p x.held.n e.residues table out ≡ 0)
unfolding feed_number
feed_zero x table out z = go x.table z
  where
    go : (t : Table) → feed_number_as t x.held table out ≡ 0 → (e : Record) × (t ≡ Open e) × (part_number x.held.p x.held.n e.residues table out ≡ 0)
    go Closed z = absurd (omega arith)
    go (Open e) z = (e, refl, z)

-- end

pub end-zero : (x : Work) → (end x).number ≡ 0 → is_open x.table ≡ true
unfolding end
end-zero x z = go x.table z
  where
    go : (t : Table) → (end_as t x).number ≡ 0 → is_open t ≡ true
    go Closed z = absurd (omega arith)
    go (Open e) z = refl
