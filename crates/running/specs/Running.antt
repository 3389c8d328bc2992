-- A table in parts, and the next pair meanwhile (document 02, S-8): begin, feed and end, without the ledger.
--   most_residues                 4,294,967,295
--   begin_number x k              begin's number, where k records count: 21, 22, 27, 25
--   opened d x                    "Begin opens a table in one direction"; the waiting session "starts empty"
--   begin d x k                   begin's answer: its number, and what x becomes where that is 0
--   part_number p n k table out   the number of a part where k residues have been fed: 9, 10, 4, and 9 where the part "would bring its table above
--                                 4,294,967,295 residues"
--   feed_number x table out       feed's number: 26, 9, 10, 4
--   feed x table out              feed's answer: "feed converts a part under the rules for forward and back"; the residues fed so far grow
--   feed_output x table out       what the lent list then holds: the images in the table's direction, or what it held
--   held_after v w h              of a waiting session w that counts as v: "End makes a paired waiting session the current one and drops one that is not paired"
--   end x                         end's answer: 26; the record of all residues of the table, and no table is open
use Rattle.std.specs.Prelude.{List, ℕ, ◌+◌, ◌/◌, ltb, length}
use Rattle.refusal.specs.Refusal.{refuse, written}
use Rattle.table.specs.Table.{table_number}
use Rattle.held.specs.Held.{View, empty, loaded, paired, view, new_held}
use Rattle.held.specs.declared.Held.{Held}
use Rattle.ledger.specs.Ledger.{none}
use Rattle.ledger.specs.declared.Direction.{Direction}
use Rattle.work.specs.Number.{or_else, state_number, full_number}
use Rattle.work.specs.declared.Table.{Table}
use Rattle.work.specs.declared.Table.TheVariants.{Closed, Open}
use Rattle.work.specs.declared.Work.{Work}
use Rattle.work.specs.Step.{WorkStep, RecordStep}
use Rattle.conversion.specs.Conversion.{where_zero, images_in}

abbrev pub most_residues : ℕ
most_residues = 4294967295

unfoldable pub begin_number : Work → ℕ → ℕ
begin_number x k = or_else (state_number x) (full_number k)

abbrev pub opened : Direction → Work → Work
opened d x = record { held = x.held; table = Open (record { direction = d; residues = 0 }); waiting = new_held }

unfoldable pub begin : Direction → Work → ℕ → WorkStep
begin d x k = record { number = begin_number x k; work = opened d x }

unfoldable pub part_number : ℕ → ℕ → ℕ → List ℕ → List ℕ → ℕ
part_number p n k table out = refuse 9 (ltb most_residues (k + length table / n)) (table_number p n table out)

abbrev pub feed_number_as : Table → Held → List ℕ → List ℕ → ℕ
feed_number_as Closed h table out = 26
feed_number_as (Open e) h table out = part_number h.p h.n e.residues table out

unfoldable pub feed_number : Work → List ℕ → List ℕ → ℕ
feed_number x table out = feed_number_as x.table x.held table out

abbrev pub fed_as : Table → ℕ → Table
fed_as Closed k = Closed
fed_as (Open e) k = Open (record { direction = e.direction; residues = e.residues + k })

unfoldable pub feed_as : Table → Work → List ℕ → List ℕ → WorkStep
feed_as t x table out =
    record {
      number = feed_number_as t x.held table out;
      work = record {
        held = x.held;
        table = fed_as t (where_zero (feed_number_as t x.held table out) (length table / x.held.n));
        waiting = x.waiting;
      };
    }

unfoldable pub feed : Work → List ℕ → List ℕ → WorkStep
feed x table out = feed_as x.table x table out

abbrev pub part_images : Table → Held → List ℕ → List ℕ
part_images Closed h table = table
part_images (Open e) h table = images_in e.direction h table

unfoldable pub feed_output_as : Table → Held → List ℕ → List ℕ → List ℕ
feed_output_as t h table out = written (feed_number_as t h table out) (part_images t h table) out

unfoldable pub feed_output : Work → List ℕ → List ℕ → List ℕ
feed_output x table out = feed_output_as x.table x.held table out

abbrev pub held_after : View → Held → Held → Held
held_after empty w h = h
held_after (loaded p n t1 t2) w h = h
held_after (paired p n t1 t2 s r) w h = w

abbrev pub ended : Work → Work
ended x = record { held = held_after (view x.waiting) x.waiting x.held; table = Closed; waiting = new_held }

abbrev pub end_as : Table → Work → RecordStep
end_as Closed x = record { number = 26; work = x; entry = none }
end_as (Open e) x = record { number = 0; work = ended x; entry = e }

unfoldable pub end : Work → RecordStep
end x = end_as x.table x
