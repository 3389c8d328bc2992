-- Conversions by what is held (document 01, "The session"; document 02, S-2 and S-8).
--   where_zero j k                k where the number j is 0, else 0
--   modulus_in d h, image_in d h  forward T2 and S, back T1 and R
--   images_in d h table           the images of a table's groups under u ↦ u(S) modulo T2, or u ↦ u(R) modulo T1
--   convert_number x k table out   the number of a conversion, where k records count: 21, 22, 27, 9, 10, 4, 25
--   convert d x k table out       its answer: the number, and the record to be added, of as many residues as the table has
--   convert_output d x k table out   what the lent list then holds: the images, or what it held
use Rattle.std.specs.Prelude.{List, ℕ, zero, suc, ◌/◌, length}
use Rattle.refusal.specs.Refusal.{written}
use Rattle.table.specs.Table.{converted, table_number}
use Rattle.held.specs.Held.{t1_of, t2_of, s_of, r_of}
use Rattle.held.specs.declared.Held.{Held}
use Rattle.ledger.specs.declared.Direction.{Direction}
use Rattle.ledger.specs.declared.Direction.TheVariants.{Forward, Back}
use Rattle.work.specs.Number.{or_else, state_number, full_number}
use Rattle.work.specs.declared.Work.{Work}
use Rattle.work.specs.Step.{RecordStep}

abbrev pub where_zero : ℕ → ℕ → ℕ
where_zero zero k = k
where_zero (suc j) k = 0

abbrev pub modulus_in : Direction → Held → List ℕ
modulus_in Forward h = t2_of h
modulus_in Back h = t1_of h

abbrev pub image_in : Direction → Held → List ℕ
image_in Forward h = s_of h
image_in Back h = r_of h

unfoldable pub images_in : Direction → Held → List ℕ → List ℕ
images_in d h table = converted h.p h.n (modulus_in d h) (image_in d h) table

unfoldable pub convert_number : Work → ℕ → List ℕ → List ℕ → ℕ
convert_number x k table out = or_else (state_number x) (or_else (table_number x.held.p x.held.n table out) (full_number k))

unfoldable pub convert : Direction → Work → ℕ → List ℕ → List ℕ → RecordStep
convert d x k table out =
    record {
      number = convert_number x k table out;
      work = x;
      entry = record { direction = d; residues = where_zero (convert_number x k table out) (length table / x.held.n) };
    }

unfoldable pub convert_output : Direction → Work → ℕ → List ℕ → List ℕ → List ℕ
convert_output d x k table out = written (convert_number x k table out) (images_in d x.held table) out
