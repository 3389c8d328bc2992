-- A table in which no power is known yet.
use Prim.Native.Nat.{ℕ, ◌<◌}
use lib.ListN.{replicate, length-replicate, get_or-replicate}
use Rattle.character.specs.Table.{Table}

pub table_empty : (p k : ℕ) → 0 < p → Table p k (replicate 128 0)
table_empty p k pos =
    record {
      size = length-replicate {A = ℕ} 128 0;
      below = λ j l. rw (get_or-replicate {A = ℕ} 128 j 0 0 l) pos;
      known = λ j l other. absurd (other (get_or-replicate {A = ℕ} 128 j 0 0 l));
    }
