-- Records as C has them, field by field.
use mathlib.Core.Path.{◌≡◌}
use Prim.Native.Nat.{ℕ}
use Rattle.ledger.specs.declared.Direction.{Direction}
use Rattle.ledger.specs.declared.Record.{Record}
use Rattle.cvalue.specs.Values.{direction_of, direction_number, record_of, record_value}
use Rattle.cvalue.specs.declared.RecordValue.{RecordValue}

pub record_made : (v : RecordValue) (d : Direction) → d ≡ direction_of v.direction → record { direction = d; residues = v.residues } ≡ record_of v
unfolding record_of
record_made v d e = rw e

pub value_made : (x : Record) (k : ℕ) → k ≡ direction_number x.direction → record { direction = k; residues = x.residues } ≡ record_value x
unfolding record_value
value_made x k e = rw e
