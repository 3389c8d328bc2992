-- Numbers there and back: what the value of a state, of what is held, of a table or of a record is taken for is that again, and these values are made.
use mathlib.Core.Path.{◌≡◌, refl, ap, ap₂}
use mathlib.Core.Bool.{true}
use mathlib.Core.List.{List, [], ◌∷◌, map}
use Prim.Native.Nat.{◌≤◌}
use native.Mathlib.Omega.{arith}
use borrow.Author.Tests.{le-leb}
use Rattle.algebra.specs.Lists.{all}
use Rattle.held.specs.declared.Held.{Held}
use Rattle.held.specs.declared.State.{State}
use Rattle.held.specs.declared.State.TheVariants.{Empty, Loaded, Paired}
use Rattle.ledger.specs.declared.Direction.{Direction}
use Rattle.ledger.specs.declared.Direction.TheVariants.{Forward, Back}
use Rattle.ledger.specs.declared.Record.{Record}
use Rattle.work.specs.declared.Table.{Table}
use Rattle.work.specs.declared.Table.TheVariants.{Closed, Open}
use Rattle.cvalue.specs.Values.{state_of, number_of, direction_of, direction_number, record_of, record_value, has_direction, held_of, held_value, table_of, open_in, open_number, fed_number, table_made}

state_there : (s : State) → state_of (number_of s) ≡ s
state_there Empty = refl
state_there Loaded = refl
state_there Paired = refl

pub state_low : (s : State) → number_of s ≤ 2
state_low Empty = omega arith
state_low Loaded = omega arith
state_low Paired = omega arith

pub held_there : (h : Held) → held_of (held_value h) ≡ h
unfolding held_of held_value
held_there h = ap (λ s. record { state = s; p = h.p; n = h.n; t1 = h.t1; t2 = h.t2; s = h.s; r = h.r }) (state_there h.state)

pub table_there : (t : Table) → table_of (open_number t) (fed_number t) ≡ t
table_there Closed = refl
table_there (Open x) = go x.direction
  where
    go : (d : Direction) → table_of (open_in d) x.residues ≡ Open (record { direction = d; residues = x.residues })
    go Forward = refl
    go Back = refl

pub table_is_made : (t : Table) (s : State) → table_made (open_number t) (number_of s) ≡ true
table_is_made Closed s = refl
table_is_made (Open x) s = go x.direction
  where
    go : (d : Direction) → table_made (open_in d) (number_of s) ≡ true
    go Forward = le-leb (number_of s) 2 (state_low s)
    go Back = le-leb (number_of s) 2 (state_low s)

direction_there : (d : Direction) → direction_of (direction_number d) ≡ d
direction_there Forward = refl
direction_there Back = refl

direction_low : (d : Direction) → direction_number d ≤ 1
direction_low Forward = omega arith
direction_low Back = omega arith

pub records_there : (xs : List Record) → map record_of (map record_value xs) ≡ xs
unfolding record_of record_value
records_there [] = refl
records_there (x ∷ xs) = ap₂ ◌∷◌ (ap (λ d. record { direction = d; residues = x.residues }) (direction_there x.direction)) (records_there xs)

pub directions_there : (xs : List Record) → all has_direction (map record_value xs) ≡ true
unfolding all has_direction record_value
directions_there [] = refl
directions_there (x ∷ xs) = rw (le-leb (direction_number x.direction) 1 (direction_low x.direction)) (directions_there xs)
