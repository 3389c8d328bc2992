-- What it says of a value that it is valid.
--   open_parts, open_whole     a table may be open exactly over a pair, with room for its record, where the waiting session is valid
--   valid_parts, valid_whole   a value is valid exactly where the records are not past their limit, what is held is valid, and a table that is open may be so
--   looked_parts               the same of a value as far as it is looked at
--   looked_whole               where a table is open, or nothing waits, all of the value is looked at
use mathlib.Core.Path.{◌≡◌, refl, sym, ap}
use mathlib.Core.Bool.{true, false, ◌&&◌, not, and-eq-true_iff}
use Prim.Native.Nat.{ℕ, ◌≤◌}
use native.Mathlib.Omega.{arith}
use borrow.Author.Tests.{not-true, leb-true, le-leb, eqb-false, ne_eqb}
use lib.Dec.{leb, eqb}
use Rattle.held.specs.Held.{view, valid_held, new_held}
use Rattle.held.specs.declared.Held.{Held}
use Rattle.ledger.specs.Ledger.{most_records}
use Rattle.work.specs.Work.{is_paired, is_open, may_be_open, valid_table, valid_work, looked, waiting_as}
use Rattle.work.specs.declared.Table.{Table}
use Rattle.work.specs.declared.Table.TheVariants.{Closed, Open}
use Rattle.work.specs.declared.Work.{Work}

pub record OpenParts (h : Held) (k : ℕ) (w : Held) : Type 0 where
  pub over_pair : is_paired (view h) ≡ true
  pub room : k ≡ most_records → ⊥
  pub waiting_valid : valid_held w ≡ true

module _ (h : Held) (k : ℕ) (w : Held) where
  pub open_parts : may_be_open h k w ≡ true → OpenParts h k w
  unfolding may_be_open
  open_parts e =
      let (first, valid) = (and-eq-true_iff (is_paired (view h) && not (eqb k most_records)) (valid_held w)).0 e in
      let (pair, other) = (and-eq-true_iff (is_paired (view h)) (not (eqb k most_records))).0 first in
      record { over_pair = pair; room = eqb-false k most_records (not-true (eqb k most_records) other); waiting_valid = valid }

  pub open_whole : OpenParts h k w → may_be_open h k w ≡ true
  unfolding may_be_open
  open_whole o = rw (o.over_pair, ne_eqb k most_records o.room, o.waiting_valid)

pub record ValidParts (x : Work) (k : ℕ) : Type 0 where
  pub few : k ≤ most_records
  pub held_valid : valid_held x.held ≡ true
  pub open_over : is_open x.table ≡ true → OpenParts x.held k x.waiting

module _ (x : Work) (k : ℕ) where
  pub valid_parts : valid_work x k ≡ true → ValidParts x k
  unfolding valid_work
  valid_parts e =
      let (first, table) = (and-eq-true_iff (leb k most_records && valid_held x.held) (valid_table x.table x.held k x.waiting)).0 e in
      let (few, held) = (and-eq-true_iff (leb k most_records) (valid_held x.held)).0 first in
      record { few = leb-true k most_records few; held_valid = held; open_over = go x.table table }
    where
      go : (t : Table) → valid_table t x.held k x.waiting ≡ true → is_open t ≡ true → OpenParts x.held k x.waiting
      go Closed e o = absurd (let z : ◌≡◌ {A = ℕ} 0 1 = cc in omega arith)
      go (Open r) e o = open_parts x.held k x.waiting e

  pub valid_whole : ValidParts x k → valid_work x k ≡ true
  unfolding valid_work
  valid_whole v = rw (le-leb k most_records v.few, v.held_valid) (go x.table v.open_over)
    where
      go : (t : Table) → (is_open t ≡ true → OpenParts x.held k x.waiting) → valid_table t x.held k x.waiting ≡ true
      go Closed f = refl
      go (Open r) f = open_whole x.held k x.waiting (f refl)

pub looked_parts : (x : Work) (k : ℕ) → ValidParts x k → ValidParts (looked x) k
unfolding looked
looked_parts x k v = record { few = v.few; held_valid = v.held_valid; open_over = go x.table v.open_over }
  where
    go : (t : Table) → (is_open t ≡ true → OpenParts x.held k x.waiting) → is_open t ≡ true → OpenParts x.held k (waiting_as t x.waiting)
    go Closed f o = absurd (let z : ◌≡◌ {A = ℕ} 0 1 = cc in omega arith)
    go (Open r) f o = f o

pub looked_whole : (x : Work) → (is_open x.table ≡ false → x.waiting ≡ new_held) → looked x ≡ x
unfolding looked
looked_whole x f = ap (λ w. record { held = x.held; table = x.table; waiting = w }) (go x.table f)
  where
    go : (t : Table) → (is_open t ≡ false → x.waiting ≡ new_held) → waiting_as t x.waiting ≡ x.waiting
    go Closed f = sym (f refl)
    go (Open r) f = refl
