-- What the number 0 says of where a session is.
--   or_first, or_next, or_zero   a number and what comes after it
--   state_zero, state_whole      21, 22 and 27 do not apply exactly where what is held is paired and no table is open
--   full_zero, full_whole        25 does not apply exactly where there are not 512 records
use mathlib.Core.Path.{◌≡◌, refl}
use mathlib.Core.Bool.{Bool, true, false}
use Prim.Native.Nat.{ℕ, zero, suc}
use native.Mathlib.Omega.{arith}
use borrow.Author.Tests.{eqb-false, ne_eqb}
use lib.Dec.{eqb}
use Rattle.refusal.specs.Refusal.{refuse}
use Rattle.held.specs.Held.{View, empty, loaded, paired, view}
use Rattle.ledger.specs.Ledger.{most_records}
use Rattle.work.specs.Number.{or_else, state_from, state_number, full_number}
use Rattle.work.specs.Work.{is_paired, is_open}
use Rattle.work.specs.declared.Work.{Work}

pub or_first : (k rest : ℕ) → (k ≡ 0 → ⊥) → k ≡ or_else k rest
or_first zero rest z = absurd (z refl)
or_first (suc k) rest z = refl

pub or_next : (k rest : ℕ) → k ≡ 0 → rest ≡ or_else k rest
or_next k rest z = rw z

pub or_zero : (k rest : ℕ) → or_else k rest ≡ 0 → (k ≡ 0) × (rest ≡ 0)
or_zero zero rest z = (refl, z)
or_zero (suc k) rest z = absurd (omega arith)

passed : (k : ℕ) (b : Bool) → refuse (suc k) b 0 ≡ 0 → b ≡ false
passed k true z = absurd (omega arith)
passed k false z = refl

pub state_zero : (x : Work) → state_number x ≡ 0 → (is_paired (view x.held) ≡ true) × (is_open x.table ≡ false)
unfolding state_number state_from is_paired
state_zero x z = go (view x.held) z
  where
    go : (v : View) → state_from v x.table ≡ 0 → (is_paired v ≡ true) × (is_open x.table ≡ false)
    go empty z = absurd (omega arith)
    go (loaded p n t1 t2) z = absurd (omega arith)
    go (paired p n t1 t2 s r) z = (refl, passed 26 (is_open x.table) z)

pub state_whole : (x : Work) → is_paired (view x.held) ≡ true → is_open x.table ≡ false → state_number x ≡ 0
unfolding state_number state_from is_paired
state_whole x pair closed = go (view x.held) pair
  where
    go : (v : View) → is_paired v ≡ true → state_from v x.table ≡ 0
    go empty e = cc
    go (loaded p n t1 t2) e = cc
    go (paired p n t1 t2 s r) e = rw closed

pub full_zero : (k : ℕ) → full_number k ≡ 0 → k ≡ most_records → ⊥
unfolding full_number
full_zero k z = eqb-false k most_records (passed 24 (eqb k most_records) z)

pub full_whole : (k : ℕ) → (k ≡ most_records → ⊥) → full_number k ≡ 0
unfolding full_number
full_whole k h = rw (ne_eqb k most_records h)
