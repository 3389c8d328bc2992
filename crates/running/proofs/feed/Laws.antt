-- Feed's answer, by the tests of the code.
use Rattle.std.specs.Prelude.{Result, Ok}
use mathlib.Core.Path.{◌≡◌, sym, ap, subst, ◌∙◌}
use mathlib.Core.Bool.{true}
use mathlib.Core.List.{List}
use Prim.Native.Nat.{ℕ, ◌+◌, ◌-◌, ◌/◌, ◌≤◌, ◌<◌}
use native.Mathlib.Omega.{arith}
use borrow.Author.Tests.{lt-ltb, le-ltb}
use lib.ListN.{length}
use mir.Syntax.{w32}
use mir.Val.{Fits}
use Rattle.held.specs.Held.{view}
use Rattle.held.specs.declared.Held.{Held}
use Rattle.ledger.specs.declared.Record.{Record}
use Rattle.refusal.specs.declared.number.Refusal.{Refusal}
use Rattle.table.specs.Table.{table_number}
use Rattle.work.specs.Step.{Answers}
use Rattle.work.specs.Work.{is_paired, is_open}
use Rattle.work.specs.declared.Table.TheVariants.{Closed, Open}
use Rattle.work.specs.declared.Work.{Work}
use Rattle.conversion.proofs.Numbers.{degree_positive}
use Rattle.running.specs.OverPair.{OverPair}
use Rattle.running.specs.Running.{most_residues, part_number, feed_as, feed, feed_output_as, feed_output}
use Rattle.running.proofs.Numbers.{part_parts}

-- the refusals of a part
module _ (p n k : ℕ) (k32 : Fits w32 k) (table out : List ℕ) where
  pub part_above : most_residues - k < length table / n → 9 ≡ part_number p n k table out
  unfolding part_number
  part_above h = rw (lt-ltb most_residues (k + length table / n) (omega (arith, k32.fits)))

  pub part_table : length table / n ≤ most_residues - k → (j : ℕ) → j ≡ table_number p n table out → j ≡ part_number p n k table out
  unfolding part_number
  part_table h j e = rw (le-ltb most_residues (k + length table / n) (omega (arith, k32.fits))) e

-- a part that is not refused
module _ (p n k : ℕ) (table out : List ℕ) (j : ℕ) (f : j ≡ part_number p n k table out) (h : j ≡ 0) where
  pub part_given : table_number p n table out ≡ 0
  part_given = (part_parts p n k table out (sym f ∙ h)).1

  fed_few : k + length table / n ≤ most_residues
  fed_few = (part_parts p n k table out (sym f ∙ h)).0

  pub part_fits : Fits w32 (length table / n)
  part_fits = record { fits = omega (arith, fed_few) }

  pub fed_fits : (r : ℕ) → r ≡ length table / n → Fits w32 (k + r)
  fed_fits r g = record { fits = omega (arith, fed_few, g) }

-- where a table is open
module _ (x : Work) (e : Record) (table out : List ℕ) (j : ℕ) (f : j ≡ part_number x.held.p x.held.n e.residues table out) where
  pub feeds : j ≡ 0 → Answers (Ok (record {
    held = x.held;
    table = Open (record { direction = e.direction; residues = e.residues + length table / x.held.n });
    waiting = x.waiting;
  })) (feed_as (Open e) x table out)
  unfolding feed_as
  feeds h = let z : part_number x.held.p x.held.n e.residues table out ≡ 0 = sym f ∙ h in (z, rw z)

pub held_positive : (h : Held) → is_paired (view h) ≡ true → 0 < h.n
held_positive h e = omega (arith, degree_positive h e)

-- by whether a table is open
module _ (x : Work) (table out : List ℕ) where
  pub feed_closed : x.table ≡ Closed → (feed x table out).number ≡ 26
  unfolding feed feed_as
  feed_closed e = rw e

  pub closed_output : x.table ≡ Closed → out ≡ feed_output x table out
  unfolding feed_output feed_output_as
  closed_output e = rw e

  module _ (e : Record) (f : x.table ≡ Open e) where
    pub over_pair : OverPair x → is_paired (view x.held) ≡ true
    over_pair o = o.has_pair (ap is_open f)

    pub feed_open : (y : Result Work Refusal) → Answers y (feed_as (Open e) x table out) → Answers y (feed x table out)
    unfolding feed
    feed_open y g = subst (λ t. Answers y (feed_as t x table out)) (sym f) g

    pub open_output : (after : List ℕ) → after ≡ feed_output_as (Open e) x.held table out → after ≡ feed_output x table out
    unfolding feed_output
    open_output after g = g ∙ ap (λ t. feed_output_as t x.held table out) (sym f)
