-- What the sieve of degree m keeps: only the marks from p^m to 2·p^m − 1 change, and those of a lower degree n end before, at 2·p^n ≤ p^m.
use mathlib.Core.Path.{refl, ◌∙◌}
use mathlib.Core.List.{List}
use mathlib.Core.Logic.{inl}
use Prim.Native.Nat.{ℕ, ◌+◌, ◌^◌, ◌≤◌, ◌<◌}
use native.Mathlib.Omega.{arith}
use Rattle.sieve.specs.Clauses.{StruckBy, Sieved, Outside, Room}
use Rattle.sieve.proofs.Powers.{power_doubles}

pub outside_none : (p m : ℕ) (marks : List ℕ) → Outside p m marks marks
outside_none p m marks = record { same_length = refl; words = λ i out. refl }

pub outside_more : (p m : ℕ) (old marks new : List ℕ) → Outside p m old marks → Outside p m marks new → Outside p m old new
outside_more p m old marks new before after =
    record { same_length = after.same_length ∙ before.same_length; words = λ i out. after.words i out ∙ before.words i out }

pub outside_struck : (p m : ℕ) (d old new : List ℕ) → StruckBy p d m old new → Outside p m old new
outside_struck p m d old new s = record { same_length = s.same_length; words = s.outside }

pub room_kept : (p m : ℕ) (old new : List ℕ) → Outside p m old new → Room old → Room new
room_kept p m old new out room = out.same_length ∙ room

pub sieved_kept : (p n m : ℕ) (old new : List ℕ) → 2 ≤ p → n < m → Outside p m old new → Sieved p n old → Sieved p n new
sieved_kept p n m old new big lower out s =
    record { words = λ c l. out.words (p ^ n + c) (inl (omega (arith, power_doubles p big n m lower))) ∙ s.words c l }
