-- What load, propose and find give: a number, and the next value.
--   HeldStep       a call's number, 0 where it succeeds, and the next value
--   Answers r y    r is the answer y: the next value of y where its number is 0, else the refusal
--                  with its number
use Rattle.std.specs.Prelude.{◌≡◌, ℕ, Result, Ok, Err}
use Rattle.refusal.specs.Number.{number}
use Rattle.refusal.specs.declared.number.Refusal.{Refusal}
use Rattle.held.specs.declared.Held.{Held}

pub record HeldStep : Type 0 where
  pub number : ℕ
  pub held : Held

abbrev pub Answers : Result Held Refusal → HeldStep → Type 0
Answers (Ok x) y = (y.number ≡ 0) × (x ≡ y.held)
Answers (Err e) y = y.number ≡ number e
