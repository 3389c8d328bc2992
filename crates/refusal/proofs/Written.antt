-- The list lent for an output, by the number of the call: what is new where the number is 0, else what the list held.
use mathlib.Core.Path.{◌≡◌, sym, ◌∙◌}
use mathlib.Core.List.{List}
use Prim.Native.Nat.{ℕ}
use borrow.Author.Tests.{eq-eqb, ne_eqb}
use Rattle.refusal.specs.Refusal.{written}

pub output_new : (r number : ℕ) (new old out : List ℕ) → r ≡ number → r ≡ 0 → out ≡ new → out ≡ written number new old
output_new r number new old out e z h = rw (eq-eqb number 0 (sym e ∙ z)) h

pub output_old : (r number : ℕ) (new old : List ℕ) → r ≡ number → (r ≡ 0 → ⊥) → old ≡ written number new old
output_old r number new old e z = rw (ne_eqb number 0 (λ f. z (e ∙ f)))
