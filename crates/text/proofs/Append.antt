-- Lists written one behind another: what is appended twice is appended together, so a loop that appends element by element has appended the list at
-- its end.
use mathlib.Core.Path.{◌≡◌, refl, sym, ap, ◌∙◌}
use mathlib.Core.List.{List, [], ◌∷◌, ◌++◌, append-nil, append_assoc}
use Prim.Native.Nat.{ℕ, ◌+◌, ◌≤◌, ◌<◌}
use native.Mathlib.Numerals.{add-one}
use native.Mathlib.Omega.{arith}
use lib.ListN.{length, get_or, take, set, length-append}
use lib.Seq.{take-suc, take-suc-set}
use Rattle.text.specs.Text.{Appended, Begins}

pub append_nothing : (at : ℕ) (before : List ℕ) → Appended at [] before before at
append_nothing at before = record { end_is = omega arith; list_is = sym (append-nil (take at before)) }

pub append_one : (at a : ℕ) (before : List ℕ) → at < length before → Appended at (a ∷ []) before (set before at a) (at + 1)
append_one at a before h = record { end_is = refl; list_is = rw (add-one at) (take-suc-set before at a h) }

-- one list behind another
pub append_both : (at m r : ℕ) (xs ys before between after : List ℕ) → Appended at xs before between m → Appended m ys between after r
    → Appended at (xs ++ ys) before after r
append_both at m r xs ys before between after h k =
    record {
      end_is = omega (arith, h.end_is, k.end_is, length-append xs ys);
      list_is = k.list_is ∙ ap (λ l. l ++ ys) h.list_is ∙ append_assoc (take at before) xs ys;
    }

-- a loop that appends the image of a list under f, element by element; z stands past the end of the list
module _ {A : Type 0} (z : A) (f : List A → List ℕ) (joins : (xs ys : List A) → f (xs ++ ys) ≡ f xs ++ f ys) where
  pub append_next : (at i m r : ℕ) (xs : List A) (before between after : List ℕ) → Appended at (f (take i xs)) before between m → i < length xs
      → Appended m (f (get_or xs i z ∷ [])) between after r → Appended at (f (take (i + 1) xs)) before after r
  append_next at i m r xs before between after h l k =
      rw (add-one i, take-suc xs i z l, joins) (append_both at m r (f (take i xs)) (f (get_or xs i z ∷ [])) before between after h k)

-- what is written from place 0 on
pub begins : (end : ℕ) (xs before after : List ℕ) → Appended 0 xs before after end → length xs ≤ length after → Begins xs after end
begins end xs before after h room = record { text_is = h.list_is; within = omega (arith, h.end_is) }
