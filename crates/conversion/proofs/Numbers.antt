-- Conversion by what is held, the open table and k records: the number by the tests of the code, and what the number 0 says.
--   Accepted x k table out   what is held is paired, no table is open, 9, 10 and 4 do not apply, and the ledger has room: exactly then the number is 0
use Rattle.std.specs.Prelude.{Ok}
use mathlib.Core.Path.{◌≡◌, refl, sym, ap, ◌∙◌}
use mathlib.Core.Bool.{true, false}
use mathlib.Core.List.{List, [], ◌∷◌}
use Prim.Native.Nat.{ℕ, ◌/◌, ◌≤◌, ◌<◌}
use native.Mathlib.Nat as Nat
use native.Mathlib.Omega.{arith}
use lib.ListN.{length}
use mir.Syntax.{w32}
use mir.Val.{Fits}
use Rattle.held.specs.Held.{View, empty, loaded, paired, view, valid, t1_of, t2_of, s_of, r_of}
use Rattle.held.specs.ViewState.{view_state}
use Rattle.held.specs.declared.Held.{Held}
use Rattle.held.specs.declared.State.TheVariants.{Paired}
use Rattle.held.proofs.Contents.{paired_valid}
use Rattle.held.proofs.Valid.{valid_size, maps_valid}
use Rattle.ledger.specs.Ledger.{most_records}
use Rattle.ledger.specs.declared.Direction.{Direction}
use Rattle.table.specs.Table.{table_number}
use Rattle.table.proofs.Convertible as Convertible
use Rattle.work.specs.Number.{or_else, state_number, full_number}
use Rattle.work.specs.Work.{is_paired, is_open}
use Rattle.work.specs.declared.Work.{Work}
use Rattle.work.proofs.Numbers.{or_first, or_next, or_zero, state_zero, state_whole, full_zero, full_whole}
use Rattle.work.specs.Step.{Records}
use Rattle.conversion.specs.Conversion.{convert_number, convert}

-- a value that counts as paired
module _ (h : Held) (e : is_paired (view h) ≡ true) where
  by_view : (v : View) → is_paired v ≡ true → Paired ≡ view_state v
  unfolding is_paired view_state
  by_view empty f = cc
  by_view (loaded p n t1 t2) f = cc
  by_view (paired p n t1 t2 s r) f = refl

  pub state_paired : Paired ≡ view_state (view h)
  state_paired = by_view (view h) e

  pub lists_valid : valid h.p h.n (t1_of h ∷ t2_of h ∷ s_of h ∷ r_of h ∷ []) ≡ true
  lists_valid = paired_valid h Paired state_paired refl

  pub degree_positive : 1 ≤ h.n
  degree_positive = (valid_size h.p h.n _ lists_valid).2

  pub forward_valid : valid h.p h.n (t2_of h ∷ s_of h ∷ []) ≡ true
  forward_valid = (maps_valid h.p h.n _ _ _ _ lists_valid).0

  pub back_valid : valid h.p h.n (t1_of h ∷ r_of h ∷ []) ≡ true
  back_valid = (maps_valid h.p h.n _ _ _ _ lists_valid).1

  -- a table of up to 16,384 words has as many residues at most
  pub residues_few : (table out : List ℕ) → table_number h.p h.n table out ≡ 0 → length table / h.n ≤ 16384
  residues_few table out t =
      omega (arith, degree_positive, Nat.div-le_self (length table) h.n, (Convertible.table_given h.p h.n table out t).sizes.few)

-- the number, by the tests of the code
module _ (x : Work) (k : ℕ) (table out : List ℕ) (i : ℕ) (e : i ≡ state_number x) where
  pub state_refused : (i ≡ 0 → ⊥) → i ≡ convert_number x k table out
  unfolding convert_number
  state_refused h = or_first i _ h ∙ ap (λ m. or_else m (or_else (table_number x.held.p x.held.n table out) (full_number k))) e

  module _ (z : i ≡ 0) where
    pub state_positive : 1 ≤ x.held.n
    state_positive = degree_positive x.held (state_zero x (sym e ∙ z)).0

    module _ (j : ℕ) (f : j ≡ table_number x.held.p x.held.n table out) where
      after_state : or_else j (full_number k) ≡ convert_number x k table out
      unfolding convert_number
      after_state = ap (λ m. or_else m (full_number k)) f ∙ or_next (state_number x) _ (sym e ∙ z)

      pub table_refused : (j ≡ 0 → ⊥) → j ≡ convert_number x k table out
      table_refused h = or_first j (full_number k) h ∙ after_state

      pub room_decides : j ≡ 0 → (m : ℕ) → m ≡ full_number k → m ≡ convert_number x k table out
      room_decides h m g = g ∙ or_next j (full_number k) h ∙ after_state

-- what the number 0 says
pub record Accepted (x : Work) (k : ℕ) (table out : List ℕ) : Type 0 where
  pub paired : is_paired (view x.held) ≡ true
  pub closed : is_open x.table ≡ false
  pub given : table_number x.held.p x.held.n table out ≡ 0
  pub room : k ≡ most_records → ⊥

module _ (x : Work) (k : ℕ) (table out : List ℕ) where
  pub accepted : convert_number x k table out ≡ 0 → Accepted x k table out
  unfolding convert_number
  accepted h =
      let (state, rest) = or_zero (state_number x) _ h in
      let (given, room) = or_zero (table_number x.held.p x.held.n table out) (full_number k) rest in
      let (pair, closed) = state_zero x state in
      record { paired = pair; closed = closed; given = given; room = full_zero k room }

  pub accepted_whole : Accepted x k table out → convert_number x k table out ≡ 0
  unfolding convert_number
  accepted_whole a = rw (state_whole x a.paired a.closed, a.given, full_whole k a.room)

-- the answer
module _ (d : Direction) (x : Work) (k : ℕ) (table out : List ℕ) (j : ℕ) (e : j ≡ convert_number x k table out) where
  module _ (h : j ≡ 0) where
    pub number_paired : is_paired (view x.held) ≡ true
    number_paired = (accepted x k table out (sym e ∙ h)).paired

    pub table_given : table_number x.held.p x.held.n table out ≡ 0
    table_given = (accepted x k table out (sym e ∙ h)).given

    pub divisor_positive : 0 < x.held.n
    divisor_positive = omega (arith, degree_positive x.held number_paired)

    pub residues_fit : Fits w32 (length table / x.held.n)
    residues_fit = record { fits = omega (arith, residues_few x.held number_paired table out table_given) }

    pub converted : Records (Ok (record { work = x; entry = record { direction = d; residues = length table / x.held.n } })) (convert d x k table out)
    unfolding convert
    converted = let z : convert_number x k table out ≡ 0 = sym e ∙ h in (z, refl, rw z)
