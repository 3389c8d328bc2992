-- The loops over the columns.
--   Done n j xs out     in the columns below j, out has the words of xs
use mathlib.Core.Path.{◌≡◌, sym, ◌∙◌}
use mathlib.Core.List.{List}
use mathlib.Core.Logic.{inl}
use Prim.Native.Nat.{ℕ, ◌+◌, ◌-◌, ◌%◌, ◌≤◌, ◌<◌}
use native.Mathlib.Decide.{dec_lt}
use native.Mathlib.Nat as Nat
use native.Mathlib.Omega.{arith}
use lib.ListN.{length, get_or}
use lib.Seq.{ext_get_or}
use Rattle.restoring.specs.Clauses.{Whole, Columns, width}
use Rattle.differences.specs.Differences.{restored}
use Rattle.differences.proofs.Words.{restored-length}
use Rattle.restoring.proofs.columns.Some.{width_bounds}

pub record Done (n j : ℕ) (xs out : List ℕ) : Type 0 where
  pub size : length out ≡ length xs
  pub words : (i : ℕ) → i < length xs → i % n < j → get_or out i 0 ≡ get_or xs i 0

pub done_none : (n : ℕ) (table out : List ℕ) → length out ≡ length table → Done n 0 (restored n table) out
done_none n table out room = record { size = room ∙ sym (restored-length n table); words = λ i h l. absurd (omega arith) }

-- the columns c to c + w − 1, of which some may be done; then j' are
module _ (n j c w j' : ℕ) (table out out' : List ℕ) (done : Done n j (restored n table) out) (l : c ≤ j) (m : j' ≤ c + w)
    (new : Columns n c w (length table) (restored n table) out out') where
  cases : (i : ℕ) → i < length (restored n table) → i % n < j' → Dec (i % n < c) → get_or out' i 0 ≡ get_or (restored n table) i 0
  cases i inside below (yes h) = new.outside i (inl h) ∙ done.words i inside (omega arith)
  cases i inside below (no h) = new.inside i (omega (arith, restored-length n table)) inside (omega arith) (omega arith)

  pub done_more : Done n j' (restored n table) out'
  done_more = record { size = new.size ∙ done.size; words = λ i inside below. cases i inside below (dec_lt (i % n) c) }

pub done_all : (n j : ℕ) (table out₀ out : List ℕ) → Whole n table out₀ → n ≤ j → Done n j (restored n table) out → out ≡ restored n table
done_all n j table out₀ out h end done =
    ext_get_or 0 out (restored n table) done.size (λ i l. done.words i (rw (sym done.size) l) (below i))
  where
    below : (i : ℕ) → i % n < j
    below i = omega (arith, Nat.mod-lt i h.low)

pub whole_now : (n : ℕ) (table out₀ out : List ℕ) → Whole n table out₀ → length out ≡ length table → Whole n table out
whole_now n table out₀ out h room = record { low = h.low; high = h.high; few = h.few; groups = h.groups; room = room }

pub columns-length : (n c w : ℕ) (table out out' : List ℕ) → Columns n c w (length table) (restored n table) out out' → length out ≡ length table
    → length out' ≡ length table
columns-length n c w table out out' new room = new.size ∙ room

-- the columns that are restored at a time, w of them

module _ (n w : ℕ) (table out₀ : List ℕ) (h : Whole n table out₀) (e : w ≡ width n) where
  pub w_positive : 1 ≤ w
  w_positive = rw e (width_bounds n h.low).0

  pub w_small : w ≤ n
  w_small = rw e (width_bounds n h.low).1

  -- from column j on
  pub some_inside : (j : ℕ) → j + w < n → j + width n ≤ n
  some_inside j l = omega arith

  pub done_next : (j : ℕ) (out out' : List ℕ) → Done n j (restored n table) out → Columns n j (width n) (length table) (restored n table) out out'
      → Done n (j + w) (restored n table) out'
  done_next j out out' done new = done_more n j j (width n) (j + w) table out out' done (omega arith) (omega arith) new

  -- the last
  pub last_inside : n - w + width n ≤ n
  last_inside = omega (arith, w_small)

  pub done_last : (j : ℕ) (out out' : List ℕ) → n ≤ j + w → Done n j (restored n table) out
      → Columns n (n - w) (width n) (length table) (restored n table) out out' → out' ≡ restored n table
  done_last j out out' end done new =
      done_all n n table out₀ out' h (Nat.le_refl n) (done_more n j (n - w) (width n) n table out out' done (omega arith) (omega (arith, w_small)) new)
