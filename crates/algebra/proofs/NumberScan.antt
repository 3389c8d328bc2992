-- Two scans: for the first number of a range that has a property, and for the smallest number of a sequence that has it.
--   Searched P s e c         s ≤ c < e, and no j with s ≤ j < c has the property P
--   Minimal P f i k least    `least` has the property, and no f j with i ≤ j < k that has it is smaller
use mathlib.Core.Path.{◌≡◌, ap, ◌∙◌}
use Prim.Native.Nat.{ℕ, ◌+◌, ◌≤◌, ◌<◌}
use native.Mathlib.Nat.{le_trans}
use native.Mathlib.Omega.{arith}
use borrow.Author.Count.{below_more}

pub record Searched (P : ℕ → Type 0) (s e c : ℕ) : Type 0 where
  pub from : s ≤ c
  pub to : c < e
  pub others : (j : ℕ) → j < c → s ≤ j → P j → ⊥

-- some x of the range has the property, and c has not, so x is still to come
pub searched_turn : (P : ℕ → Type 0) (s e c x : ℕ) → s ≤ x → x < e → P x → Searched P s e c → (P c → ⊥) → Searched P s e (c + 1)
searched_turn P s e c x low high h searched other =
    let none : (j : ℕ) → j < c + 1 → s ≤ j → P j → ⊥ = below_more (λ j. s ≤ j → P j → ⊥) c searched.others (λ _. other) in
    let past : x < c + 1 → ⊥ = λ l. none x l low h in
    record { from = omega (arith, searched.from); to = omega arith; others = none }

pub record Minimal (P : ℕ → Type 0) (f : ℕ → ℕ) (i k least : ℕ) : Type 0 where
  pub has : P least
  pub below : (j : ℕ) → j < k → i ≤ j → P (f j) → least ≤ f j

module _ (P : ℕ → Type 0) (f : ℕ → ℕ) (i : ℕ) where
  pub minimal_start : (least : ℕ) → least ≡ f i → P least → Minimal P f i (i + 1) least
  minimal_start least e h =
      record { has = h; below = λ j high low _. let s : i ≡ j = omega arith in let g : least ≡ f j = e ∙ ap f s in omega arith }

  -- the smallest so far, or the number that comes next
  pub minimal_next : (k least next : ℕ) → Minimal P f i k least → P next → next ≤ least → (P (f k) → next ≤ f k) → Minimal P f i (k + 1) next
  minimal_next k least next m h smaller last =
      record { has = h; below = below_more (λ j. i ≤ j → P (f j) → next ≤ f j) k (λ j l low hj. le_trans smaller (m.below j l low hj)) (λ _. last) }
