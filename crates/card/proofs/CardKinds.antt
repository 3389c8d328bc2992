-- The kinds of cards: which are refused, and how many words a card of each carries.
use mathlib.Core.Path.{◌≡◌, refl, sym}
use mathlib.Core.Bool.{Bool, true, false, ◌||◌}
use mathlib.Core.Logic.{◌⊎◌, inl, inr, ⊎_elim}
use Prim.Native.Nat.{ℕ, ◌*◌, ◌≤◌}
use native.Mathlib.Omega.{arith}
use lib.Dec.{eqb}
use borrow.Author.Tests.{eqb-true, eq-eqb, ne_eqb, not-false}
use Rattle.card.specs.Card.{bad_kind, word_count}
use Rattle.card.specs.Kind.{kind_number}
use Rattle.card.specs.declared.kind.Kind.{Kind}
use Rattle.card.specs.declared.kind.Kind.TheVariants.{Job, Pair}

kind_cases : (kind : ℕ) → bad_kind kind ≡ false → (kind ≡ 1) ⊎ (kind ≡ 2)
unfolding bad_kind
kind_cases kind h = by_first (eqb kind 1) refl (not-false (eqb kind 1 || eqb kind 2) h)
  where
    by_first : (b : Bool) → eqb kind 1 ≡ b → (b || eqb kind 2) ≡ true → (kind ≡ 1) ⊎ (kind ≡ 2)
    by_first true e k = inl (eqb-true kind 1 e)
    by_first false e k = inr (eqb-true kind 2 k)

pub kind_bounds : (kind : ℕ) → bad_kind kind ≡ false → (1 ≤ kind) × (kind ≤ 2)
kind_bounds kind h = ⊎_elim (λ e. omega arith) (λ e. omega arith) (kind_cases kind h)

-- the kinds that the code makes of a number, and the numbers that it refuses
pub kind_taken : (kind : Kind) (number : ℕ) → kind_number kind ≡ number → bad_kind number ≡ false
unfolding bad_kind
kind_taken Job number e = rw (sym e)
kind_taken Pair number e = rw (sym e)

pub kind_refused : (number : ℕ) → (number ≡ 1 → ⊥) → (number ≡ 2 → ⊥) → bad_kind number ≡ true
unfolding bad_kind
kind_refused number f g = rw (ne_eqb number 1 f, ne_eqb number 2 g)

module _ (n kind : ℕ) where
  pub count_job : kind ≡ 1 → 2 * n ≡ word_count n kind
  count_job e = rw (eq-eqb kind 1 e, word_count)

  pub count_pair : kind ≡ 2 → 4 * n ≡ word_count n kind
  count_pair e = rw (ne_eqb kind 1 (λ f. omega arith), eq-eqb kind 2 e, word_count)

  pub count_most : n ≤ 16 → word_count n kind ≤ 64
  count_most h = by_kind (eqb kind 1) (eqb kind 2)
    where
      by_kind : (a b : Bool) → elim a [ true ↦ 2 * n | false ↦ elim b [ true ↦ 4 * n | false ↦ 0 ] ] ≤ 64
      by_kind true b = omega arith
      by_kind false true = omega arith
      by_kind false false = omega arith
