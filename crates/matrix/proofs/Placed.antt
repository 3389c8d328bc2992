-- A column more: a matrix whose columns before j are f 0, …, f (j − 1), with f j placed in column j.
use mathlib.Core.Path.{◌≡◌, sym, ap, subst, ◌∙◌}
use mathlib.Core.List.{List}
use Prim.Native.Nat.{ℕ, ◌+◌, ◌<◌}
use native.Mathlib.Decide.{ℕ_discrete, dec_lt}
use native.Mathlib.Omega.{arith}
use lib.ListN.{get_or}
use lib.Seq.{get_or-take}
use Rattle.array.specs.Words.{Words}
use Rattle.array.specs.Array.{padded, Holds, entry, Square}
use Rattle.array.proofs.Padded.{holds_word, front_is}
use Rattle.matrix.specs.Matrix.{Placed}

pub placed_next : {p n : ℕ} (f : ℕ → List ℕ) (j : ℕ) (u m m' : List ℕ) → j < 16 → Words p n (f j) → Placed n j u m m' → u ≡ padded (f j)
    → ((i k : ℕ) → i < n → k < j → entry m i k ≡ get_or (f k) i 0) → (i k : ℕ) → i < n → k < j + 1 → entry m' i k ≡ get_or (f k) i 0
placed_next {p} {n} f j u m m' low wj placed e before i k li lk = by_place (ℕ_discrete k j)
  where
    by_place : Dec (k ≡ j) → entry m' i k ≡ get_or (f k) i 0
    by_place (yes g) =
        ap (entry m' i) g ∙ placed.words i li ∙ sym (get_or-take n u i 0 li) ∙ ap (λ v. get_or v i 0) (front_is e wj) ∙ ap (λ b. get_or (f b) i 0) (sym g)
    by_place (no other) = placed.others i k (omega arith) other ∙ before i k li (omega arith)

-- words below p stay so
pub placed_below : {p n j : ℕ} {u m m' : List ℕ} → Square p 16 m → Holds p n u → Placed n j u m m' → Square p 16 m'
placed_below {p} {n} {j} {u} {m} {m'} h y placed = record { size = placed.size ∙ h.size; below = λ i k li lk. by_place i k li lk (ℕ_discrete k j) (dec_lt i n) }
  where
    by_place : (i k : ℕ) → i < 16 → k < 16 → Dec (k ≡ j) → Dec (i < n) → entry m' i k < p
    by_place i k li lk (no other) d = rw (placed.others i k lk other) (h.below i k li lk)
    by_place i k li lk (yes e) (yes l) = subst (λ b. entry m' i b < p) (sym e) (rw (placed.words i l) (holds_word y i l))
    by_place i k li lk (yes e) (no l) =
        subst (λ b. entry m' i b < p) (sym e) (rw (placed.rest i (omega arith)) (subst (λ b. entry m i b < p) e (h.below i k li lk)))
