-- The loops over a column: writing one, and reading one.
--   column_word m j i   word i of column j
use mathlib.Core.Path.{◌≡◌, refl, sym, ap, subst, ◌∙◌}
use mathlib.Core.List.{List}
use Prim.Native.Nat.{ℕ, ◌+◌, ◌*◌, ◌≤◌, ◌<◌}
use native.Mathlib.Decide.{ℕ_discrete}
use native.Mathlib.Omega.{arith}
use lib.ListN.{length, get_or, set, replicate, length-set}
use lib.Seq.{get_or-set_same, get_or-set_other}
use Rattle.array.specs.Array.{padded, entry}
use Rattle.matrix.specs.Matrix.{Placed, column}
use Rattle.array.proofs.Painted.{painted}
use Rattle.array.proofs.Painted.{painted_turn}
use Rattle.array.proofs.Ranges.{painted_done}

-- writing a column

pub place_starts : (j : ℕ) (u m : List ℕ) → Placed 0 j u m m
place_starts j u m = record { size = refl; words = λ i l. absurd (omega arith); others = λ i k l other. refl; rest = λ i l. refl }

module _ (n j i : ℕ) (u m m' : List ℕ) (h : Placed i j u m m') where
  pub place_turn : i < n → n ≤ 16 → j < 16 → length m ≡ 256 → Placed (i + 1) j u m (set m' (16 * i + j) (get_or u i 0))
  place_turn l short low large = record {
    size = length-set m' (16 * i + j) (get_or u i 0) ∙ h.size;
    words = λ k lk. by_place k lk (ℕ_discrete k i);
    others = λ k b lb other. get_or-set_other m' (16 * i + j) (16 * k + b) (get_or u i 0) 0 (λ e. other (omega arith)) ∙ h.others k b lb other;
    rest = λ k lk. get_or-set_other m' (16 * i + j) (16 * k + j) (get_or u i 0) 0 (λ e. absurd (omega arith)) ∙ h.rest k (omega arith);
  }
    where
      by_place : (k : ℕ) → k < i + 1 → Dec (k ≡ i) → entry (set m' (16 * i + j) (get_or u i 0)) k j ≡ get_or u k 0
      by_place k lk (yes e) =
          ap (λ b. entry (set m' (16 * i + j) (get_or u i 0)) b j) e
          ∙ get_or-set_same m' (16 * i + j) (get_or u i 0) 0 (omega (arith, h.size)) ∙ ap (λ b. get_or u b 0) (sym e)
      by_place k lk (no other) =
          get_or-set_other m' (16 * i + j) (16 * k + j) (get_or u i 0) 0 (λ e. other (omega arith)) ∙ h.words k (omega arith)

  pub place_done : i ≤ n → n ≤ i → Placed n j u m m'
  place_done l l' =
      let same : i ≡ n = omega arith in
      subst (λ k. Placed k j u m m') same h

-- reading a column

unfoldable pub column_word : List ℕ → ℕ → ℕ → ℕ
column_word m j i = entry m i j

pub column_turn : (i j : ℕ) (m w w' : List ℕ) → w' ≡ painted w (column_word m j) i → set w' i (get_or m (16 * i + j) 0) ≡ painted w (column_word m j) (i + 1)
unfolding column_word
column_turn i j m w w' e = painted_turn (column_word m j) i (entry m i j) w w' refl e

pub column_done : (n i j : ℕ) (m w : List ℕ) → n ≤ 16 → i ≤ n → n ≤ i → w ≡ painted (replicate 16 0) (column_word m j) i → w ≡ padded (column n m j)
unfolding column_word column
column_done n i j m w short l l' e = painted_done (column_word m j) n i w short l l' e
