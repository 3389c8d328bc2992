-- The loop of `minus`: z is subtracted from the words of the diagonal one after another.
--   Diagonal p z k m c   c is m with z subtracted in the first k words of the diagonal
use mathlib.Core.Path.{◌≡◌, refl, sym, ap, ◌∙◌}
use mathlib.Core.List.{List}
use Prim.Native.Nat.{ℕ, ◌+◌, ◌-◌, ◌*◌, ◌%◌, ◌≤◌, ◌<◌}
use native.Mathlib.Decide.{ℕ_discrete}
use native.Mathlib.Omega.{arith}
use lib.ListN.{length, set, length-set}
use lib.Seq.{get_or-set_same, get_or-set_other}
use Rattle.array.specs.Array.{entry, Square}
use Rattle.scalar.specs.Shifted.{Shifted}

pub record Diagonal (p z k : ℕ) (m c : List ℕ) : Type 0 where
  pub size : length c ≡ 256
  pub done : (i : ℕ) → i < k → entry c i i ≡ (entry m i i + (p - z)) % p
  pub same : (i j : ℕ) → i < 16 → j < 16 → (j ≡ i → ⊥) → entry c i j ≡ entry m i j
  pub rest : (i : ℕ) → k ≤ i → i < 16 → entry c i i ≡ entry m i i

module _ (p n z : ℕ) (m : List ℕ) where
  pub diagonal_start : Square p n m → Diagonal p z 0 m m
  diagonal_start h = record { size = h.size; done = λ i l. absurd (omega arith); same = λ i j _ _ _. refl; rest = λ i _ _. refl }

  module _ (k : ℕ) (c : List ℕ) (d : Diagonal p z k m c) where
    pub diagonal_below : Square p n m → k < n → n ≤ 16 → entry c k k < p
    diagonal_below h l short = rw (d.rest k (omega arith) (omega arith)) (h.below k k l l)

    pub diagonal_turn : (w : ℕ) → k < n → n ≤ 16 → w ≡ (entry c k k + (p - z)) % p → Diagonal p z (k + 1) m (set c (16 * k + k) w)
    diagonal_turn w l short e =
        record {
          size = length-set c (16 * k + k) w ∙ d.size;
          done = λ i li. by_place i li (ℕ_discrete i k);
          same = λ i j li lj other. get_or-set_other c (16 * k + k) (16 * i + j) w 0 (λ s. other (omega arith)) ∙ d.same i j li lj other;
          rest = λ i from li. get_or-set_other c (16 * k + k) (16 * i + i) w 0 (λ s. omega arith) ∙ d.rest i (omega arith) li;
        }
      where
        by_place : (i : ℕ) → i < k + 1 → Dec (i ≡ k) → entry (set c (16 * k + k) w) i i ≡ (entry m i i + (p - z)) % p
        by_place i li (yes s) =
            ap (λ j. entry (set c (16 * k + k) w) j j) s ∙ get_or-set_same c (16 * k + k) w 0 (omega (arith, d.size)) ∙ e
            ∙ ap (λ x. (x + (p - z)) % p) (d.rest k (omega arith) (omega arith)) ∙ ap (λ j. (entry m j j + (p - z)) % p) (sym s)
        by_place i li (no other) = get_or-set_other c (16 * k + k) (16 * i + i) w 0 (λ s. other (omega arith)) ∙ d.done i (omega arith)

    pub diagonal_end : n ≤ 16 → n ≤ k → Shifted p n z m c
    diagonal_end short all =
        record { size = d.size; diagonal = λ i l. d.done i (omega arith); others = λ i j li lj other. d.same i j (omega arith) (omega arith) other }
