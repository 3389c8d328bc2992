-- The turns of four powers at once: each is a turn of one power, as modular has it.
--   Multiplied p x y i r  before turn i the first i numbers of r are products modulo p, below 2·p
--   Reduced p x i r       before turn i the first i numbers of r are those of x modulo p
--   Powers p k x r b e    for each of the four numbers r·b^e = x^k modulo p, and r and b are below 2·p
use mathlib.Core.Path.{◌≡◌, refl, ap, ◌∙◌}
use mathlib.Core.Bool.{Bool, true, false}
use mathlib.Core.List.{List}
use Prim.Native.Nat.{ℕ, ◌+◌, ◌*◌, ◌/◌, ◌%◌, ◌^◌, ◌≤◌, ◌<◌}
use native.Mathlib.Decide.{ℕ_discrete}
use native.Mathlib.Omega.{arith}
use lib.Dec.{eqb}
use lib.ListN.{length, get_or, set, length-set}
use lib.Seq.{get_or-set_same, get_or-set_other}
use borrow.Author.Tests.{eqb-true, eqb-false}
use Rattle.modular.specs.declared.barrett.Barrett.{Barrett}
use Rattle.modular.proofs.Remainder.{PowerLeft, power_even, power_odd, power_end}
use Rattle.character.specs.Four.{Product, Step, Low}

-- a fact of each of the first i numbers, and of the one that is written at place i
write_next : (P : ℕ → ℕ → Type 0) (i w : ℕ) (r : List ℕ) → i < length r → P i w → ((j : ℕ) → j < i → P j (get_or r j 0))
    → (j : ℕ) → j < i + 1 → P j (get_or (set r i w) j 0)
write_next P i w r l here before j lj = by_place (ℕ_discrete j i)
  where
    by_place : Dec (j ≡ i) → P j (get_or (set r i w) j 0)
    by_place (yes e) = rw (e, get_or-set_same r i w 0 l) here
    by_place (no d) = rw (get_or-set_other r i j w 0 d) (before j (omega arith))

pub record Multiplied (p : ℕ) (x y : List ℕ) (i : ℕ) (r : List ℕ) : Type 0 where
  pub size : length r ≡ 4
  pub value : (j : ℕ) → j < i → get_or r j 0 % p ≡ get_or x j 0 * get_or y j 0 % p
  pub below : (j : ℕ) → j < i → get_or r j 0 < 2 * p

pub multiply_turn : (p i w : ℕ) (x y r : List ℕ) → i < 4 → Multiplied p x y i r → w % p ≡ get_or x i 0 * get_or y i 0 % p → w < 2 * p
    → Multiplied p x y (i + 1) (set r i w)
multiply_turn p i w x y r l h e lw =
    let place : i < length r = omega (arith, h.size) in
    record {
      size = length-set r i w ∙ h.size;
      value = write_next (λ j z. z % p ≡ get_or x j 0 * get_or y j 0 % p) i w r place e h.value;
      below = write_next (λ j z. z < 2 * p) i w r place lw h.below;
    }

pub record Reduced (p : ℕ) (x : List ℕ) (i : ℕ) (r : List ℕ) : Type 0 where
  pub size : length r ≡ 4
  pub value : (j : ℕ) → j < i → get_or r j 0 ≡ get_or x j 0 % p
  pub below : (j : ℕ) → j < i → get_or r j 0 < p

pub reduce_turn : (p i w : ℕ) (x r : List ℕ) → i < 4 → Reduced p x i r → w ≡ get_or x i 0 % p → w < p → Reduced p x (i + 1) (set r i w)
reduce_turn p i w x r l h e lw =
    let place : i < length r = omega (arith, h.size) in
    record {
      size = length-set r i w ∙ h.size;
      value = write_next (λ j z. z ≡ get_or x j 0 % p) i w r place e h.value;
      below = write_next (λ j z. z < p) i w r place lw h.below;
    }

pub record Powers (p k : ℕ) (x r b : List ℕ) (e : ℕ) : Type 0 where
  pub low_r : Low p r
  pub low_b : Low p b
  pub left : (i : ℕ) → i < 4 → PowerLeft p (get_or x i 0) k (get_or r i 0) (get_or b i 0) e

module _ (d : Barrett) (k e : ℕ) (x r b : List ℕ) (l : Powers d.p k x r b e) where
  pub powers_turn : (s c : List ℕ) → Step d.p (eqb (e % 2) 1) r b s → Product d.p b b c → Powers d.p k x s c (e / 2)
  powers_turn s c step square =
      record {
        low_r = record { below = step.below };
        low_b = record { below = square.below };
        left = λ i li. by_parity i li (eqb (e % 2) 1) refl;
      }
    where
      by_parity : (i : ℕ) → i < 4 → (odd : Bool) → eqb (e % 2) 1 ≡ odd → PowerLeft d.p (get_or x i 0) k (get_or s i 0) (get_or c i 0) (e / 2)
      by_parity i li true o =
          power_odd d.p (get_or x i 0) k (get_or r i 0) (get_or b i 0) e (l.left i li) (get_or c i 0) (get_or s i 0) (get_or s i 0)
          (eqb-true (e % 2) 1 o) (step.if_odd o i li) (step.below i li) refl (square.value i li) (square.below i li)
      by_parity i li false o =
          power_even d.p (get_or x i 0) k (get_or r i 0) (get_or b i 0) e (l.left i li) (get_or c i 0) (get_or s i 0)
          (eqb-false (e % 2) 1 o) (ap (λ u. get_or u i 0) (step.if_even o)) (square.value i li) (square.below i li)

  pub powers_end : e ≤ 0 → (w : List ℕ) → ((i : ℕ) → i < 4 → get_or w i 0 ≡ get_or r i 0 % d.p) → (i : ℕ) → i < 4 → get_or w i 0 ≡ get_or x i 0 ^ k % d.p
  powers_end done w value i li = value i li ∙ power_end d.p (get_or x i 0) k (get_or r i 0) (get_or b i 0) e (l.left i li) done
