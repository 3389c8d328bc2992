-- Words that are stored side by side, from word k on.
use mathlib.Core.Path.{◌≡◌, refl, sym, ap, ap₂, ◌∙◌}
use mathlib.Core.List.{List, [], ◌∷◌}
use mathlib.Core.Logic.{◌⊎◌, inl, inr}
use Prim.Native.Nat.{ℕ, zero, suc, ◌+◌, ◌≤◌, ◌<◌}
use native.Mathlib.Nat as Nat
use native.Mathlib.Omega.{arith}
use native.Mathlib.Numerals.{add-one}
use lib.ListN.{length, get_or, set, drop, length-set}
use Rattle.std.proofs.lemmas.List.{drop_all}
use lib.Seq.{sets, drop-cons, get_or-set_same, get_or-set_other}

pub row_outside : (new out : List ℕ) (k i : ℕ) → (i < k) ⊎ (k + length new ≤ i) → get_or (sets out k new) i 0 ≡ get_or out i 0
row_outside [] out k i h = refl
row_outside (a ∷ new) out k i (inl h) = row_outside new (set out k a) (suc k) i (inl (omega arith)) ∙ get_or-set_other out k i a 0 (λ e. omega arith)
row_outside (a ∷ new) out k i (inr h) = row_outside new (set out k a) (suc k) i (inr (omega arith)) ∙ get_or-set_other out k i a 0 (λ e. omega arith)

pub row_inside : (new out : List ℕ) (k c : ℕ) → k + length new ≤ length out → c < length new → get_or (sets out k new) (k + c) 0 ≡ get_or new c 0
row_inside [] out k c room h = absurd (omega arith)
row_inside (a ∷ new) out k zero room h =
    ap (λ i. get_or (sets (set out k a) (suc k) new) i 0) (Nat.add-zero k)
    ∙ row_outside new (set out k a) (suc k) k (inl (omega arith))
    ∙ get_or-set_same out k a 0 (omega arith)
row_inside (a ∷ new) out k (suc c) room h =
    ap (λ i. get_or (sets (set out k a) (suc k) new) i 0) (Nat.add-suc k c ∙ sym (Nat.suc-add k c))
    ∙ row_inside new (set out k a) (suc k) c (omega (arith, length-set out k a)) (omega arith)

-- one after another: what is left to store after the first c of them

pub stored_none : (k : ℕ) (sums out : List ℕ) → sets out (k + 0) (drop 0 sums) ≡ sets out k sums
stored_none k sums out = ap (λ i. sets out i sums) (Nat.add-zero k)

pub stored_turn : (k c : ℕ) (sums out : List ℕ) → c < length sums
    → sets (set out (k + c) (get_or sums c 0)) (k + (c + 1)) (drop (c + 1) sums) ≡ sets out (k + c) (drop c sums)
stored_turn k c sums out l =
    let next : k + (c + 1) ≡ suc (k + c) = omega arith in
    ap₂ (λ i xs. sets (set out (k + c) (get_or sums c 0)) i xs) next (ap (λ i. drop i sums) (add-one c))
    ∙ ap (λ xs. sets out (k + c) xs) (sym (drop-cons sums c 0 l))

pub stored_all : (k c : ℕ) (sums out : List ℕ) → length sums ≤ c → out ≡ sets out (k + c) (drop c sums)
stored_all k c sums out end = ap (λ xs. sets out (k + c) xs) (sym (drop_all c sums end))
