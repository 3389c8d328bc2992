-- Comparison from the highest power down: where the words above word j agree and those at j differ, word j decides.
--   Agree n u v j   of the first n words of u and v those from word j on agree
use mathlib.Core.Path.{◌≡◌, sym, ap, ap₂, subst, ◌∙◌}
use mathlib.Core.Bool.{true, false, ◌&&◌, ◌||◌, or-false}
use mathlib.Core.List.{List, [], ◌∷◌}
use Prim.Native.Nat.{ℕ, zero, suc, ◌-◌, ◌≤◌, ◌<◌}
use native.Mathlib.Omega.{arith}
use lib.Dec.{ltb}
use lib.ListN.{length, get_or, take, drop, drop_of_length-le}
use lib.Seq.{drop-cons, get_or-take, length-take-le}
use Rattle.algebra.specs.Lists.{equal}
use Rattle.algebra.proofs.Equality.{equal_of, of_equal, test_fails}
use Rattle.array.specs.Ascending.{lower}
use Rattle.array.proofs.Ascending.{lower_irreflexive}

same_not_lower : (u v : List ℕ) → u ≡ v → lower u v ≡ false
same_not_lower u v e = test_fails (lower u v) (λ h. lower_irreflexive u (subst (λ w. lower u w ≡ true) (sym e) h))

word_decides : (j : ℕ) (u v : List ℕ) → j < length u → j < length v → drop (suc j) u ≡ drop (suc j) v → (get_or u j 0 ≡ get_or v j 0 → ⊥)
    → lower u v ≡ ltb (get_or u j 0) (get_or v j 0)
unfolding lower
word_decides j [] v l m e apart = absurd (omega arith)
word_decides j (a ∷ u) [] l m e apart = absurd (omega arith)
word_decides zero (a ∷ u) (b ∷ v) l m e apart = ap₂ (λ c d. c || d && ltb a b) (same_not_lower u v e) (equal_of e)
word_decides (suc j) (a ∷ u) (b ∷ v) l m e apart =
    ap₂ (λ c d. c || d && ltb a b) (word_decides j u v (omega arith) (omega arith) e apart)
    (test_fails (equal u v) (λ h. apart (ap (λ w. get_or w j 0) (of_equal u v h))))
    ∙ or-false (ltb (get_or u j 0) (get_or v j 0))

abbrev pub Agree : ℕ → List ℕ → List ℕ → ℕ → Type 0
Agree n u v j = drop j (take n u) ≡ drop j (take n v)

module _ (n : ℕ) (u v : List ℕ) (short : n ≤ 16) (lu : length u ≡ 16) (lv : length v ≡ 16) where
  front_length : (w : List ℕ) → length w ≡ 16 → length (take n w) ≡ n
  front_length w l = length-take-le n w (omega arith)

  none_left : (w : List ℕ) → length w ≡ 16 → drop n (take n w) ≡ []
  none_left w l = let all : length (take n w) ≤ n = omega (arith, front_length w l) in drop_of_length-le (take n w) all

  pub agree_none : Agree n u v n
  agree_none = none_left u lu ∙ sym (none_left v lv)

  -- word j − 1, below those that agree
  module _ (j : ℕ) (low : 0 < j) (high : j ≤ n) (agree : Agree n u v j) where
    above : j ≡ suc (j - 1)
    above = omega arith

    word_at : (w : List ℕ) → get_or (take n w) (j - 1) 0 ≡ get_or w (j - 1) 0
    word_at w = get_or-take n w (j - 1) 0 (omega arith)

    later_same : drop (suc (j - 1)) (take n u) ≡ drop (suc (j - 1)) (take n v)
    later_same = subst (λ k. drop k (take n u) ≡ drop k (take n v)) above agree

    pub agree_next : get_or u (j - 1) 0 ≡ get_or v (j - 1) 0 → Agree n u v (j - 1)
    agree_next e =
        drop-cons (take n u) (j - 1) 0 (omega (arith, front_length u lu))
        ∙ ap₂ ◌∷◌ (word_at u ∙ e ∙ sym (word_at v)) later_same
        ∙ sym (drop-cons (take n v) (j - 1) 0 (omega (arith, front_length v lv)))

    pub decided : (get_or u (j - 1) 0 ≡ get_or v (j - 1) 0 → ⊥) → ltb (get_or u (j - 1) 0) (get_or v (j - 1) 0) ≡ lower (take n u) (take n v)
    decided apart =
        sym (word_decides (j - 1) (take n u) (take n v) (omega (arith, front_length u lu)) (omega (arith, front_length v lv)) later_same
        (λ e. apart (sym (word_at u) ∙ e ∙ word_at v))
        ∙ ap₂ ltb (word_at u) (word_at v))

  pub agree_all : (j : ℕ) → j ≤ 0 → Agree n u v j → false ≡ lower (take n u) (take n v)
  agree_all j end agree =
      let none : j ≡ 0 = omega arith in
      sym (same_not_lower (take n u) (take n v) (subst (λ k. drop k (take n u) ≡ drop k (take n v)) none agree))
