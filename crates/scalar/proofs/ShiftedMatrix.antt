-- The matrix M − z, where the columns of M are the powers of S: in row i it has the product of row i of M with u, minus z times word i of u, and the product is word i of u(S).
use mathlib.Core.Path.{◌≡◌, refl, sym, ap, ap₂, subst, ◌∙◌}
use mathlib.Core.List.{List, [], ◌∷◌}
use Prim.Native.Nat.{ℕ, zero, suc, ◌+◌, ◌-◌, ◌*◌, ◌%◌, ◌≤◌, ◌<◌}
use native.Mathlib.Decide.{ℕ_discrete}
use native.Mathlib.Nat.{add_assoc, add-mul, mod-add-mod, mod-lt, mod-mod, zero-add}
use native.Mathlib.Omega.{arith}
use lib.ListN.{length, get_or, replicate}
use Rattle.algebra.specs.Prime.{Prime}
use Rattle.array.specs.Array.{entry, row_product, Square, Holds}
use Rattle.linear.proofs.Congruence.{sum_congruent, product_congruent}
use Rattle.array.specs.Words.{Words}
use Rattle.quotient.specs.Residue.{substitute}
use Rattle.array.proofs.Padded.{holds_is, padded_zeros}
use Rattle.array.proofs.Words.{words_length, zeros_words}
use Rattle.matrix.specs.Matrix.{Powers}
use Rattle.matrix.proofs.PowerMatrix.{powers_square, row_substitutes}
use Rattle.scalar.specs.Shifted.{Shifted}

-- rows with the same words have the same products
pub row_same : (m c : List ℕ) (i j : ℕ) (f : List ℕ) → ((k : ℕ) → j ≤ k → k < j + length f → entry c i k ≡ entry m i k) → row_product c i j f ≡ row_product m i j f
unfolding row_product
row_same m c i j [] h = refl
row_same m c i j (a ∷ f) h =
    ap₂ (λ x y. x * a + y) (h j (omega arith) (omega arith)) (row_same m c i (suc j) f (λ k l g. h k (omega arith) (omega arith)))

-- d more in column i = j + k of row i is d·f_k more
row_more : (p d : ℕ) (m c : List ℕ) (i : ℕ) → entry c i i % p ≡ (entry m i i + d) % p → (j k : ℕ) (f : List ℕ) → j + k ≡ i → k < length f
    → ((l : ℕ) → j ≤ l → l < j + length f → (l ≡ i → ⊥) → entry c i l ≡ entry m i l) → row_product c i j f % p ≡ (row_product m i j f + d * get_or f k 0) % p
unfolding row_product
row_more p d m c i e j k [] s l h = absurd (omega arith)
row_more p d m c i e j zero (a ∷ f) s l h =
    let here : entry c i j % p ≡ (entry m i j + d) % p = let same : i ≡ j = omega arith in subst (λ q. entry c i q % p ≡ (entry m i q + d) % p) same e in
    let rest : row_product c i (suc j) f ≡ row_product m i (suc j) f = row_same m c i (suc j) f (λ q g g'. h q (omega arith) (omega arith) (omega arith)) in
    sum_congruent p (entry c i j * a) ((entry m i j + d) * a) (row_product c i (suc j) f) (row_product m i (suc j) f)
    (product_congruent p (entry c i j) (entry m i j + d) a a here refl) (ap (λ x. x % p) rest)
    ∙ ap (λ x. x % p) (regroup (entry m i j) (row_product m i (suc j) f))
  where
    regroup : (x y : ℕ) → (x + d) * a + y ≡ x * a + y + d * a
    regroup x y = omega arith
row_more p d m c i e j (suc k) (a ∷ f) s l h =
    sum_congruent p (entry c i j * a) (entry m i j * a) (row_product c i (suc j) f) (row_product m i (suc j) f + d * get_or f k 0)
    (ap (λ x. x * a % p) (h j (omega arith) (omega arith) (omega arith)))
    (row_more p d m c i e (suc j) k f (omega arith) (omega arith) (λ q g g'. h q (omega arith) (omega arith)))
    ∙ ap (λ x. x % p) (sym (add_assoc (entry m i j * a) (row_product m i (suc j) f) (d * get_or f k 0)))

module _ {p n : ℕ} {t s m c : List ℕ} (prime : Prime p) (wt : Words p n t) (ws : Words p n s) (powers : Powers p n t s m) (z : ℕ) (below : z < p) (shifted : Shifted p n z m c)
  where
    abbrev big : 2 ≤ p
    big = prime.0

    -- word i of f(S) − z·f
    pub shifted_word : {f : List ℕ} → Words p n f → (i : ℕ) → i < n → row_product c i 0 f % p ≡ (get_or (substitute p t s f) i 0 + (p - z) * get_or f i 0) % p
    shifted_word {f} wf i l =
        row_more p (p - z) m c i (ap (λ x. x % p) (shifted.diagonal i l) ∙ mod-mod (entry m i i + (p - z)) p) 0 i f (zero-add i) (omega (arith, words_length wf))
        (λ k _ g other. shifted.others i k l (omega (arith, words_length wf)) other)
        ∙ sym (mod-add-mod (row_product m i 0 f) p ((p - z) * get_or f i 0))
        ∙ ap (λ y. (y + (p - z) * get_or f i 0) % p) (row_substitutes big wt ws powers wf i l)

    pub shifted_square : Square p n c
    shifted_square = record { size = shifted.size; below = λ i j li lj. by_place i j li lj (ℕ_discrete j i) }
      where
        by_place : (i j : ℕ) → i < n → j < n → Dec (j ≡ i) → entry c i j < p
        by_place i j li lj (yes e) = rw (e, shifted.diagonal i li) (mod-lt (entry m i i + (p - z)) (omega arith))
        by_place i j li lj (no other) = rw (shifted.others i j li lj other) ((powers_square big wt ws powers).below i j li lj)

-- p − z stands for −z
pub complement : (p z x : ℕ) → z ≤ p → (p - z) * x + z * x ≡ p * x
complement p z x l = let e : p - z + z ≡ p = omega arith in sym (add-mul (p - z) z x) ∙ ap (λ y. y * x) e

-- the right side of a homogeneous system
pub zero_holds : (p n : ℕ) → Prime p → n ≤ 16 → Holds p n (replicate 16 0)
zero_holds p n prime short = holds_is (padded_zeros n short) (zeros_words n (omega arith))
