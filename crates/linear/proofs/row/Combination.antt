-- Row operations and solutions. A row that is a combination of two rows of a system says nothing new: each solution of the system satisfies it.
--   Combination p n m b m' b' i   row i of M'·v = b' is a·(row x) + f·(row y) of M·v = b, modulo p
--   solutions_carry               if every row is such a combination, each solution of M·v = t·b solves M'·v = t·b'
--   SameButRow n x m b m' b'      the two systems agree in every row but row x
--   equivalent_by_row             if row x of each is a combination of rows of the other, the two are equivalent
use mathlib.Core.Path.{◌≡◌, refl, sym, ap, subst, ◌∙◌}
use mathlib.Core.List.{List, [], ◌∷◌}
use Prim.Native.Nat.{ℕ, suc, ◌+◌, ◌*◌, ◌%◌, ◌≤◌, ◌<◌}
use native.Mathlib.Decide.{ℕ_discrete}
use native.Mathlib.Omega.{arith}
use lib.ListN.{length, get_or}
use Rattle.linear.proofs.Congruence.{sum_congruent, product_congruent}
use Rattle.array.specs.Array.{entry, row_product}
use Rattle.linear.specs.Elimination.{SolvesTimes, Equivalent}

-- One column more: (a·e + f·g)·w joins a·r + f·s.
combine_column : (p a f e g w r s d q : ℕ) → d % p ≡ (a * e + f * g) % p → q % p ≡ (a * r + f * s) % p
    → (d * w + q) % p ≡ (a * (e * w + r) + f * (g * w + s)) % p
combine_column p a f e g w r s d q h k =
    let end : (a * e + f * g) * w + (a * r + f * s) ≡ a * (e * w + r) + f * (g * w + s) = omega arith in
    sum_congruent p (d * w) ((a * e + f * g) * w) q (a * r + f * s) (product_congruent p d (a * e + f * g) w w h refl) k ∙ ap (λ z. z % p) end

combine_rows : (p : ℕ) (m m' : List ℕ) (i x y a f : ℕ) (v : List ℕ) (j : ℕ)
    → ((k : ℕ) → j ≤ k → k < j + length v → entry m' i k % p ≡ (a * entry m x k + f * entry m y k) % p)
    → row_product m' i j v % p ≡ (a * row_product m x j v + f * row_product m y j v) % p
unfolding row_product
combine_rows p m m' i x y a f [] j h = ap (λ z. z % p) (omega arith)
combine_rows p m m' i x y a f (w ∷ v) j h =
    combine_column p a f (entry m x j) (entry m y j) w (row_product m x (suc j) v) (row_product m y (suc j) v) (entry m' i j) (row_product m' i (suc j) v)
    (h j (omega arith) (omega arith))
    (combine_rows p m m' i x y a f v (suc j) (λ k l g. h k (omega arith) (omega arith)))

pub record Combination (p n : ℕ) (m b m' b' : List ℕ) (i : ℕ) : Type 0 where
  pub x : ℕ
  pub y : ℕ
  pub a : ℕ
  pub f : ℕ
  pub x_row : x < n
  pub y_row : y < n
  pub entries : (j : ℕ) → j < n → entry m' i j % p ≡ (a * entry m x j + f * entry m y j) % p
  pub right : get_or b' i 0 % p ≡ (a * get_or b x 0 + f * get_or b y 0) % p

carry_row : (p t a f r s d e g q : ℕ) → q % p ≡ (a * r + f * s) % p → r % p ≡ (t * e) % p → s % p ≡ (t * g) % p
    → d % p ≡ (a * e + f * g) % p → q % p ≡ (t * d) % p
carry_row p t a f r s d e g q hq hr hs hd =
    let end : a * (t * e) + f * (t * g) ≡ t * (a * e + f * g) = omega arith in
    hq
    ∙ sum_congruent p (a * r) (a * (t * e)) (f * s) (f * (t * g)) (product_congruent p a a r (t * e) refl hr) (product_congruent p f f s (t * g) refl hs)
    ∙ ap (λ z. z % p) end ∙ product_congruent p t t (a * e + f * g) d refl (sym hd)

pub solutions_carry : (p n : ℕ) (m b m' b' : List ℕ) → ((i : ℕ) → i < n → Combination p n m b m' b' i)
    → (t : ℕ) (v : List ℕ) → length v ≡ n → SolvesTimes p n m t b v → SolvesTimes p n m' t b' v
solutions_carry p n m b m' b' rows t v l h i k =
    let r = rows i k in
    carry_row p t r.a r.f (row_product m r.x 0 v) (row_product m r.y 0 v) (get_or b' i 0) (get_or b r.x 0) (get_or b r.y 0) (row_product m' i 0 v)
    (combine_rows p m m' i r.x r.y r.a r.f v 0 (λ j _ g. r.entries j (omega arith)))
    (h r.x r.x_row) (h r.y r.y_row) r.right

pub record SameButRow (n x : ℕ) (m b m' b' : List ℕ) : Type 0 where
  pub entries : (i j : ℕ) → i < n → j < n → (i ≡ x → ⊥) → entry m' i j ≡ entry m i j
  pub right : (i : ℕ) → i < n → (i ≡ x → ⊥) → get_or b' i 0 ≡ get_or b i 0

-- Row i of M' by the combination for row x where i = x, and by row i of M elsewhere.
row_by_row : (p n x : ℕ) (m b m' b' : List ℕ) → SameButRow n x m b m' b' → Combination p n m b m' b' x
    → (i : ℕ) → i < n → Combination p n m b m' b' i
row_by_row p n x m b m' b' same r i h = go (ℕ_discrete i x)
  where
    go : Dec (i ≡ x) → Combination p n m b m' b' i
    go (yes e) = subst (λ z. Combination p n m b m' b' z) (sym e) r
    go (no d) =
        record {
          x = i;
          y = i;
          a = 1;
          f = 0;
          x_row = h;
          y_row = h;
          entries = λ j g. ap (λ z. z % p) (same.entries i j h g d ∙ omega arith);
          right = ap (λ z. z % p) (same.right i h d ∙ omega arith);
        }

pub equivalent_by_row : (p n x : ℕ) (m b m' b' : List ℕ) → SameButRow n x m b m' b' → Combination p n m b m' b' x → Combination p n m' b' m b x
    → Equivalent p n m b m' b'
equivalent_by_row p n x m b m' b' same there here =
    record {
      forth = solutions_carry p n m b m' b' (row_by_row p n x m b m' b' same there);
      back = solutions_carry p n m' b' m b (row_by_row p n x m' b' m b other here);
    }
  where
    other : SameButRow n x m' b' m b
    other = record { entries = λ i j h g d. sym (same.entries i j h g d); right = λ i h d. sym (same.right i h d) }
