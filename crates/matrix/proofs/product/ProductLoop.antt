-- The loop that multiplies the matrix with u.
--   product_word p m u i   word i of the product with u
use mathlib.Core.Path.{◌≡◌, refl, ap, ◌∙◌}
use mathlib.Core.List.{List}
use Prim.Native.Nat.{ℕ, ◌+◌, ◌%◌, ◌≤◌}
use native.Mathlib.Omega.{arith}
use lib.ListN.{set, replicate}
use Rattle.array.specs.Array.{padded, row_product}
use Rattle.matrix.specs.Matrix.{matrix_product}
use Rattle.array.proofs.Painted.{painted}
use Rattle.array.proofs.Painted.{painted_turn}
use Rattle.array.proofs.Ranges.{painted_done}

unfoldable pub product_word : ℕ → List ℕ → List ℕ → ℕ → ℕ
product_word p m u i = row_product m i 0 u % p

-- a row's product by q, which is p
pub apply_turn : (p q i r : ℕ) (m u w w' : List ℕ) → q ≡ p → r ≡ row_product m i 0 u % q → w' ≡ painted w (product_word p m u) i
    → set w' i r ≡ painted w (product_word p m u) (i + 1)
unfolding product_word
apply_turn p q i r m u w w' h f e = painted_turn (product_word p m u) i r w w' (f ∙ ap (λ k. row_product m i 0 u % k) h) e

pub products_turn : (p i r : ℕ) (m u w w' : List ℕ) → r ≡ row_product m i 0 u % p → w' ≡ painted w (product_word p m u) i
    → set w' i r ≡ painted w (product_word p m u) (i + 1)
products_turn p i r m u w w' f e = apply_turn p p i r m u w w' refl f e

pub products_done : (p n k i : ℕ) (m u w : List ℕ) → n ≤ k → k ≤ 16 → i ≤ n → n ≤ i → w ≡ painted (replicate 16 0) (product_word p m u) i
    → w ≡ padded (matrix_product p n m u)
unfolding matrix_product product_word
products_done p n k i m u w few short l l' e = painted_done (product_word p m u) n i w (omega arith) l l' e
