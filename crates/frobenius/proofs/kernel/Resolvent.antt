-- A vector that passes the test lies in the kernel of u ↦ u^p − z·u: the matrix is that of u ↦ u^p.
use mathlib.Core.Path.{◌≡◌, sym, ap, ◌∙◌}
use mathlib.Core.Bool.{Bool, true}
use mathlib.Core.List.{List}
use Prim.Native.Nat.{ℕ, ◌%◌}
use lib.ListN.{length, take, length-map}
use Rattle.algebra.specs.Lists.{equal, range}
use Rattle.algebra.specs.Prime.{Prime}
use Rattle.algebra.proofs.Equality.{of_equal}
use Rattle.algebra.proofs.Search.{range_length}
use Rattle.array.specs.Array.{padded, Holds, row_product}
use Rattle.array.proofs.Padded.{front_is, take-padded}
use Rattle.quotient.specs.Residue.{scale}
use Rattle.quotient.proofs.Operations.{scale_words}
use Rattle.matrix.specs.Matrix.{matrix_product, Frobenius}
use Rattle.matrix.proofs.FrobeniusMatrix.{frobenius_applies}
use Rattle.galois.specs.Eigenvector.{first_non_zero}
use Rattle.galois.proofs.FirstNonZero.{first_non_zero-constant-zero}
use Rattle.frobenius.specs.Kernel.{Stretched, Kernel}

product_length : (p n : ℕ) (m u : List ℕ) → length (matrix_product p n m u) ≡ n
unfolding matrix_product
product_length p n m u = length-map (range 0 n) (λ i. row_product m i 0 u % p) ∙ range_length 0 n

module _ (p n z : ℕ) (m v : List ℕ) (hv : Holds p n v) where
  pub test_passed : (w s : List ℕ) → w ≡ padded (matrix_product p n m (take n v)) → s ≡ padded (scale p z (take n v)) → (f : ℕ) → f ≡ first_non_zero (take n v) → (f ≡ 0 → ⊥)
      → (r : Bool) → r ≡ equal (take n w) (take n s) → r ≡ true → Stretched p n z m (take n v)
  test_passed w s ew es f ef other r er e =
      record {
        not_zero = λ o. other (ef ∙ ap first_non_zero o ∙ first_non_zero-constant-zero n);
        product_is =
            sym (ap (take n) ew ∙ take-padded n (matrix_product p n m (take n v)) (product_length p n m (take n v)))
            ∙ of_equal (take n w) (take n s) (sym er ∙ e) ∙ front_is es (scale_words z hv.words);
      }

pub stretched_kernel : (p n z : ℕ) (t m v : List ℕ) → Prime p → Holds p n t → Frobenius p n (take n t) m → Holds p n v
    → Stretched p n z m (take n v) → Kernel p n (take n t) z v
stretched_kernel p n z t m v prime ht frobenius hv h =
    record { holds = hv; not_zero = h.not_zero; power_is = sym (frobenius_applies prime ht.words frobenius hv.words) ∙ h.product_is }
