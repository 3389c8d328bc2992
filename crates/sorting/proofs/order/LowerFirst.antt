-- The exchange: the lower of the list that is carried and the row is the new row, the other is carried on.
use mathlib.Core.Path.{◌≡◌, sym, ap, ◌∙◌}
use mathlib.Core.Bool.{Bool, true, false}
use mathlib.Core.List.{List}
use Prim.Native.Nat.{ℕ, ◌≤◌}
use native.Mathlib.Omega.{arith}
use lib.ListN.{length, take}
use Rattle.array.specs.Array.{padded, Holds}
use Rattle.array.specs.Ascending.{lower}
use Rattle.array.specs.Words.{word_bound}
use Rattle.array.proofs.Padded.{array_length, padded-length, take-padded}
use Rattle.sorting.specs.Sorting.{earlier, later}
use Rattle.sorting.proofs.Insertion.{earlier-lower, later-lower, earlier_other, later_other}

module _ (n : ℕ) (u row : List ℕ) (short : n ≤ 16) (hu : Holds word_bound n u) (size : length row ≡ n) where
  pub row_short : length row ≤ 16
  row_short = omega arith

  pub carried_length : length u ≡ 16
  carried_length = array_length n u short hu.zeros

  pub carried_holds : Holds word_bound (length row) u
  carried_holds = rw size hu

  module _ (v : List ℕ) (e : v ≡ padded row) where
    pub loaded_length : length v ≡ 16
    loaded_length = ap length e ∙ padded-length row row_short

    module _ (b : Bool) (f : b ≡ lower (take n u) (take n v)) where
      test : b ≡ lower (take n u) row
      test = f ∙ ap (lower (take n u)) (ap (take n) e ∙ take-padded n row size)

      pub row_taken : b ≡ true → (row' : List ℕ) → row' ≡ take (length row) u → row' ≡ earlier (take n u) row
      row_taken h row' g = g ∙ ap (λ k. take k u) size ∙ sym (earlier-lower (take n u) row (sym test ∙ h))

      pub row_carried : b ≡ true → v ≡ padded (later (take n u) row)
      row_carried h = e ∙ ap padded (sym (later-lower (take n u) row (sym test ∙ h)))

      pub row_stays : b ≡ false → row ≡ earlier (take n u) row
      row_stays h = sym (earlier_other (take n u) row (sym test ∙ h))

      pub carried_stays : b ≡ false → u ≡ padded (later (take n u) row)
      carried_stays h = hu.zeros ∙ ap padded (sym (later_other (take n u) row (sym test ∙ h)))
