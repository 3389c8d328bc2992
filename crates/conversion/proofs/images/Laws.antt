-- The words of the arrays by which a table is converted.
use mathlib.Core.Path.{◌≡◌, refl}
use mathlib.Core.Bool.{true}
use mathlib.Core.List.{List, [], ◌∷◌}
use Prim.Native.Nat.{ℕ}
use lib.ListN.{length, take}
use Rattle.array.specs.Words.{Words}
use Rattle.refusal.specs.Models.{Models}
use Rattle.refusal.specs.Refusal.{largest_degree}
use Rattle.held.specs.Held.{valid, t1_of, t2_of, s_of, r_of}
use Rattle.held.specs.declared.Held.{Held}
use Rattle.held.proofs.Valid.{front_models}
use Rattle.ledger.specs.declared.Direction.{Direction}
use Rattle.ledger.specs.declared.Direction.TheVariants.{Forward, Back}
use Rattle.table.specs.Table.{converted}
use Rattle.conversion.specs.Conversion.{images_in}

-- the first n words of two arrays
module _ (p n : ℕ) (xs ys : List ℕ) (l1 : length xs ≡ largest_degree) (l2 : length ys ≡ largest_degree) (h : valid p n (take n xs ∷ take n ys ∷ []) ≡ true) where
  fronts : Models p n (take n xs) (take n ys)
  fronts = front_models p n xs ys l1 l2 h (take n xs) (take n ys) refl refl

  pub modulus_words : (t : List ℕ) → t ≡ take n xs → Words p n t
  modulus_words t e = rw e fronts.modulus1

  pub image_words : (s : List ℕ) → s ≡ take n ys → Words p n s
  image_words s e = rw e fronts.modulus2

pub converts_fronts : (p n : ℕ) (t s t' s' table out : List ℕ) → t' ≡ t → s' ≡ s → out ≡ converted p n t' s' table → out ≡ converted p n t s table
converts_fronts p n t s t' s' table out e f g = rw (e, f) at g

-- by the direction
module _ (d : Direction) (h : Held) (table after : List ℕ) where
  pub forward_images : d ≡ Forward → after ≡ converted h.p h.n (t2_of h) (s_of h) table → after ≡ images_in d h table
  unfolding images_in
  forward_images e f = rw e f

  pub back_images : d ≡ Back → after ≡ converted h.p h.n (t1_of h) (r_of h) table → after ≡ images_in d h table
  unfolding images_in
  back_images e f = rw e f
