-- The models of the catalogue and the other calls (request S-12): the finder refuses none of them with 6 or 7.
--   ListedIsIrreducible   for a size that the catalogue takes, a list is listed exactly when the call for one modulus gives 0
--   FinderTakesListed     a listed model is never refused by the finder with 6 as T1, nor with 7 as T2, whatever the other lists are; and of two listed models it returns a pair
--                         where n divides p − 1 or is p^k with k ≥ 1
use Rattle.std.specs.Prelude.{◌≡◌, List, ◌↔◌, ℕ, length}
use Rattle.algebra.specs.Lists.{Member}
use Rattle.catalogue.specs.Catalogue.{models, count_number}
use Rattle.finder.specs.Finder.{Findable, find_number}
use Rattle.irreducible.specs.Irreducible.{irreducible_number}

abbrev pub ListedIsIrreducible : Type 0
ListedIsIrreducible = (p n : ℕ) (t : List ℕ) → count_number p n ≡ 0 → Member t (models p n) ↔ (irreducible_number p n t ≡ 0)

pub record Taken (p n : ℕ) (t : List ℕ) : Type 0 where
  pub first : (t2 lent_s lent_r : List ℕ) → find_number p n t t2 lent_s lent_r ≡ 6 → ⊥
  pub second : (t1 lent_s lent_r : List ℕ) → find_number p n t1 t lent_s lent_r ≡ 7 → ⊥
  pub both : (t2 lent_s lent_r : List ℕ) → count_number p n ≡ 0 → Member t2 (models p n) → length lent_s ≡ n → length lent_r ≡ n → Findable p n
      → find_number p n t t2 lent_s lent_r ≡ 0

abbrev pub FinderTakesListed : Type 0
FinderTakesListed = (p n : ℕ) (t : List ℕ) → Member t (models p n) → Taken p n t
