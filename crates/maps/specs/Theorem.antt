-- What is proved of the maps (request S-5: "A list left out or repeated is a fault, for any n").
--   EveryMap p n t1 t2   the maps are n, in ascending order, so that none stands there twice; each of them is the S of an accepted pair, and no accepted pair has
--                        another S
--   MapsTheorem          that is so for every accepted pair, whatever p, n and the lists are
--   MapsAreConjugates    they are the conjugates of its S: S, S^p, S^(p²), …, S^(p^(n−1)) modulo T2
use Rattle.std.specs.Prelude.{◌≡◌, List, ◌↔◌, ℕ, ◌<◌, length}
use Rattle.algebra.specs.Lists.{Member}
use Rattle.array.specs.Ascending.{Ascending}
use Rattle.pair.specs.Pair.{check_number}
use Rattle.quotient.specs.Residue.{conjugate}
use Rattle.maps.specs.Maps.{maps}

pub record EveryMap (p n : ℕ) (t1 t2 : List ℕ) : Type 0 where
  pub count : length (maps p t1 t2) ≡ n
  pub ascending : Ascending (maps p t1 t2)
  pub accepted : (s' : List ℕ) → Member s' (maps p t1 t2) → (r' : List ℕ) × (check_number p n t1 t2 s' r' ≡ 0)
  pub no_other : (s' r' : List ℕ) → check_number p n t1 t2 s' r' ≡ 0 → Member s' (maps p t1 t2)

abbrev pub MapsTheorem : Type 0
MapsTheorem = (p n : ℕ) (t1 t2 s r : List ℕ) → check_number p n t1 t2 s r ≡ 0 → EveryMap p n t1 t2

abbrev pub MapsAreConjugates : Type 0
MapsAreConjugates =
    (p n : ℕ) (t1 t2 s r s' : List ℕ) → check_number p n t1 t2 s r ≡ 0
    → Member s' (maps p t1 t2) ↔ ((k : ℕ) × (k < n) × (s' ≡ conjugate p t2 s k))
