-- That a list is words below p, and that an array holds such words, has at most one proof: for the types that carry these facts.
use Rattle.std.specs.Prelude.{◌≡◌, List, [], ◌∷◌, ℕ, suc, take}
use Rattle.std.specs.Coded.{le_prop, Coded-set, coded_list, coded_ℕ}
use mathlib.Core.Path.{refl, ap₂}
use Rattle.array.specs.Words.{Words, none, more}
use Rattle.array.specs.Array.{padded, Holds}

pub Words-prop : (p n : ℕ) (xs : List ℕ) → IsProp (Words p n xs)
Words-prop p n xs none none = refl
Words-prop p n xs (more h u) (more k v) = ap₂ more (le_prop h k) (Words-prop _ _ _ u v)

pub Holds-prop : (p n : ℕ) (xs : List ℕ) → IsProp (Holds p n xs)
Holds-prop p n xs h k =
    ap₂ (λ w z. record { words = w; zeros = z }) (Words-prop p n (take n xs) h.words k.words) (Coded-set (coded_list coded_ℕ) xs (padded (take n xs)) h.zeros k.zeros)
