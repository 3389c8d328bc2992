-- What is proved of the models of a size (request S-12: "ascending, none missing or repeated. The count is the number listed").
--   EveryModel      for every p ≥ 2 and every n: the models are in ascending order, so that none stands there twice, and a list stands there exactly when it is n words below p whose
--                   monic polynomial has no monic divisor of degree 1 to n − 1
--   CountIsListed   where the first call does not refuse: it counts the models; the second call takes a list of n times that many words and of no other length, and writes the
--                   models into it, model k as the n words from word k·n on
use Rattle.std.specs.Prelude.{◌≡◌, List, [], ◌↔◌, ℕ, ◌*◌, ◌≤◌, ◌<◌, length, get_or, take, drop}
use Rattle.algebra.specs.Lists.{Member}
use Rattle.array.specs.Ascending.{Ascending}
use Rattle.array.specs.Words.{Words}
use Rattle.quotient.specs.Divisor.{HasDivisor}
use Rattle.catalogue.specs.Catalogue.{models, count_number, model_count, list_number, list_output}

abbrev pub EveryModel : Type 0
EveryModel =
    (p n : ℕ) → 2 ≤ p
    → Ascending (models p n) × ((t : List ℕ) → Member t (models p n) ↔ (Words p n t × (HasDivisor p t → ⊥)))

pub record Listed (p n : ℕ) (out : List ℕ) : Type 0 where
  pub count : model_count p n ≡ length (models p n)
  pub accepted : (list_number p n out ≡ 0) ↔ (length out ≡ n * model_count p n)
  pub written : list_number p n out ≡ 0 → (k : ℕ) → k < model_count p n → take n (drop (k * n) (list_output p n out)) ≡ get_or (models p n) k []

abbrev pub CountIsListed : Type 0
CountIsListed = (p n : ℕ) (out : List ℕ) → count_number p n ≡ 0 → Listed p n out
