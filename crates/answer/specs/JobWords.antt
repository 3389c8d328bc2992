-- What the contracts on a job cite.
--   JobWords p n before after number   number is what comes after 4 for T1 and T2, with which the words before begin; where it is 0, the words after
--                                      begin with T1, T2 and the finder's pair
use Rattle.std.specs.Prelude.{◌≡◌, List, ℕ, ◌*◌, take}
use Rattle.finder.specs.Finder.{refuse_find}
use Rattle.answer.specs.Answer.{part, pair_words}

pub record JobWords (p n : ℕ) (before after : List ℕ) (number : ℕ) : Type 0 where
  pub number_is : number ≡ refuse_find p n (part n before 0) (part n before 1)
  pub words_are : number ≡ 0 → take (4 * n) after ≡ pair_words p n (part n before 0) (part n before 1)
