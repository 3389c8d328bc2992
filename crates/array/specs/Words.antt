-- Lists of words (document 01: "passed as n 16-bit words t0 to t(n−1), constant first, each below p"; request S-9: "Words become 32 bits
-- wide").
--   Words p n u      u is n words, each below p
--   all_below p xs   the test that every word of xs is below p
--   word_bound       every word of a lent list is below this: 2^32
use Rattle.std.specs.Prelude.{Bool, List, [], ◌∷◌, ℕ, suc, ◌^◌, ◌<◌, ltb}
use Rattle.algebra.specs.Lists.{all}

pub data Words (p : ℕ) : ℕ → List ℕ → Type 0 where
  none : Words p 0 []
  more : {a n : ℕ} {u : List ℕ} → a < p → Words p n u → Words p (suc n) (a ∷ u)

unfoldable pub all_below : ℕ → List ℕ → Bool
all_below p xs = all (λ a. ltb a p) xs

abbrev pub word_bound : ℕ
word_bound = 2 ^ 32
