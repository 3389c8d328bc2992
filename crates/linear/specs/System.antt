-- Systems of n linear equations in n unknowns modulo p, n ≤ 16 (document 01: "held as one flat array of 256 words"): M·v = b.
--   Solves p n m b v     M·v = b modulo p: in every row i < n the product with v is word i of b
--   Regular p n m b v    v is the only solution of M·v = b, and 0 the only one of M·v = 0
--   Singular p n m v     v is not 0, and M·v = 0
--   Outcome p n m b r v  the answer to a system: regular (r true) or singular (r false), with the vector v
--   SolutionOf p n m b s the same of the enum that `solve` returns
use Rattle.std.specs.Prelude.{◌≡◌, Bool, true, false, List, [], ℕ, ◌%◌, ◌<◌, get_or, take, replicate}
use Rattle.array.specs.Array.{Holds, row_product}
use Rattle.array.specs.Words.{Words}
use Rattle.linear.specs.declared.system.Solution.{Solution}
use Rattle.linear.specs.declared.system.Solution.TheVariants.{Unique, NullVector}

abbrev pub Solves : ℕ → ℕ → List ℕ → List ℕ → List ℕ → Type 0
Solves p n m b v = (i : ℕ) → i < n → row_product m i 0 v % p ≡ get_or b i 0 % p

pub record Regular (p n : ℕ) (m b v : List ℕ) : Type 0 where
  pub solves : Solves p n m b v
  pub only : (w : List ℕ) → Words p n w → Solves p n m b w → w ≡ v
  pub trivial : (w : List ℕ) → Words p n w → Solves p n m [] w → w ≡ replicate n 0

pub record Singular (p n : ℕ) (m v : List ℕ) : Type 0 where
  pub nonzero : v ≡ replicate n 0 → ⊥
  pub solves : Solves p n m [] v

pub record Outcome (p n : ℕ) (m b : List ℕ) (regular : Bool) (vector : List ℕ) : Type 0 where
  pub holds : Holds p n vector
  pub if_regular : regular ≡ true → Regular p n m b (take n vector)
  pub if_singular : regular ≡ false → Singular p n m (take n vector)

abbrev pub SolutionOf : ℕ → ℕ → List ℕ → List ℕ → Solution → Type 0
SolutionOf p n m b (Unique v) = Outcome p n m b true v
SolutionOf p n m b (NullVector v) = Outcome p n m b false v
