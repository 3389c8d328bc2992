-- The models of some sizes (document 02, S-12), computed.
use Rattle.std.specs.Prelude.{◌≡◌, List, [], ◌∷◌, ℕ, length}
use Rattle.catalogue.specs.Catalogue.{count_number, model_count, list_number, list_output}

pub record CatalogueExamples : Type 0 where
  -- X^3 + X + 1 comes before X^3 + X^2 + 1
  pub two_three : (out : List ℕ) → length out ≡ 6 → list_output 2 3 out ≡ 1 ∷ 1 ∷ 0 ∷ 1 ∷ 0 ∷ 1 ∷ []
  -- X^2 + 1, X^2 + X + 2 and X^2 + 2·X + 2: the moduli of example A are among them
  pub three_two : (out : List ℕ) → length out ≡ 6 → list_output 3 2 out ≡ 1 ∷ 0 ∷ 2 ∷ 1 ∷ 2 ∷ 2 ∷ []
  -- of degree 1 all are listed: X, X + 1, X + 2
  pub three_one : (out : List ℕ) → length out ≡ 3 → list_output 3 1 out ≡ 0 ∷ 1 ∷ 2 ∷ []
  pub counted : model_count 2 4 ≡ 3
  -- 65,536 itself is taken; 1 comes before 2, 2 before 29, and 29 before 3
  pub most_taken : count_number 2 16 ≡ 0
  pub next_prime : count_number 65537 1 ≡ 29
  pub prime_first : count_number 4 17 ≡ 1
  pub degree_next : count_number 257 17 ≡ 2
  pub size_next : list_number 3 11 [] ≡ 29
  pub length_last : list_number 3 1 [] ≡ 3
