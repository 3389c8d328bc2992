-- Round the triangle (document 02, S-6 and S-7): for every three models A, B and C of the same p and n without proper divisors, where n divides p − 1 or is a power of p, the found map
-- A to B followed by the found map B to C is the found map A to C. Each found map takes α of its source to α of its target, and a map is determined by that.
--   Triangle p n a b c   on every residue, forward from A and back from C; as an equation of polynomials, S_AC = S_AB(S_BC) modulo C and R_AC = R_BC(R_AB) modulo A;
--                        and with A and B exchanged the found pair is exchanged
use Rattle.std.specs.Prelude.{◌≡◌, List, ℕ}
use Rattle.array.specs.Words.{Words}
use Rattle.refusal.specs.Models.{Model}
use Rattle.quotient.specs.Divisor.{HasDivisor}
use Rattle.quotient.specs.Residue.{substitute}
use Rattle.finder.specs.Finder.{Findable, find_s, find_r}

pub record Triangle (p n : ℕ) (a b c : List ℕ) : Type 0 where
  pub forward : (u : List ℕ) → Words p n u → substitute p c (find_s p n b c) (substitute p b (find_s p n a b) u) ≡ substitute p c (find_s p n a c) u
  pub back : (u : List ℕ) → Words p n u → substitute p a (find_r p n a b) (substitute p b (find_r p n b c) u) ≡ substitute p a (find_r p n a c) u
  pub forward_polynomial : find_s p n a c ≡ substitute p c (find_s p n b c) (find_s p n a b)
  pub back_polynomial : find_r p n a c ≡ substitute p a (find_r p n a b) (find_r p n b c)
  pub exchanged : (find_s p n b a ≡ find_r p n a b) × (find_r p n b a ≡ find_s p n a b)

abbrev pub TriangleTheorem : Type 0
TriangleTheorem =
    (p n : ℕ) (a b c : List ℕ) → Model p n a → Model p n b → Model p n c → Findable p n → (HasDivisor p a → ⊥) → (HasDivisor p b → ⊥) → (HasDivisor p c → ⊥)
    → Triangle p n a b c
