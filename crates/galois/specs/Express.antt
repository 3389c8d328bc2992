-- Polynomials in a residue a modulo T: the powers of a as a basis.
--   express p t a         the polynomial P of degree below n with P(a) = X modulo T
--   Independent p n t s   f ↦ f(S) modulo T is injective on the polynomials of degree below n: the powers of S are independent
use Rattle.std.specs.Prelude.{◌≡◌, List, ℕ}
use Rattle.algebra.specs.Lists.{equal}
use Rattle.array.specs.Words.{Words}
use Rattle.quotient.specs.Residue.{first_residue, residue_of_x, substitute}

unfoldable pub express : ℕ → List ℕ → List ℕ → List ℕ
express p t a = first_residue p t (λ f. equal (substitute p t a f) (residue_of_x p t))

abbrev pub Independent : ℕ → ℕ → List ℕ → List ℕ → Type 0
Independent p n t s = (f g : List ℕ) → Words p n f → Words p n g → substitute p t s f ≡ substitute p t s g → f ≡ g
