-- Polynomials modulo p and their divisors (document 01: "A divisor of T is a polynomial D with D·E = T modulo p for some polynomial E").
-- A polynomial is a list of coefficients, constant first.
--   Same p f g                f = g modulo p, coefficient by coefficient
--   polynomial_product p f g  f·g
--   monic t                   the monic polynomial with the lower words t
--   Divides p d t             the monic polynomial of d divides that of t
--   HasDivisor p t            T, of degree n, has a monic divisor of degree 1 to n − 1
--   Remainder p t f r         r is the remainder of f on division by the monic polynomial of t
use Rattle.std.specs.Prelude.{◌≡◌, List, [], ◌∷◌, ◌++◌, ℕ, ◌%◌, ◌<◌, length, get_or}
use Rattle.array.specs.Words.{Words}
use Rattle.quotient.specs.Residue.{sum, scale}

abbrev pub Same : ℕ → List ℕ → List ℕ → Type 0
Same p f g = (i : ℕ) → get_or f i 0 % p ≡ get_or g i 0 % p

unfoldable pub polynomial_product : ℕ → List ℕ → List ℕ → List ℕ
polynomial_product p [] g = []
polynomial_product p (c ∷ f) g = sum p (scale p c g) (0 ∷ polynomial_product p f g)

unfoldable pub monic : List ℕ → List ℕ
monic t = t ++ 1 ∷ []

abbrev pub Divides : ℕ → List ℕ → List ℕ → Type 0
Divides p d t = (e : List ℕ) × Same p (polynomial_product p (monic d) e) (monic t)

abbrev pub HasDivisor : ℕ → List ℕ → Type 0
HasDivisor p t = (m : ℕ) × (0 < m) × (m < length t) × (d : List ℕ) × Words p m d × Divides p d t

abbrev pub Remainder : ℕ → List ℕ → List ℕ → List ℕ → Type 0
Remainder p t f r = (q : List ℕ) × Words p (length t) r × Same p (sum p (polynomial_product p (monic t) q) r) f
