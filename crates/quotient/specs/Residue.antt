-- Residues modulo a monic polynomial (document 01, "Models and residues").
-- A modulus T = X^n + t(n−1)X^(n−1) + … + t0 is given by the list t of its n lower words, constant first. A residue is n words,
-- each below p, in the same order: a polynomial of degree below n, taken modulo p and T.
--   Residue p n           the residues
--   residues p n          the list of all of them, in ascending order: coefficients compared from the highest power down (Ascending.antt of the crate array)
--   first_residue p t b   the first residue modulo T that passes the test b; 0 where none does
--   sum p u v             u + v, coefficient by coefficient; also of polynomials of different degrees
--   scale p c u           c·u
--   constant n c          the constant c
--   times_x p t u         X·u modulo T: u shifted up by one place, minus its top coefficient times t
--   product p t u v       u·v modulo T, by Horner's rule in u
--   power p t u k         u^k modulo T
--   conjugate p t u k     u^(p^k) modulo T
--   residue_of_x p t      X modulo T; for n = 1 the constant −t0
--   substitute p t s u    u(S) modulo T, by Horner's rule
--   modulus_at p t s m    M(S) modulo T, where M is the monic polynomial with the lower words m
--   HasInverse p t u      u·v = 1 modulo T for some residue v
--   Inverses p n t        every residue modulo T but 0 has an inverse
use Rattle.std.specs.Prelude.{◌≡◌, Bool, List, [], ◌∷◌, ◌++◌, map, ℕ, zero, suc, ◌+◌, ◌-◌, ◌*◌, ◌%◌, ◌^◌, length, replicate}
use Rattle.algebra.specs.Lists.{range, first}
use Rattle.array.specs.Words.{Words}

abbrev pub Residue : ℕ → ℕ → Type 0
Residue p n = (u : List ℕ) × Words p n u

-- each list of `us` behind each of the words, one list of `us` after the other
unfoldable pub prefixed : List ℕ → List (List ℕ) → List (List ℕ)
prefixed words [] = []
prefixed words (u ∷ us) = map (λ a. a ∷ u) words ++ prefixed words us

unfoldable pub residues : ℕ → ℕ → List (List ℕ)
residues p zero = [] ∷ []
residues p (suc n) = prefixed (range 0 p) (residues p n)

unfoldable pub sum : ℕ → List ℕ → List ℕ → List ℕ
sum p [] v = v
sum p (a ∷ u) [] = a ∷ u
sum p (a ∷ u) (b ∷ v) = (a + b) % p ∷ sum p u v

unfoldable pub scale : ℕ → ℕ → List ℕ → List ℕ
scale p c [] = []
scale p c (a ∷ u) = (c * a) % p ∷ scale p c u

unfoldable pub constant : ℕ → ℕ → List ℕ
constant zero c = []
constant (suc n) c = c ∷ replicate n 0

unfoldable pub first_residue : ℕ → List ℕ → (List ℕ → Bool) → List ℕ
first_residue p t test = first test (constant (length t) 0) (residues p (length t))

-- the words of u one place higher, behind c; the top word falls out
unfoldable pub shift : ℕ → List ℕ → List ℕ
shift c [] = []
shift c (a ∷ u) = c ∷ shift a u

-- the word that falls out: the last of u, c where u is empty
unfoldable pub top : ℕ → List ℕ → ℕ
top c [] = c
top c (a ∷ u) = top a u

unfoldable pub times_x : ℕ → List ℕ → List ℕ → List ℕ
times_x p t u = sum p (shift 0 u) (scale p (p - top 0 u) t)

unfoldable pub product : ℕ → List ℕ → List ℕ → List ℕ → List ℕ
product p t [] v = constant (length t) 0
product p t (c ∷ u) v = sum p (scale p c v) (times_x p t (product p t u v))

unfoldable pub power : ℕ → List ℕ → List ℕ → ℕ → List ℕ
power p t u zero = constant (length t) 1
power p t u (suc k) = product p t u (power p t u k)

unfoldable pub conjugate : ℕ → List ℕ → List ℕ → ℕ → List ℕ
conjugate p t u k = power p t u (p ^ k)

unfoldable pub residue_of_x : ℕ → List ℕ → List ℕ
residue_of_x p t = times_x p t (constant (length t) 1)

unfoldable pub substitute : ℕ → List ℕ → List ℕ → List ℕ → List ℕ
substitute p t s [] = constant (length t) 0
substitute p t s (c ∷ u) = sum p (constant (length t) c) (product p t s (substitute p t s u))

unfoldable pub modulus_at : ℕ → List ℕ → List ℕ → List ℕ → List ℕ
modulus_at p t s m = sum p (power p t s (length m)) (substitute p t s m)

abbrev pub HasInverse : ℕ → List ℕ → List ℕ → Type 0
HasInverse p t u = (v : List ℕ) × Words p (length t) v × (product p t u v ≡ constant (length t) 1)

abbrev pub Inverses : ℕ → ℕ → List ℕ → Type 0
Inverses p n t = (u : List ℕ) → Words p n u → (u ≡ constant n 0 → ⊥) → HasInverse p t u
