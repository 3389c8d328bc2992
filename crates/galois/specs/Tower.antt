-- Degrees that are powers of p (document 02, S-7): the values of Algorithm 4.1 of source document 000 in one model. Its Lemma 4.1 and Proposition 4.1 are printed with
-- other exponents; step 3 of the algorithm, a·α^(p − 1), is the one that is right.
--   PowerOf p n               n = p^k for some k ≥ 1
--   exponent p n              that k; 0 where there is none
--   artin_schreier p n t a    the solution of v^p = v + a modulo T with constant coefficient 0
--   ArtinSchreier p n t a v   the same as a statement
--   raised p t a α            a·α^(p − 1) modulo T
--   rounds p n t k            a and α after k rounds: both are 1 at the start; in a round a becomes a·α^(p − 1), and then α the solution of v^p = v + a
--   Rounds p n t k a α        the same as a statement
use Rattle.std.specs.Prelude.{◌≡◌, ◌&&◌, List, ℕ, zero, suc, ◌-◌, ◌^◌, ◌≤◌, eqb, get_or}
use Rattle.algebra.specs.Lists.{equal, first, range}
use Rattle.array.specs.Words.{Words}
use Rattle.quotient.specs.Residue.{residues, sum, constant, product, power}

abbrev pub PowerOf : ℕ → ℕ → Type 0
PowerOf p n = (k : ℕ) × (1 ≤ k) × (n ≡ p ^ k)

unfoldable pub exponent : ℕ → ℕ → ℕ
exponent p n = first (λ k. eqb n (p ^ k)) 0 (range 1 n)

unfoldable pub artin_schreier : ℕ → ℕ → List ℕ → List ℕ → List ℕ
artin_schreier p n t a = first (λ v. equal (power p t v p) (sum p v a) && eqb (get_or v 0 0) 0) (constant n 0) (residues p n)

pub record ArtinSchreier (p n : ℕ) (t a v : List ℕ) : Type 0 where
  pub words : Words p n v
  pub equation : power p t v p ≡ sum p v a
  pub constant-zero : get_or v 0 0 ≡ 0

unfoldable pub raised : ℕ → List ℕ → List ℕ → List ℕ → List ℕ
raised p t a α = product p t a (power p t α (p - 1))

unfoldable pub rounds : ℕ → ℕ → List ℕ → ℕ → List ℕ × List ℕ
rounds p n t zero = (constant n 1, constant n 1)
rounds p n t (suc k) =
    let (a, α) = rounds p n t k in
    (raised p t a α, artin_schreier p n t (raised p t a α))

abbrev pub Rounds : ℕ → ℕ → List ℕ → ℕ → List ℕ → List ℕ → Type 0
Rounds p n t zero a α = (a ≡ constant n 1) × (α ≡ constant n 1)
Rounds p n t (suc k) a α =
    (b : List ℕ) × (β : List ℕ) × Rounds p n t k b β × (a ≡ raised p t b β) × ArtinSchreier p n t a α
