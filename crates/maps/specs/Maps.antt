-- All the maps (request S-5: "From an accepted pair, write all n polynomials S' with T1(S') = 0 mod T2, each exactly one time. Compare coefficients from the highest
-- power down and write them in ascending order").
--   maps p t1 t2                    of the list of all residues modulo T2, in ascending order, those S' that satisfy T1(S') = 0 modulo T2
--   maps_number p n t1 t2 s r out   the call's answer ("The call gives the checker's numbers, with 3 for an output list not of n·n words"): 1, 2, 3, 4, 6, 7, 8 or 0
--   maps_output p n t1 t2 s r out   what the list lent for them holds after the call: the maps one after the other where the number is 0, else what it held
use Rattle.std.specs.Prelude.{not, ℕ, ◌*◌, eqb, length}
use mathlib.Core.List.{List, flatten}
use Rattle.algebra.specs.Lists.{equal, filter}
use Rattle.pair.specs.Pair.{check_number_or}
use Rattle.quotient.specs.Residue.{residues, constant, modulus_at}
use Rattle.refusal.specs.Refusal.{written}

unfoldable pub maps : ℕ → List ℕ → List ℕ → List (List ℕ)
maps p t1 t2 = filter (λ s'. equal (modulus_at p t2 s' t1) (constant (length t2) 0)) (residues p (length t2))

unfoldable pub maps_number : ℕ → ℕ → List ℕ → List ℕ → List ℕ → List ℕ → List ℕ → ℕ
maps_number p n t1 t2 s r out = check_number_or (not (eqb (length out) (n * n))) p n t1 t2 s r

unfoldable pub maps_output : ℕ → ℕ → List ℕ → List ℕ → List ℕ → List ℕ → List ℕ → List ℕ
maps_output p n t1 t2 s r out = written (maps_number p n t1 t2 s r out) (flatten (maps p t1 t2)) out
