-- What the calls on residues answer (document 01: "Substitution: 1 to 4", in the order of its table of refusals).
--   residue_number p n xss out     the number: p, n, the lengths of the lists read and of the list written, the words read
--   substitute_number, substitute_output    u(S) modulo T, written into the list lent
--   product_number, product_output          u·v modulo T, likewise
--   power_number, power_output              u^k modulo T, likewise
use Rattle.std.specs.Prelude.{List, [], ◌∷◌, ℕ}
use Rattle.refusal.specs.Refusal.{refuse_sent, written}
use Rattle.quotient.specs.Residue.{product, power, substitute}

abbrev pub residue_number : ℕ → ℕ → List (List ℕ) → List ℕ → ℕ
residue_number p n xss out = refuse_sent p n (out ∷ xss) xss 0

abbrev pub substitute_number : ℕ → ℕ → List ℕ → List ℕ → List ℕ → List ℕ → ℕ
substitute_number p n t s u out = residue_number p n (t ∷ s ∷ u ∷ []) out

abbrev pub substitute_output : ℕ → ℕ → List ℕ → List ℕ → List ℕ → List ℕ → List ℕ
substitute_output p n t s u out = written (substitute_number p n t s u out) (substitute p t s u) out

abbrev pub product_number : ℕ → ℕ → List ℕ → List ℕ → List ℕ → List ℕ → ℕ
product_number p n t u v out = residue_number p n (t ∷ u ∷ v ∷ []) out

abbrev pub product_output : ℕ → ℕ → List ℕ → List ℕ → List ℕ → List ℕ → List ℕ
product_output p n t u v out = written (product_number p n t u v out) (product p t u v) out

abbrev pub power_number : ℕ → ℕ → List ℕ → List ℕ → List ℕ → ℕ
power_number p n t u out = residue_number p n (t ∷ u ∷ []) out

abbrev pub power_output : ℕ → ℕ → List ℕ → List ℕ → ℕ → List ℕ → List ℕ
power_output p n t u k out = written (power_number p n t u out) (power p t u k) out
