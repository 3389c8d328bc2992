-- The proofs of what specs/Theorem.antt and specs/DivisorTest.antt state.
use mathlib.Core.Path.{sym, ap, ◌∙◌}
use Prim.Native.Nat.{suc, ◌-◌, ◌^◌}
use Rattle.quotient.specs.Theorem as Theorem
use Rattle.quotient.specs.DivisorTest.{DivisorTestIsExact}
use Rattle.quotient.specs.Divisor.{polynomial_product}
use Rattle.quotient.proofs.Decision as Decision
use Rattle.quotient.proofs.Descent as Descent
use Rattle.quotient.proofs.Field as Field
use Rattle.quotient.proofs.FieldModulus as FieldModulus
use Rattle.quotient.proofs.Frobenius as Frobenius
use Rattle.quotient.proofs.Listing as Listing
use Rattle.quotient.proofs.Reduction as Reduction
use Rattle.quotient.proofs.Remainder as Division
use Rattle.quotient.proofs.Ring as Residues
use Rattle.quotient.proofs.Substitution as Substitution
use Rattle.quotient.proofs.SumOfPowers as SumOfPowers

pub residues_are_a_ring : Theorem.ResiduesAreARing
residues_are_a_ring p n t big wt = Residues.residues_are_a_ring big wt

pub modulus_vanishes : Theorem.ModulusVanishes
modulus_vanishes p n t big wt = Substitution.modulus_at_x big wt

pub product_is_remainder : Theorem.ProductIsRemainder
product_is_remainder p n t u v big wt wu wv =
    let e = Residues.product_reduced big wt u (v, wv) in
    (rw e (Division.remainder_is big wt (polynomial_product p u v)), λ r h. Division.remainder_unique big wt (polynomial_product p u v) r h ∙ sym e)

pub substitution_is_sum : Theorem.SubstitutionIsSum
substitution_is_sum p n t s u big wt ws = SumOfPowers.substitute_sum big wt (s, ws) u

pub substitution_preserves : Theorem.SubstitutionPreserves
substitution_preserves p m n t1 t2 s big w1 w2 ws root = Substitution.substitution_preserves big w1 w2 ws root

pub residues_are_listed : Theorem.ResiduesAreListed
residues_are_listed p n = (Listing.residues_ascending p n, Listing.residues_distinct p n, Listing.residues-length p n, Listing.residues_complete p n, Listing.residues_sound p n)

pub field_exactly : Theorem.FieldExactly
field_exactly p n t prime wt = (FieldModulus.inverses_irreducible prime wt, FieldModulus.irreducible_inverses prime wt)

pub power_of_unit : Theorem.PowerOfUnit
power_of_unit p n t u prime wt irreducible wu h =
    Residues.power_is prime.0 wt (u, wu) (p ^ suc n - 1)
    ∙ ap (λ w. w.0) (Field.power_of_nonzero prime wt irreducible (u, wu) (λ z. h (ap (λ w. w.0) z ∙ Reduction.zero_is prime.0 wt)))
    ∙ Reduction.one_is prime.0 wt

pub divisor_test_is_exact : DivisorTestIsExact
divisor_test_is_exact p n t big wt = (Decision.test_has_divisor big wt, Decision.has_divisor_test big wt)

pub irreducible_divisor : Theorem.IrreducibleDivisor
irreducible_divisor p n t prime wt = Descent.irreducible_divisor p n t prime.0 wt

pub frobenius_is_linear : Theorem.FrobeniusIsLinear
frobenius_is_linear p n c t u v prime h wt wu wv = (Frobenius.frobenius_sum prime wt (u, wu) (v, wv), Frobenius.frobenius_scale prime wt c (u, wu))
