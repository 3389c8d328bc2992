-- The proofs of what specs/Theorem.antt states. An S' of the list is the S of an accepted pair because u ↦ u(S') is injective on the p^n residues, hence onto: some R' has
-- R'(S') = X modulo T2.
use mathlib.Core.Path.{◌≡◌, sym, ap, subst, ◌∙◌}
use mathlib.Core.List.{List}
use Prim.Native.Nat.{ℕ, zero, suc}
use native.Mathlib.Omega.{arith}
use lib.ListN.{length}
use Rattle.algebra.specs.Lists.{Member}
use Rattle.array.specs.Words.{Words}
use Rattle.galois.specs.Express.{express}
use Rattle.galois.proofs.Express.{express_is}
use Rattle.galois.proofs.RootIndependent.{root_independent}
use Rattle.pair.specs.Pair.{check_number}
use Rattle.pair.proofs.Theorem.{checker_theorem}
use Rattle.pair.proofs.TwoCongruences.{first_congruence, two_congruences}
use Rattle.refusal.specs.Models.{Models}
use Rattle.quotient.specs.Divisor.{HasDivisor}
use Rattle.quotient.specs.Residue.{constant, conjugate, modulus_at}
use Rattle.maps.specs.Maps.{maps}
use Rattle.sorting.specs.Sorting.{sorted}
use Rattle.maps.specs.Theorem.{MapsTheorem, MapsAreConjugates}
use Rattle.maps.proofs.AllMaps.{maps_ascending, map_root, root_map, maps-sorted}
use Rattle.sorting.proofs.Insertion.{sorted-length, sorted_member, member_sorted}

pub root_accepted : (p n : ℕ) (t1 t2 : List ℕ) → Models p n t1 t2 → (HasDivisor p t1 → ⊥) → (HasDivisor p t2 → ⊥)
    → (s' : List ℕ) → Words p n s' → modulus_at p t2 s' t1 ≡ constant n 0 → (r' : List ℕ) × (check_number p n t1 t2 s' r' ≡ 0)
root_accepted p zero t1 t2 g none1 none2 s' ws root = absurd (omega (arith, g.degree.0))
root_accepted p (suc n) t1 t2 g none1 none2 s' ws root =
    let big = g.prime.0 in
    let w1 = g.modulus1 in
    let w2 = g.modulus2 in
    let (wr, inverse) = express_is big w2 ws (root_independent g.prime w1 w2 none1 ws root) in (
      express p t2 s',
      (checker_theorem p (suc n) t1 t2 s' (express p t2 s')).1 (record { models = g; words_s = ws; words_r = wr }) none1 none2
          (two_congruences big w1 w2 ws wr root inverse),
    )

accepted_root : (p n : ℕ) (t1 t2 s' r' : List ℕ) → check_number p n t1 t2 s' r' ≡ 0 → Member s' (maps p t1 t2)
accepted_root p n t1 t2 s' r' accepted =
    let (g, fields, c, iso) = (checker_theorem p n t1 t2 s' r').0 accepted in
    root_map p t1 t2 g.models.modulus2 s' g.words_s (first_congruence g.models.modulus2 c)

pub maps_theorem : MapsTheorem
maps_theorem p n t1 t2 s r accepted =
    let (g, fields, c, iso) = (checker_theorem p n t1 t2 s r).0 accepted in
    record {
      count = ap length (maps-sorted p n t1 t2 s r accepted) ∙ sorted-length (conjugate p t2 s) n;
      ascending = maps_ascending p t1 t2;
      accepted = λ s' m.
          let (ws, root) = map_root p t1 t2 g.models.modulus2 s' m in
          root_accepted p n t1 t2 g.models fields.no_divisor1 fields.no_divisor2 s' ws root;
      no_other = accepted_root p n t1 t2;
    }

pub maps_are_conjugates : MapsAreConjugates
maps_are_conjugates p n t1 t2 s r s' accepted =
    let same : maps p t1 t2 ≡ sorted (conjugate p t2 s) n = maps-sorted p n t1 t2 s r accepted in (
      λ m. sorted_member (conjugate p t2 s) n s' (subst (Member s') same m),
      λ (k, l, e). subst (Member s') (sym same) (subst (λ u. Member u (sorted (conjugate p t2 s) n)) (sym e) (member_sorted (conjugate p t2 s) n k l)),
    )
