-- The call's number, and what the list lent for the maps holds after it.
use mathlib.Core.Path.{◌≡◌, refl, sym, ap, ◌∙◌}
use mathlib.Core.Bool.{not}
use mathlib.Core.List.{List, flatten}
use Prim.Native.Nat.{ℕ, ◌*◌, ◌^◌, ◌≤◌}
use native.Mathlib.Omega.{arith}
use lib.Dec.{eqb}
use lib.ListN.{length}
use Rattle.algebra.specs.Prime.{Prime}
use Rattle.array.specs.Words.{Words}
use Rattle.pair.specs.Pair.{check_number, check_number_or}
use Rattle.pair.proofs.Refusals.{accepted_output}
use Rattle.pair.proofs.Theorem.{checker_theorem}
use Rattle.quotient.specs.Residue.{conjugate}
use Rattle.refusal.specs.Models.{Given}
use Rattle.refusal.specs.Number.{number}
use Rattle.refusal.specs.declared.number.Refusal.{Refusal}
use Rattle.refusal.proofs.Refused.{refused}
use Rattle.refusal.proofs.Written.{output_new, output_old}
use Rattle.maps.specs.Maps.{maps, maps_number, maps_output}
use Rattle.sorting.specs.Sorting.{sorted}
use Rattle.maps.proofs.AllMaps.{maps-sorted}

-- m is the length that is asked for
module _ (p n m : ℕ) (t1 t2 s r out : List ℕ) (asked : m ≡ n * n) where
  number_is : (k : ℕ) → k ≡ check_number_or (not (eqb (length out) m)) p n t1 t2 s r → k ≡ maps_number p n t1 t2 s r out
  unfolding maps_number
  number_is k e = e ∙ ap (λ x. check_number_or (not (eqb (length out) x)) p n t1 t2 s r) asked

  -- refused, the list is as it was
  module _ (x : Refusal) (h : number x ≡ check_number_or (not (eqb (length out) m)) p n t1 t2 s r) where
    pub refusal_is : number x ≡ maps_number p n t1 t2 s r out
    refusal_is = number_is (number x) h

    pub refused_output : out ≡ maps_output p n t1 t2 s r out
    unfolding maps_output
    refused_output = output_old (number x) (maps_number p n t1 t2 s r out) (flatten (maps p t1 t2)) out refusal_is (refused x)

  -- else the pair is accepted, and the conjugates of S in order are the maps
  module _ (h : 0 ≡ check_number_or (not (eqb (length out) m)) p n t1 t2 s r) where
    pub success_is : 0 ≡ maps_number p n t1 t2 s r out
    success_is = number_is 0 h

    accepted : (length out ≡ m) × (check_number p n t1 t2 s r ≡ 0)
    accepted = accepted_output p n 0 m t1 t2 s r out h refl

    given : Given p n t1 t2 s r
    given = ((checker_theorem p n t1 t2 s r).0 accepted.1).0

    pub accepted_prime : Prime p
    accepted_prime = given.models.prime

    pub accepted_sizes : (p ≤ 2 ^ 20) × (1 ≤ n) × (n ≤ 16) × (length out ≡ n * n)
    accepted_sizes = (omega (arith, given.models.small), given.models.degree.0, given.models.degree.1, accepted.0 ∙ asked)

    pub accepted_words : Words p n t2 × Words p n s
    accepted_words = (given.models.modulus2, given.words_s)

    pub new_output : (after : List ℕ) → after ≡ flatten (sorted (conjugate p t2 s) n) → after ≡ maps_output p n t1 t2 s r out
    unfolding maps_output
    new_output after f =
        output_new 0 (maps_number p n t1 t2 s r out) (flatten (maps p t1 t2)) out after success_is refl
        (f ∙ ap flatten (sym (maps-sorted p n t1 t2 s r accepted.1)))
