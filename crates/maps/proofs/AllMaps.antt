-- The maps of an accepted pair are the conjugates of its S in ascending order: both lists are ascending and have the roots of T1 modulo T2 as elements.
use mathlib.Core.Path.{◌≡◌, sym, ap, subst, ◌∙◌}
use mathlib.Core.Bool.{Bool}
use mathlib.Core.List.{List}
use Prim.Native.Nat.{ℕ, zero, suc, ◌<◌}
use native.Mathlib.Omega.{arith}
use lib.ListN.{length}
use Rattle.algebra.specs.Lists.{Member, equal}
use Rattle.algebra.specs.Prime.{Prime}
use Rattle.algebra.proofs.Equality.{equal_of, of_equal}
use Rattle.algebra.proofs.Search.{filter_member, member_filter}
use Rattle.array.specs.Ascending.{Ascending}
use Rattle.array.specs.Words.{Words}
use Rattle.array.proofs.Ascending.{ascending_filter, ascending_unique}
use Rattle.array.proofs.Words.{words_length, of_length, to_length}
use Rattle.pair.specs.Pair.{check_number}
use Rattle.pair.proofs.Theorem.{checker_theorem}
use Rattle.pair.proofs.TwoCongruences.{first_congruence}
use Rattle.quotient.specs.Divisor.{HasDivisor}
use Rattle.quotient.specs.Residue.{residues, constant, conjugate, modulus_at}
use Rattle.quotient.proofs.Conjugates.{conjugate_words}
use Rattle.quotient.proofs.Listing.{residues_ascending, residues_complete, residues_sound}
use Rattle.maps.specs.Maps.{maps}
use Rattle.sorting.specs.Sorting.{sorted}
use Rattle.maps.proofs.AllRoots.{conjugates_apart, conjugate_is_root, root_is_conjugate}
use Rattle.sorting.proofs.Insertion.{sorted_member, member_sorted, sorted_ascending}

-- the elements are the roots of T1 modulo T2

module _ (p : ℕ) (t1 t2 : List ℕ) where
  abbrev test : List ℕ → Bool
  test s' = equal (modulus_at p t2 s' t1) (constant (length t2) 0)

  pub maps_ascending : Ascending (maps p t1 t2)
  unfolding maps
  maps_ascending = ascending_filter test (residues p (length t2)) (residues_ascending p (length t2))

  module _ {n : ℕ} (w2 : Words p n t2) (s' : List ℕ) where
    pub map_root : Member s' (maps p t1 t2) → Words p n s' × (modulus_at p t2 s' t1 ≡ constant n 0)
    unfolding maps
    map_root m =
        let (listed, passes) = filter_member test (residues p (length t2)) s' m in
        (of_length w2 (residues_sound p (length t2) s' listed), of_equal _ _ passes ∙ ap (λ k. constant k 0) (words_length w2))

    pub root_map : Words p n s' → modulus_at p t2 s' t1 ≡ constant n 0 → Member s' (maps p t1 t2)
    unfolding maps
    root_map w e =
        member_filter test (residues p (length t2)) s' (residues_complete p (length t2) s' (to_length w2 w)) (equal_of (e ∙ ap (λ k. constant k 0) (sym (words_length w2))))

module _ {p n : ℕ} {t1 t2 s : List ℕ} (prime : Prime p) (w1 : Words p (suc n) t1) (w2 : Words p (suc n) t2) (none1 : HasDivisor p t1 → ⊥) (none2 : HasDivisor p t2 → ⊥)
    (ws : Words p (suc n) s) (root : modulus_at p t2 s t1 ≡ constant (suc n) 0) where
  conjugate_map : (k : ℕ) → Member (conjugate p t2 s k) (maps p t1 t2)
  conjugate_map k =
      root_map p t1 t2 w2 (conjugate p t2 s k) (conjugate_words prime.0 w2 ws k) (conjugate_is_root prime w1 w2 none1 none2 ws root k)

  map_conjugate : (s' : List ℕ) → Member s' (maps p t1 t2) → (k : ℕ) × (k < suc n) × (s' ≡ conjugate p t2 s k)
  map_conjugate s' m = let (w, e) = map_root p t1 t2 w2 s' m in root_is_conjugate prime w1 w2 none1 none2 ws root s' w e

  in_order : maps p t1 t2 ≡ sorted (conjugate p t2 s) (suc n)
  in_order =
      ascending_unique (maps p t1 t2) (sorted (conjugate p t2 s) (suc n)) (maps_ascending p t1 t2)
      (sorted_ascending (conjugate p t2 s) (suc n) (λ k. words_length (conjugate_words prime.0 w2 ws k)) (suc n) (conjugates_apart prime w1 w2 none1 none2 ws root))
      (λ a m. let (k, l, e) = map_conjugate a m in subst (λ b. Member b (sorted (conjugate p t2 s) (suc n))) (sym e) (member_sorted (conjugate p t2 s) (suc n) k l))
      (λ a m. let (k, l, e) = sorted_member (conjugate p t2 s) (suc n) a m in subst (λ b. Member b (maps p t1 t2)) (sym e) (conjugate_map k))

-- of an accepted pair
pub maps-sorted : (p n : ℕ) (t1 t2 s r : List ℕ) → check_number p n t1 t2 s r ≡ 0 → maps p t1 t2 ≡ sorted (conjugate p t2 s) n
maps-sorted p zero t1 t2 s r accepted = absurd (omega (arith, ((checker_theorem p 0 t1 t2 s r).0 accepted).0.models.degree.0))
maps-sorted p (suc n) t1 t2 s r accepted =
    let (g, fields, c, iso) = (checker_theorem p (suc n) t1 t2 s r).0 accepted in
    in_order g.models.prime g.models.modulus1 g.models.modulus2 fields.no_divisor1 fields.no_divisor2 g.words_s
    (first_congruence g.models.modulus2 c)
