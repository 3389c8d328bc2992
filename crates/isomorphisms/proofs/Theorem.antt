-- The proofs of what specs/Theorem.antt states.
use mathlib.Core.Path.{◌≡◌, sym, ap, ◌∙◌}
use mathlib.Core.Bool.{not}
use mathlib.Core.List.{List, [], flatten}
use Prim.Native.Nat.{ℕ, zero, suc, ◌*◌, ◌<◌}
use native.Mathlib.Omega.{arith}
use borrow.Author.Tests.{eq-eqb}
use lib.ListN.{length, get_or, take, drop}
use Rattle.algebra.proofs.Lists.{member_all}
use Rattle.algebra.proofs.Places.{place_member, member_place, places_apart}
use Rattle.array.specs.Words.{Words}
use Rattle.array.proofs.Ascending.{ascending_distinct}
use Rattle.array.proofs.Flatten.{flatten_part}
use Rattle.array.proofs.Words.{words_length, of_length, to_length}
use Rattle.galois.proofs.RootIndependent.{root_independent}
use Rattle.maps.specs.Maps.{maps, maps_number, maps_output}
use Rattle.maps.specs.Theorem.{EveryMap}
use Rattle.maps.proofs.Theorem.{root_accepted, maps_theorem}
use Rattle.pair.specs.Pair.{forward, backward, check_number, check_number_or}
use Rattle.pair.proofs.Theorem.{checker_theorem}
use Rattle.quotient.specs.Divisor.{HasDivisor}
use Rattle.quotient.specs.Residue.{residue_of_x}
use Rattle.quotient.proofs.Listing.{one_to_one_onto}
use Rattle.refusal.specs.Models.{Models}
use Rattle.refusal.specs.Refusal.{written}
use Rattle.isomorphisms.specs.Theorem.{Isomorphism, IsForward, OnePair, EveryIsomorphism, OneEntry, ListIsAll, EveryIsomorphismListed, PairExists, PreservingIsEnough}
use Rattle.isomorphisms.proofs.PairOfMap.{image_words, image_forward, image_root, one_pair}
use Rattle.isomorphisms.proofs.RootExists.{root_exists}

pub every_isomorphism : EveryIsomorphism
every_isomorphism p zero t1 t2 g none1 none2 f iso = absurd (omega (arith, g.degree.0))
every_isomorphism p (suc n) t1 t2 g none1 none2 f iso = one_pair g iso none1 none2

pub preserving_is_enough : PreservingIsEnough
unfolding forward
preserving_is_enough p zero t1 t2 g none1 f h = absurd (omega (arith, g.degree.0))
preserving_is_enough p (suc n) t1 t2 g none1 f h =
    record { preserves = h; one_to_one = injective; onto = one_to_one_onto p (suc n) f closed injective }
  where
    forward_of_x : IsForward p (suc n) t2 (f (residue_of_x p t1)) f
    forward_of_x = image_forward g.prime.0 g.modulus1 g.modulus2 h

    closed : (u : List ℕ) → Words p (suc n) u → Words p (suc n) (f u)
    closed u wu = of_length g.modulus2 (h.residues u (to_length g.modulus1 wu))

    injective : (u v : List ℕ) → Words p (suc n) u → Words p (suc n) v → f u ≡ f v → u ≡ v
    injective u v wu wv e =
        root_independent g.prime g.modulus1 g.modulus2 none1 (image_words g.prime.0 g.modulus1 g.modulus2 h)
        (image_root g.prime.0 g.modulus1 g.modulus2 h) u v wu wv (sym (forward_of_x u wu) ∙ e ∙ forward_of_x v wv)

pub pair_exists : PairExists
pair_exists p zero t1 t2 g none1 none2 = absurd (omega (arith, g.degree.0))
pair_exists p (suc n) t1 t2 g none1 none2 =
    let (s, ws, root) = root_exists g.prime g.modulus1 g.modulus2 none1 none2 in
    let (r, accepted) = root_accepted p (suc n) t1 t2 g none1 none2 s ws root in
    (s, r, accepted)

-- the forward map of an accepted pair
accepted_isomorphism : (p n : ℕ) (t1 t2 s r : List ℕ) → check_number p n t1 t2 s r ≡ 0 → Isomorphism p n t1 t2 (forward p t2 s)
accepted_isomorphism p n t1 t2 s r accepted =
    let (g, _, _, iso) = (checker_theorem p n t1 t2 s r).0 accepted in
    record {
      preserves = iso.forward_preserves;
      one_to_one = λ u v wu wv e. sym (iso.back_undoes_forth u wu) ∙ ap (backward p t1 r) e ∙ iso.back_undoes_forth v wv;
      onto = λ v wv.
          (backward p t1 r v, of_length g.models.modulus1 (iso.backward_preserves.residues v (to_length g.models.modulus2 wv)), iso.forth_undoes_back v wv);
    }

module _ (p n : ℕ) (t1 t2 : List ℕ) (g : Models p n t1 t2) (none1 : HasDivisor p t1 → ⊥) (none2 : HasDivisor p t2 → ⊥) (e : EveryMap p n t1 t2) where
  entry : ℕ → List ℕ
  entry k = get_or (maps p t1 t2) k []

  entry_accepted : (k : ℕ) → k < n → (r' : List ℕ) × (check_number p n t1 t2 (entry k) r' ≡ 0)
  unfolding entry
  entry_accepted k l = e.accepted (entry k) (place_member [] (maps p t1 t2) k (omega (arith, e.count)))

  one_entry : (f : List ℕ → List ℕ) → OnePair p n t1 t2 f → OneEntry p n t2 (maps p t1 t2) f
  unfolding entry
  one_entry f pair =
      let (k, l, at_k) = member_place [] (maps p t1 t2) pair.s (e.no_other pair.s pair.r pair.accepted) in
      record {
        k = k;
        below = omega (arith, e.count);
        is_forward = λ u wu. pair.is_forward u wu ∙ ap (λ s. forward p t2 s u) (sym at_k);
        only = λ j lj same.
            let (r', accepted) = entry_accepted j lj in
            places_apart [] (maps p t1 t2) (ascending_distinct (maps p t1 t2) e.ascending) j k (omega (arith, e.count)) l
            ((pair.only (entry j) r' accepted same).0 ∙ sym at_k);
      }

  number_is : (s r out : List ℕ) → check_number p n t1 t2 s r ≡ 0 → length out ≡ n * n → maps_number p n t1 t2 s r out ≡ 0
  unfolding maps_number
  number_is s r out accepted room = ap (λ b. check_number_or (not b) p n t1 t2 s r) (eq-eqb (length out) (n * n) room) ∙ accepted

  written_entry : (s r out : List ℕ) → maps_number p n t1 t2 s r out ≡ 0 → (k : ℕ) → k < n → take n (drop (k * n) (maps_output p n t1 t2 s r out)) ≡ entry k
  unfolding entry maps_output
  written_entry s r out z k l =
      ap (λ i. take n (drop (k * n) (written i (flatten (maps p t1 t2)) out))) z
      ∙ flatten_part n (maps p t1 t2)
      (member_all (λ u. length u ≡ n) (maps p t1 t2) (λ u m. words_length ((checker_theorem p n t1 t2 u (e.accepted u m).0).0 (e.accepted u m).1).0.words_s))
      k (omega (arith, e.count))

  list_is_all : ListIsAll p n t1 t2
  unfolding entry
  list_is_all =
      record {
        count = e.count;
        each = λ k l. let (r', accepted) = entry_accepted k l in accepted_isomorphism p n t1 t2 (entry k) r' accepted;
        every = λ f iso. one_entry f (every_isomorphism p n t1 t2 g none1 none2 f iso);
        written = λ s r out accepted room. let z = number_is s r out accepted room in (z, written_entry s r out z);
      }

pub every_isomorphism_listed : EveryIsomorphismListed
every_isomorphism_listed p n t1 t2 g none1 none2 =
    let (s, r, accepted) = pair_exists p n t1 t2 g none1 none2 in
    list_is_all p n t1 t2 g none1 none2 (maps_theorem p n t1 t2 s r accepted)
