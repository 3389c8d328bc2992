-- Nothing outside the catalogue of pairs (request S-13: "For every two moduli of one degree that have no proper divisor, every one-to-one and onto map from K1 to K2 that
-- preserves sums, products and one is the forward map of an accepted pair, and of one pair only. … The list of S-5 is then all there is"). K1 and K2 are the residues modulo
-- T1 and modulo T2.
--   Isomorphism p n t1 t2 f   f is a one-to-one and onto map from K1 to K2 that preserves sums, products and one. It is any function: its values on residues count, and
--                             nothing is assumed of how they are computed
--   IsForward p n t2 s f      f is the forward map of a pair with this S: f(u) = u(S) modulo T2 for every residue u
--   OnePair p n t1 t2 f       f is the forward map of an accepted pair, and of one pair only
--   EveryIsomorphism          so it is for every isomorphism of two models without proper divisors; also for n = 1, where every S gives the map u ↦ u and the congruences
--                             leave one pair
--   OneEntry p n t2 list f    f is the forward map of exactly one entry of the list
--   ListIsAll p n t1 t2       the list of all maps has n entries; each has an isomorphism as its forward map; every isomorphism is that of exactly one entry, so there are
--                             exactly n; and for any accepted pair the call `maps`, lent n·n words, writes this list, entry k as the n words from word k·n on
--   EveryIsomorphismListed    so it is for every two models without proper divisors
--   PairExists                every two models without proper divisors have an accepted pair, also where the finder refuses with 5
--   PreservingIsEnough        a remark: where T1 has no proper divisor, one-to-one and onto follow from the rest. A residue but 0 has an inverse, so its image is not 0;
--                             and a one-to-one map between sets of p^n elements is onto
use Rattle.std.specs.Prelude.{◌≡◌, List, [], ℕ, ◌*◌, ◌<◌, length, get_or, take, drop}
use Rattle.array.specs.Words.{Words}
use Rattle.maps.specs.Maps.{maps, maps_number, maps_output}
use Rattle.pair.specs.Pair.{forward, check_number}
use Rattle.quotient.specs.Divisor.{HasDivisor}
use Rattle.quotient.specs.Map.{Preserves}
use Rattle.refusal.specs.Models.{Models}

pub record Isomorphism (p n : ℕ) (t1 t2 : List ℕ) (f : List ℕ → List ℕ) : Type 0 where
  pub preserves : Preserves p t1 t2 f
  pub one_to_one : (u v : List ℕ) → Words p n u → Words p n v → f u ≡ f v → u ≡ v
  pub onto : (v : List ℕ) → Words p n v → (u : List ℕ) × Words p n u × (f u ≡ v)

abbrev pub IsForward : ℕ → ℕ → List ℕ → List ℕ → (List ℕ → List ℕ) → Type 0
IsForward p n t2 s f = (u : List ℕ) → Words p n u → f u ≡ forward p t2 s u

pub record OnePair (p n : ℕ) (t1 t2 : List ℕ) (f : List ℕ → List ℕ) : Type 0 where
  pub s : List ℕ
  pub r : List ℕ
  pub accepted : check_number p n t1 t2 s r ≡ 0
  pub is_forward : IsForward p n t2 s f
  pub only : (s' r' : List ℕ) → check_number p n t1 t2 s' r' ≡ 0 → IsForward p n t2 s' f → (s' ≡ s) × (r' ≡ r)

abbrev pub EveryIsomorphism : Type 0
EveryIsomorphism =
    (p n : ℕ) (t1 t2 : List ℕ) → Models p n t1 t2 → (HasDivisor p t1 → ⊥) → (HasDivisor p t2 → ⊥)
    → (f : List ℕ → List ℕ) → Isomorphism p n t1 t2 f → OnePair p n t1 t2 f

pub record OneEntry (p n : ℕ) (t2 : List ℕ) (list : List (List ℕ)) (f : List ℕ → List ℕ) : Type 0 where
  pub k : ℕ
  pub below : k < n
  pub is_forward : IsForward p n t2 (get_or list k []) f
  pub only : (j : ℕ) → j < n → IsForward p n t2 (get_or list j []) f → j ≡ k

pub record ListIsAll (p n : ℕ) (t1 t2 : List ℕ) : Type 0 where
  pub count : length (maps p t1 t2) ≡ n
  pub each : (k : ℕ) → k < n → Isomorphism p n t1 t2 (forward p t2 (get_or (maps p t1 t2) k []))
  pub every : (f : List ℕ → List ℕ) → Isomorphism p n t1 t2 f → OneEntry p n t2 (maps p t1 t2) f
  pub written : (s r out : List ℕ) → check_number p n t1 t2 s r ≡ 0 → length out ≡ n * n
      → (maps_number p n t1 t2 s r out ≡ 0) × ((k : ℕ) → k < n → take n (drop (k * n) (maps_output p n t1 t2 s r out)) ≡ get_or (maps p t1 t2) k [])

abbrev pub EveryIsomorphismListed : Type 0
EveryIsomorphismListed =
    (p n : ℕ) (t1 t2 : List ℕ) → Models p n t1 t2 → (HasDivisor p t1 → ⊥) → (HasDivisor p t2 → ⊥) → ListIsAll p n t1 t2

abbrev pub PairExists : Type 0
PairExists =
    (p n : ℕ) (t1 t2 : List ℕ) → Models p n t1 t2 → (HasDivisor p t1 → ⊥) → (HasDivisor p t2 → ⊥)
    → (s : List ℕ) × (r : List ℕ) × (check_number p n t1 t2 s r ≡ 0)

abbrev pub PreservingIsEnough : Type 0
PreservingIsEnough =
    (p n : ℕ) (t1 t2 : List ℕ) → Models p n t1 t2 → (HasDivisor p t1 → ⊥)
    → (f : List ℕ → List ℕ) → Preserves p t1 t2 f → Isomorphism p n t1 t2 f
