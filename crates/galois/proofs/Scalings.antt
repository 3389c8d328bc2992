-- Modulo a T without proper divisors there are exactly n residues u that are not zero and satisfy u^p = z·u and u^n = a, where z has order n: with v as in Alpha.antt
-- and one k with k^n·b = a, these are the multiples of v by k, k·z, …, k·z^(n − 1).
--   multiples n   the list of them
use mathlib.Core.Path.{◌≡◌, sym, ap, ◌∙◌}
use mathlib.Core.List.{List, map}
use Prim.Native.Nat.{ℕ, suc, ◌*◌, ◌%◌, ◌^◌, ◌≤◌, ◌<◌}
use native.Mathlib.Omega.{arith}
use lib.ListN.{length, length-map}
use Rattle.algebra.specs.Lists.{Member, Distinct, filter, range}
use Rattle.algebra.proofs.Counting.{distinct_within_length}
use Rattle.algebra.proofs.Lists.{member_map, member_equal, map_member, distinct_map}
use Rattle.algebra.proofs.Search.{range_length, range_bounds, range_member, range_distinct}
use Rattle.array.specs.Words.{Words}
use Rattle.array.proofs.Ascending.{ascending_distinct, ascending_filter}
use Rattle.quotient.specs.Divisor.{HasDivisor}
use Rattle.quotient.specs.Residue.{residues, scale, constant, power}
use Rattle.quotient.proofs.Listing.{residues_ascending}
use Rattle.roots.specs.Roots.{root_of_ratio, Admissible, OrderModulo, Solvable}
use Rattle.roots.proofs.Multiples.{multiple_below, multiple_positive, multiple_solves, multiples_distinct, solution_multiple}
use Rattle.galois.specs.Eigenvector.{scalings, first_non_zero, Normalised}
use Rattle.galois.proofs.Alpha.{test, scaling_of, of_scaling, first_of}
use Rattle.galois.proofs.Binomial.{multiple_power}
use Rattle.galois.proofs.Irreducible.{eigenvector_multiple}
use Rattle.galois.proofs.ResidueConstants.{constant_injective}
use Rattle.galois.proofs.ResidueEigenvector.{multiple_eigenvector}

module _ {p n : ℕ} {t : List ℕ} (h : Admissible p (suc n)) (wt : Words p (suc n) t) (irreducible : HasDivisor p t → ⊥) (z : ℕ) (lz : z < p) (order : OrderModulo p (suc n) z)
    {v : List ℕ} {b : ℕ} (g : Normalised p (suc n) t z v b) (a : ℕ) (s : Solvable p (suc n) a b) where
  abbrev k : ℕ
  k = root_of_ratio p (suc n) a b

  abbrev factor : ℕ → ℕ
  factor j = k * z ^ j % p

  abbrev multiples : List (List ℕ)
  multiples = map (λ j. scale p (factor j) v) (range 0 (suc n))

  small : k < p
  small = s.smallest.1

  solves : k ^ suc n * b % p ≡ a
  solves = s.smallest.2

  positive : (j : ℕ) → 1 ≤ factor j
  positive = multiple_positive h a b s z lz order k small solves

  below : (j : ℕ) → factor j < p
  below = multiple_below h a b s z lz order k small solves

  index : (j : ℕ) → Member j (range 0 (suc n)) → j < suc n
  index j m = omega (arith, range_bounds 0 (suc n) j m)

  multiples_apart : Distinct multiples
  multiples_apart =
      distinct_map (λ j. scale p (factor j) v) (range 0 (suc n))
      (λ i j mi mj e. multiples_distinct h a b s z lz order k small solves i j (index i mi) (index j mj)
      (sym (first_of h.prime wt irreducible z g (factor i) (positive i) (below i)) ∙ ap first_non_zero e ∙ first_of h.prime wt irreducible z g (factor j) (positive j) (below j)))
      (range_distinct 0 (suc n))

  multiples_within : (u : List ℕ) → Member u multiples → Member u (scalings p (suc n) t z a)
  multiples_within u m =
      let (j, _, e) = map_member (λ i. scale p (factor i) v) (range 0 (suc n)) u m in
      member_equal (scalings p (suc n) t z a) (sym e) (of_scaling p (suc n) t z a (scale p (factor j) v) (
        multiple_eigenvector h.prime wt g.eigenvector (factor j) (positive j) (below j),
        multiple_power h.prime wt g.eigenvector.words b g.power_is (factor j) ∙ ap (constant (suc n)) (multiple_solves h a b s z lz order k small solves j),
      ))

  scalings_within : (u : List ℕ) → Member u (scalings p (suc n) t z a) → Member u multiples
  scalings_within u m =
      let (eigenvector, value) = scaling_of p (suc n) t z a u m in
      let (c, pos, lc, e) = eigenvector_multiple h.prime wt irreducible z g.eigenvector eigenvector in
      let solution : c ^ suc n * b % p ≡ a =
      constant_injective n (c ^ suc n * b % p) a
      (sym (multiple_power h.prime wt g.eigenvector.words b g.power_is c) ∙ ap (λ w. power p t w (suc n)) (sym e) ∙ value) in
      let (j, l, f) = solution_multiple h a b s z lz order k small solves c lc solution in
      member_equal multiples (sym (e ∙ ap (λ x. scale p x v) f)) (member_map (λ i. scale p (factor i) v) (range 0 (suc n)) j (range_member 0 (suc n) j (omega arith) (omega arith)))

  scalings_apart : Distinct (scalings p (suc n) t z a)
  unfolding scalings
  scalings_apart =
      ascending_distinct (filter (test p (suc n) t z a) (residues p (suc n))) (ascending_filter (test p (suc n) t z a) (residues p (suc n)) (residues_ascending p (suc n)))

  pub scalings_count : length (scalings p (suc n) t z a) ≡ suc n
  scalings_count =
      let size : length multiples ≡ suc n = length-map (range 0 (suc n)) (λ j. scale p (factor j) v) ∙ range_length 0 (suc n) in
      let low : length multiples ≤ length (scalings p (suc n) t z a) = distinct_within_length multiples (scalings p (suc n) t z a) multiples_apart multiples_within in
      let high : length (scalings p (suc n) t z a) ≤ length multiples = distinct_within_length (scalings p (suc n) t z a) multiples scalings_apart scalings_within in
      omega arith
