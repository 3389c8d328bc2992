-- v^p = v + w modulo a T of degree n without proper divisors: there is exactly one solution with constant coefficient 0 if the trace of w, the sum w + w^p + … + w^(p^(n − 1)),
-- is 0. Two solutions differ by a constant, since their difference d satisfies d^p = d. So the p^(n − 1) residues v with constant coefficient 0 give as many values v^p − v.
-- Their trace is 0, since v^(p^n) = v, and the trace, a monic polynomial of degree p^(n − 1), has no more roots.
use mathlib.Core.Path.{◌≡◌, refl, sym, ap, ap₂, ◌∙◌, subst}
use mathlib.Core.Bool.{◌&&◌, and-eq-true_iff}
use mathlib.Core.List.{List, [], ◌∷◌, map, tail-eq_of_cons-eq}
use Prim.Native.Nat.{ℕ, suc, ◌+◌, ◌%◌, ◌^◌, ◌≤◌, ◌<◌}
use native.Mathlib.Nat as Nat
use native.Mathlib.Omega.{arith}
use lib.Dec.{eqb}
use lib.ListN.{length, get_or, length-map}
use borrow.Author.Tests.{eqb-true, eq-eqb}
use Rattle.algebra.specs.Lists.{Member, Distinct, All, equal}
use Rattle.algebra.specs.Prime.{Prime}
use Rattle.algebra.specs.Ring.{CommutativeRing, Field, numeral}
use Rattle.algebra.specs.Ring as Ring
use Rattle.algebra.proofs.RingLaws.{add_assoc, add_comm, add_left_comm, add_left_cancel, add_neg_cancel_left, add-zero, one-mul, numeral-zero}
use Rattle.algebra.proofs.Lists.{member_all, map_member, distinct_map}
use Rattle.algebra.proofs.Counting.{member?}
use Rattle.algebra.proofs.Equality.{equal_of, of_equal}
use Rattle.algebra.proofs.Search.{first_unique}
use Rattle.algebra.proofs.PrimePowers.{power_rises}
use Rattle.algebra.proofs.Polynomials.{polynomial_power, polynomial_total, monic_roots}
use Rattle.algebra.proofs.Constants.{power_pred, constant_of_root}
use Rattle.algebra.proofs.Frobenius.{frobenius_add}
use Rattle.algebra.proofs.Totals.{total}
use Rattle.array.specs.Words.{Words, none, more}
use Rattle.quotient.specs.Divisor.{HasDivisor}
use Rattle.quotient.specs.Residue.{Residue, residues, sum, constant, power}
use Rattle.quotient.proofs.Field.{residue_field, power_of_size}
use Rattle.quotient.proofs.Listing.{residues_complete, residues_sound, all_residues, all_residues_distinct, all_residues-length}
use Rattle.quotient.proofs.Operations.{residue_path, residue_discrete}
use Rattle.quotient.proofs.Reduction.{characteristic, add_is}
use Rattle.quotient.proofs.Ring.{residue_ring, power_is, numeral_is}
use Rattle.quotient.proofs.SumOfPowers.{sum_word}
use Rattle.quotient.proofs.Sums.{sum_comm}
use Rattle.galois.specs.Tower.{artin_schreier, ArtinSchreier}
use Rattle.galois.proofs.ResidueConstants.{constant_first}
use Rattle.galois.proofs.Traces.{trace, trace_of_difference}

module _ {A : Type 0} (F : Field A) (p : ℕ) (prime : Prime p) (vanishes : numeral F.ring p ≡ F.ring.zero) where
  abbrev R : CommutativeRing A
  R = F.ring

  constant_of_fixed : (d : A) → Ring.power R d p ≡ d → (c : ℕ) × (c < p) × (d ≡ numeral R c)
  constant_of_fixed d e = by_zero (F.discrete d R.zero)
    where
      by_zero : Dec (d ≡ R.zero) → (c : ℕ) × (c < p) × (d ≡ numeral R c)
      by_zero (yes z) = (0, omega (arith, prime.0), z ∙ sym (numeral-zero R))
      by_zero (no h) =
          let (c, _, below, f) = constant_of_root F p prime vanishes d (power_pred F p prime vanishes d R.one h (e ∙ sym (one-mul R d))) in
          (c, below, f)

  -- u^p − u = v^p − v, for u = v + d
  equal_differences : (u v : A) → R.add (Ring.power R u p) v ≡ R.add (Ring.power R v p) u → (c : ℕ) × (c < p) × (u ≡ R.add v (numeral R c))
  equal_differences u v e =
      let d : A = R.add (R.neg v) u in
      let split : R.add v d ≡ u = add_neg_cancel_left R v u in
      let expand : R.add (Ring.power R v p) (R.add v (Ring.power R d p)) ≡ R.add (Ring.power R v p) (R.add v d) =
      regroup (Ring.power R v p) (Ring.power R d p) v ∙ ap (λ x. R.add x v) (sym (frobenius_add R p prime vanishes v d) ∙ ap (λ x. Ring.power R x p) split) ∙ e
      ∙ ap (R.add (Ring.power R v p)) (sym split) in
      let (c, below, f) = constant_of_fixed d (add_left_cancel R v _ _ (add_left_cancel R (Ring.power R v p) _ _ expand)) in
      (c, below, sym split ∙ ap (R.add v) f)
    where
      regroup : (a b c : A) → R.add a (R.add c b) ≡ R.add (R.add a b) c
      regroup a b c = simp (add_assoc R, add_comm R)

  -- the trace is a monic polynomial of degree p^k
  trace_roots : (k : ℕ) (rs : List A) → Distinct rs → All (λ r. trace R p (suc k) r ≡ R.zero) rs → length rs ≤ p ^ k
  unfolding total
  trace_roots k rs distinct roots =
      monic_roots F (p ^ k) (trace R p k) (polynomial_total R (p ^ k) (λ i x. Ring.power R x (p ^ i)) k (λ i l. polynomial_power R (p ^ i) (p ^ k) (power_rises p i k prime.0 l)))
      rs distinct roots

-- on lists u^p − u = v^p − v, whatever the list w is
sum_exchange : {p n : ℕ} {u v : List ℕ} → Words p n u → Words p n v → (w : List ℕ) → sum p (sum p u w) v ≡ sum p (sum p v w) u
unfolding sum
sum_exchange none none w = refl
sum_exchange (more h u) (more k v) [] = sum_comm (more h u) (more k v)
sum_exchange {p} (more {a = a} h u) (more {a = b} k v) (c ∷ w) =
    let e : a + c + b ≡ b + c + a = omega arith in
    ap₂ ◌∷◌ (simp Nat.mod-add-mod (ap (λ x. x % p) e)) (sum_exchange u v w)

module _ {p n : ℕ} {t : List ℕ} (prime : Prime p) (wt : Words p (suc n) t) (irreducible : HasDivisor p t → ⊥) where
  abbrev K : CommutativeRing (Residue p (suc n))
  K = residue_ring prime.0 wt

  abbrev F : Field (Residue p (suc n))
  F = residue_field prime wt irreducible

  abbrev vanishes : numeral K p ≡ K.zero
  vanishes = characteristic prime.0 wt

  regroup : (u v w : Residue p (suc n)) → K.add (K.add u w) v ≡ K.add (K.add v w) u
  regroup u v w = simp (add_assoc K, add_comm K, add_left_comm K)

  -- the constant coefficient of v + c
  first_of_sum : (v : Residue p (suc n)) (c : ℕ) → c < p → get_or v.0 0 0 ≡ 0 → get_or (K.add v (numeral K c)).0 0 0 ≡ c
  first_of_sum v c below z =
      ap (λ x. get_or x 0 0) (add_is prime.0 wt v (numeral K c)) ∙ sum_word v.1 (numeral K c).1 0 (omega arith)
      ∙ ap₂ (λ x y. (x + y) % p) z (ap (λ x. get_or x 0 0) (numeral_is prime.0 wt c ∙ ap (constant (suc n)) (Nat.mod-eq_of_lt below)) ∙ constant_first (suc n) c (omega arith))
      ∙ ap (λ x. x % p) (Nat.zero-add c) ∙ Nat.mod-eq_of_lt below

  -- v^p − v determines v among the residues with constant coefficient 0
  difference_injective : (u v : Residue p (suc n)) → get_or u.0 0 0 ≡ 0 → get_or v.0 0 0 ≡ 0 → K.add (Ring.power K u p) v ≡ K.add (Ring.power K v p) u → u ≡ v
  unfolding residue_field
  difference_injective u v zu zv e =
      let (c, below, f) = equal_differences F p prime vanishes u v e in
      let c_zero : c ≡ 0 = sym (first_of_sum v c below zv) ∙ ap (λ x. get_or x.0 0 0) (sym f) ∙ zu in
      f ∙ ap (λ x. K.add v (numeral K x)) c_zero ∙ ap (K.add v) (numeral-zero K) ∙ add-zero K v

  pub solution_unique : {w v v' : List ℕ} → ArtinSchreier p (suc n) t w v → ArtinSchreier p (suc n) t w v' → v ≡ v'
  solution_unique {w} {v} {v'} h h' =
      ap (λ x. x.0) (difference_injective (v, h.words) (v', h'.words) h.constant-zero h'.constant-zero
      (residue_path (on_lists (v, h.words) (v', h'.words) ∙ ap (λ x. sum p x v') h.equation ∙ sum_exchange h.words h'.words w
      ∙ ap (λ x. sum p x v) (sym h'.equation) ∙ sym (on_lists (v', h'.words) (v, h.words)))))
    where
      on_lists : (a b : Residue p (suc n)) → (K.add (Ring.power K a p) b).0 ≡ sum p (power p t a.0 p) b.0
      on_lists a b = add_is prime.0 wt (Ring.power K a p) b ∙ ap (λ x. sum p x b.0) (sym (power_is prime.0 wt a p))

  -- the residues with constant coefficient 0

  without_constant_lem : Residue p n → Residue p (suc n)
  without_constant_lem u = (0 ∷ u.0, more {a = 0} (omega (arith, prime.0)) u.1)

  candidates : List (Residue p (suc n))
  candidates = map without_constant_lem (all_residues p n)

  candidate_first : (v : Residue p (suc n)) → Member v candidates → get_or v.0 0 0 ≡ 0
  unfolding candidates without_constant_lem
  candidate_first v m = let (u, _, e) = map_member without_constant_lem (all_residues p n) v m in ap (λ x. get_or x.0 0 0) e

  candidates_distinct : Distinct candidates
  unfolding candidates without_constant_lem
  candidates_distinct = distinct_map without_constant_lem (all_residues p n) (λ u v l m e. residue_path (tail-eq_of_cons-eq (ap (λ x. x.0) e))) (all_residues_distinct p n)

  candidates-length : length candidates ≡ p ^ n
  unfolding candidates
  candidates-length = length-map (all_residues p n) without_constant_lem ∙ all_residues-length p n

  -- v^p − v
  difference : Residue p (suc n) → Residue p (suc n)
  difference v = K.add (K.neg v) (Ring.power K v p)

  difference_is : (v : Residue p (suc n)) → Ring.power K v p ≡ K.add v (difference v)
  unfolding difference
  difference_is v = sym (add_neg_cancel_left K v (Ring.power K v p))

  differences : List (Residue p (suc n))
  differences = map difference candidates

  differences_distinct : Distinct differences
  unfolding differences
  differences_distinct =
      distinct_map difference candidates
      (λ u v l m e. difference_injective u v (candidate_first u l) (candidate_first v m)
      (ap (λ x. K.add x v) (difference_is u) ∙ regroup u v (difference u) ∙ sym (ap (λ x. K.add x u) (difference_is v ∙ ap (K.add v) (sym e)))))
      candidates_distinct

  difference_trace : (w : Residue p (suc n)) → Member w differences → trace K p (suc n) w ≡ K.zero
  unfolding differences
  difference_trace w m =
      let (v, _, e) = map_member difference candidates w m in
      trace_of_difference K p prime vanishes (suc n) v w (power_of_size prime wt irreducible v) (difference_is v ∙ ap (K.add v) (sym e))

  -- one root more would be too many
  trace-zero_is_difference : (w : Residue p (suc n)) → trace K p (suc n) w ≡ K.zero → Member w differences
  unfolding residue_field differences
  trace-zero_is_difference w z = by_member (member? (residue_discrete p (suc n)) w differences)
    where
      by_member : Dec (Member w differences) → Member w differences
      by_member (yes m) = m
      by_member (no absent) =
          let few : length (w ∷ differences) ≤ p ^ n =
          trace_roots F p prime vanishes n (w ∷ differences) (absent, differences_distinct) (z, member_all (λ u. trace K p (suc n) u ≡ K.zero) differences difference_trace) in
          absurd (omega (arith, length-map candidates difference, candidates-length))

  solution_exists : (w : Residue p (suc n)) → trace K p (suc n) w ≡ K.zero → (v : List ℕ) × ArtinSchreier p (suc n) t w.0 v
  unfolding differences
  solution_exists w z =
      let (v, m, e) = map_member difference candidates w (trace-zero_is_difference w z) in (
        v.0,
        record {
          words = v.1;
          equation = power_is prime.0 wt v p ∙ ap (λ x. x.0) (difference_is v ∙ ap (K.add v) (sym e)) ∙ add_is prime.0 wt v w;
          constant-zero = candidate_first v m;
        },
      )

  -- the search

  artin_schreier_found : (v : List ℕ) {w : List ℕ} → ArtinSchreier p (suc n) t w v → artin_schreier p (suc n) t w ≡ v
  unfolding artin_schreier
  artin_schreier_found v {w} h =
      first_unique (λ u. equal (power p t u p) (sum p u w) && eqb (get_or u 0 0) 0) (constant (suc n) 0) (residues p (suc n)) v (residues_complete p (suc n) v h.words)
      ((and-eq-true_iff (equal (power p t v p) (sum p v w)) (eqb (get_or v 0 0) 0)).1 (equal_of h.equation, eq-eqb (get_or v 0 0) 0 h.constant-zero))
      (λ u m e. let parts = (and-eq-true_iff (equal (power p t u p) (sum p u w)) (eqb (get_or u 0 0) 0)).0 e in
      solution_unique record { words = residues_sound p (suc n) u m; equation = of_equal _ _ parts.0; constant-zero = eqb-true (get_or u 0 0) 0 parts.1 } h)

  pub artin_schreier_is : (w : Residue p (suc n)) → trace K p (suc n) w ≡ K.zero → ArtinSchreier p (suc n) t w.0 (artin_schreier p (suc n) t w.0)
  artin_schreier_is w z = let (v, h) = solution_exists w z in subst (ArtinSchreier p (suc n) t w.0) (sym (artin_schreier_found v h)) h
