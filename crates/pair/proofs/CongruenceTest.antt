-- The test `congruences_hold` is true exactly when the four congruences hold, and for lists of words it is the test of two of them.
use mathlib.Core.Path.{◌≡◌, ap₂}
use mathlib.Core.Bool.{Bool, true, ◌&&◌, and-eq-true_iff}
use mathlib.Core.List.{List}
use Prim.Native.Nat.{ℕ, zero, suc, ◌≤◌}
use native.Mathlib.Omega.{arith}
use lib.ListN.{length}
use Rattle.algebra.specs.Lists.{equal}
use Rattle.algebra.proofs.Equality.{equal_of, of_equal, equal_tests}
use Rattle.array.specs.Words.{Words}
use Rattle.quotient.specs.Residue.{constant, residue_of_x, substitute, modulus_at}
use Rattle.pair.specs.Pair.{Congruences, congruences_hold}
use Rattle.pair.specs.Theorem.{Isomorphisms}
use Rattle.pair.proofs.TwoCongruences as TwoCongruences

module _ (p : ℕ) (t1 t2 s r : List ℕ) where
  pub hold_of_congruences : Congruences p t1 t2 s r → congruences_hold p t1 t2 s r ≡ true
  unfolding congruences_hold
  hold_of_congruences h =
      ap₂ ◌&&◌ (ap₂ ◌&&◌ (ap₂ ◌&&◌ (equal_of h.root_of_t1) (equal_of h.root_of_t2)) (equal_of h.s_of_r)) (equal_of h.r_of_s)

  pub congruences_of_hold : congruences_hold p t1 t2 s r ≡ true → Congruences p t1 t2 s r
  unfolding congruences_hold
  congruences_of_hold h =
      let a : Bool = equal (modulus_at p t2 s t1) (constant (length t2) 0) in
      let b : Bool = equal (modulus_at p t1 r t2) (constant (length t1) 0) in
      let c : Bool = equal (substitute p t1 r s) (residue_of_x p t1) in
      let abc = (and-eq-true_iff (a && b && c) (equal (substitute p t2 s r) (residue_of_x p t2))).0 h in
      let ab = (and-eq-true_iff (a && b) c).0 abc.0 in
      let parts = (and-eq-true_iff a b).0 ab.0 in
      record {
        root_of_t1 = of_equal _ _ parts.0;
        root_of_t2 = of_equal _ _ parts.1;
        s_of_r = of_equal _ _ ab.1;
        r_of_s = of_equal _ _ abc.1;
      }

module _ {p : ℕ} {t1 t2 s r : List ℕ} (big : 2 ≤ p) where
  pub isomorphisms_of_two : (n : ℕ) → 1 ≤ n → Words p n t1 → Words p n t2 → Words p n s → Words p n r
      → modulus_at p t2 s t1 ≡ constant n 0 → substitute p t2 s r ≡ residue_of_x p t2 → Congruences p t1 t2 s r × Isomorphisms p n t1 t2 s r
  isomorphisms_of_two zero some w1 w2 ws wr root inverse = absurd (omega arith)
  isomorphisms_of_two (suc n) some w1 w2 ws wr root inverse =
      (TwoCongruences.two_congruences big w1 w2 ws wr root inverse, TwoCongruences.isomorphisms big w1 w2 ws wr root inverse)

  pub isomorphisms_of_congruences : (n : ℕ) → 1 ≤ n → Words p n t1 → Words p n t2 → Words p n s → Words p n r → Congruences p t1 t2 s r
      → Isomorphisms p n t1 t2 s r
  isomorphisms_of_congruences n some w1 w2 ws wr h =
      (isomorphisms_of_two n some w1 w2 ws wr (TwoCongruences.first_congruence w2 h) h.r_of_s).1

  -- the two tests of the code
  pub hold_of_two : (n : ℕ) → 1 ≤ n → Words p n t1 → Words p n t2 → Words p n s → Words p n r
      → (equal (modulus_at p t2 s t1) (constant n 0) && equal (substitute p t2 s r) (residue_of_x p t2)) ≡ congruences_hold p t1 t2 s r
  hold_of_two n some w1 w2 ws wr =
      equal_tests _ _
      (λ h.
      let parts = (and-eq-true_iff (equal (modulus_at p t2 s t1) (constant n 0)) (equal (substitute p t2 s r) (residue_of_x p t2))).0 h in
      hold_of_congruences p t1 t2 s r (isomorphisms_of_two n some w1 w2 ws wr (of_equal _ _ parts.0) (of_equal _ _ parts.1)).0)
      (λ h.
      let c : Congruences p t1 t2 s r = congruences_of_hold p t1 t2 s r h in
      ap₂ ◌&&◌ (equal_of (TwoCongruences.first_congruence w2 c)) (equal_of c.r_of_s))
