-- α modulo a T without proper divisors. Let v be an eigenvector whose first coefficient that is not zero is 1, and v^n = b. All eigenvectors are c·v with c
-- from 1 to p − 1, the first coefficient of c·v that is not zero is c, and (c·v)^n = c^n·b. So α is k·v for the smallest k with k^n·b = a; there is
-- no other, and the search finds it.
use mathlib.Core.Path.{◌≡◌, sym, ap, ◌∙◌, subst}
use mathlib.Core.Bool.{Bool, not, ◌&&◌, and-eq-true_iff, true≢false}
use mathlib.Core.List.{List}
use Prim.Native.Nat.{ℕ, suc, ◌*◌, ◌%◌, ◌^◌, ◌≤◌, ◌<◌}
use native.Mathlib.Decide.{dec_le}
use native.Mathlib.Nat.{mod-eq_of_lt, mul-one, mul_comm}
use native.Mathlib.Omega.{arith}
use lib.Dec.{leb}
use borrow.Author.Tests.{leb-true, le-leb, not-true}
use Rattle.algebra.specs.Lists.{all, equal, Member}
use Rattle.algebra.specs.Prime.{Prime}
use Rattle.algebra.specs.Search.{Smallest}
use Rattle.algebra.proofs.Equality.{equal_of, of_equal, test_fails}
use Rattle.algebra.proofs.Search.{first_unique, filter_member, member_filter, member_of_all, all_of_members}
use Rattle.algebra.proofs.FieldLaws.{mul_left_cancel}
use Rattle.modular.proofs.Field.{Below, word_field, below_equal, zero_value, mul_value}
use Rattle.array.specs.Words.{Words}
use Rattle.quotient.specs.Divisor.{HasDivisor}
use Rattle.quotient.specs.Residue.{residues, sum, scale, constant, power}
use Rattle.quotient.proofs.Sums.{scale-suc, scale-zero, sum-zero}
use Rattle.quotient.proofs.Listing.{residues_complete, residues_sound}
use Rattle.galois.specs.Eigenvector.{alpha, scalings, first_non_zero, Eigenvector, Alpha, Normalised}
use Rattle.galois.proofs.Binomial.{multiple_power}
use Rattle.galois.proofs.FirstNonZero.{first_non_zero-scale, first_non_zero_positive, first_non_zero_below}
use Rattle.galois.proofs.Irreducible.{eigenvector_multiple}
use Rattle.galois.proofs.ResidueEigenvector.{multiple_eigenvector}
use Rattle.galois.proofs.ResidueConstants.{constant_injective}

-- the search

module _ (p n : ℕ) (t : List ℕ) (z a : ℕ) where
  abbrev pub test : List ℕ → Bool
  test u = not (equal u (constant n 0)) && equal (power p t u p) (scale p z u) && equal (power p t u n) (constant n a)

  abbrev pub Scaling : List ℕ → Type 0
  Scaling u = Eigenvector p n t z u × (power p t u n ≡ constant n a)

  pub scaling_of : (u : List ℕ) → Member u (scalings p n t z a) → Scaling u
  unfolding scalings
  scaling_of u m =
      let (l, h) = filter_member test (residues p n) u m in
      let outer = (and-eq-true_iff (not (equal u (constant n 0)) && equal (power p t u p) (scale p z u)) (equal (power p t u n) (constant n a))).0 h in
      let inner = (and-eq-true_iff (not (equal u (constant n 0))) (equal (power p t u p) (scale p z u))).0 outer.0 in (
        record {
          words = residues_sound p n u l;
          not_zero = λ e. true≢false (sym (equal_of e) ∙ not-true (equal u (constant n 0)) inner.0);
          power_is = of_equal _ _ inner.1;
        },
        of_equal _ _ outer.1,
      )

  pub of_scaling : (u : List ℕ) → Scaling u → Member u (scalings p n t z a)
  unfolding scalings
  of_scaling u (h, e) =
      member_filter test (residues p n) u (residues_complete p n u h.words) (
      (and-eq-true_iff (not (equal u (constant n 0)) && equal (power p t u p) (scale p z u)) (equal (power p t u n) (constant n a))).1 (
        (and-eq-true_iff (not (equal u (constant n 0))) (equal (power p t u p) (scale p z u))).1 (
          ap not (test_fails (equal u (constant n 0)) (λ f. h.not_zero (of_equal _ _ f))),
          equal_of h.power_is,
        ),
        equal_of e,
      )
      )

  alpha_only : (u : List ℕ) → Alpha p n t z a u → ((w : List ℕ) → Alpha p n t z a w → w ≡ u) → alpha p n t z a ≡ u
  unfolding alpha
  alpha_only u h only =
      first_unique (λ w. all (λ v. leb (first_non_zero w) (first_non_zero v)) (scalings p n t z a)) (constant n 0) (scalings p n t z a) u (of_scaling u (h.eigenvector, h.root_is))
      (all_of_members (λ v. leb (first_non_zero u) (first_non_zero v)) (scalings p n t z a)
      (λ v m. let s = scaling_of v m in le-leb (first_non_zero u) (first_non_zero v) (h.smallest v s.0 s.1)))
      (λ w m e. let s = scaling_of w m in only w record {
        eigenvector = s.0;
        root_is = s.1;
        smallest = λ v hv ev. leb-true (first_non_zero w) (first_non_zero v)
            (member_of_all (λ x. leb (first_non_zero w) (first_non_zero x)) (scalings p n t z a) e v (of_scaling v (hv, ev)));
      })

pub scale_one : {p n : ℕ} {u : List ℕ} → Words p n u → scale p 1 u ≡ u
scale_one {p} {n} {u} w = scale-suc 0 w ∙ ap (sum p u) (scale-zero w) ∙ sum-zero w

-- of two residues that are α the first coefficients that are not zero are equal, so the factor between them is 1
pub alpha_unique : {p n : ℕ} {t : List ℕ} → Prime p → Words p (suc n) t → (HasDivisor p t → ⊥) → (z a : ℕ) (u w : List ℕ) → Alpha p (suc n) t z a u → Alpha p (suc n) t z a w → w ≡ u
unfolding word_field
alpha_unique {p} {n} prime wt irreducible z a u w hu hw =
    let eu : Eigenvector p (suc n) _ z u = hu.eigenvector in
    let (c, pos, below, e) = eigenvector_multiple prime wt irreducible z eu hw.eigenvector in
    let f : ℕ = first_non_zero u in
    let positive : 0 < f = first_non_zero_positive eu.words eu.not_zero in
    let small : f < p = first_non_zero_below (omega (arith, prime.0)) eu.words in
    let low : f ≤ first_non_zero w = hu.smallest w hw.eigenvector hw.root_is in
    let high : first_non_zero w ≤ f = hw.smallest u eu hu.root_is in
    let same : c * f % p ≡ f = sym (first_non_zero-scale prime pos below eu.words) ∙ ap first_non_zero (sym e) ∙ omega arith in
    let one : ◌≡◌ {A = Below p} (c, below) (1, prime.0) =
    mul_left_cancel (word_field p prime) (f, small) (c, below) (1, prime.0) (λ o. let z : f ≡ 0 = ap (λ x. x.0) o ∙ zero_value p prime.0 in omega arith)
    (below_equal p _ _ (mul_value p prime.0 (f, small) (c, below) ∙ ap (λ x. x % p) (mul_comm f c) ∙ same
    ∙ sym (mul_value p prime.0 (f, small) (1, prime.0) ∙ ap (λ x. x % p) (mul-one f) ∙ mod-eq_of_lt small))) in
    e ∙ ap (λ x. scale p x.0 u) one ∙ scale_one eu.words

-- α as a multiple of v

module _ {p n : ℕ} {t : List ℕ} (prime : Prime p) (wt : Words p (suc n) t) (irreducible : HasDivisor p t → ⊥) (z : ℕ) {v : List ℕ} {b : ℕ} (h : Normalised p (suc n) t z v b) where
  pub first_of : (c : ℕ) → 0 < c → c < p → first_non_zero (scale p c v) ≡ c
  first_of c pos below =
      first_non_zero-scale prime pos below h.eigenvector.words ∙ ap (λ x. c * x % p) h.first_non_zero_is ∙ ap (λ x. x % p) (mul-one c) ∙ mod-eq_of_lt below

  module _ (a k : ℕ) (least : Smallest (λ c. c ^ suc n * b % p ≡ a) p k) where
    -- the multiple that a residue with the same properties is, and its first coefficient
    multiple_of : (u : List ℕ) → Eigenvector p (suc n) t z u → power p t u (suc n) ≡ constant (suc n) a
        → (c : ℕ) × (u ≡ scale p c v) × (first_non_zero u ≡ c) × (k ≤ c)
    multiple_of u hu e =
        let (c, pos, below, f) = eigenvector_multiple prime wt irreducible z h.eigenvector hu in
        let solves : c ^ suc n * b % p ≡ a =
        constant_injective n (c ^ suc n * b % p) a (sym (multiple_power prime wt h.eigenvector.words b h.power_is c) ∙ ap (λ w. power p t w (suc n)) (sym f) ∙ e) in
        (c, f, ap first_non_zero f ∙ first_of c pos below, by_order c pos solves (dec_le k c))
      where
        by_order : (c : ℕ) → 0 < c → c ^ suc n * b % p ≡ a → Dec (k ≤ c) → k ≤ c
        by_order c pos solves (yes l) = l
        by_order c pos solves (no o) = absurd (least.3 c pos (omega arith) solves)

    scaling_is_alpha : Alpha p (suc n) t z a (scale p k v)
    scaling_is_alpha =
        record {
          eigenvector = multiple_eigenvector prime wt h.eigenvector k least.0 least.1;
          root_is = multiple_power prime wt h.eigenvector.words b h.power_is k ∙ ap (constant (suc n)) least.2;
          smallest = λ u hu e.
              let (c, _, first, l) = multiple_of u hu e in
              let mine : first_non_zero (scale p k v) ≡ k = first_of k least.0 least.1 in
              omega arith;
        }

    pub alpha_is_scaling : (u : List ℕ) → Alpha p (suc n) t z a u → u ≡ scale p k v
    alpha_is_scaling u hu =
        let (c, f, first, l) = multiple_of u hu.eigenvector hu.root_is in
        let mine : first_non_zero (scale p k v) ≡ k = first_of k least.0 least.1 in
        let other : first_non_zero u ≤ first_non_zero (scale p k v) = hu.smallest (scale p k v) scaling_is_alpha.eigenvector scaling_is_alpha.root_is in
        let same : c ≡ k = omega arith in
        f ∙ ap (λ x. scale p x v) same

    pub alpha_found : alpha p (suc n) t z a ≡ scale p k v
    alpha_found = alpha_only p (suc n) t z a (scale p k v) scaling_is_alpha alpha_is_scaling

    pub alpha_is : Alpha p (suc n) t z a (alpha p (suc n) t z a)
    alpha_is = subst (Alpha p (suc n) t z a) (sym alpha_found) scaling_is_alpha
