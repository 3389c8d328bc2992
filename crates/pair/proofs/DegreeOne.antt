-- Pairs of degree 1 (document 01: "With n = 1 the residue of X is the constant −t0 mod p"). Every substitution leaves a constant as it is, so R(S) = X
-- and S(R) = X say that R and S are the residues of X: for T1 = X + a and T2 = X + b exactly S = [−a], R = [−b] are accepted.
use mathlib.Core.Path.{◌≡◌, sym, ap, subst, ◌∙◌}
use mathlib.Core.Bool.{true}
use mathlib.Core.List.{List, [], ◌∷◌, head-eq_of_cons-eq}
use mathlib.Core.Logic.{◌↔◌}
use Prim.Native.Nat.{ℕ, suc, ◌+◌, ◌-◌, ◌*◌, ◌%◌, ◌≤◌, ◌<◌}
use native.Mathlib.Nat as Nat
use native.Mathlib.Omega.{arith}
use Rattle.algebra.proofs.Modulo.{add-mod_cancel}
use Rattle.algebra.proofs.RingLaws.{mul-zero}
use Rattle.array.specs.Words.{Words, none, more}
use Rattle.quotient.specs.Residue.{sum, scale, constant, shift, top, times_x, product, residue_of_x, substitute, modulus_at}
use Rattle.quotient.proofs.Ring.{residue_ring, zero_residue, constant_residue, mul_residue}
use Rattle.quotient.proofs.Sums.{sum-zero}
use Rattle.array.proofs.Words as Words
use Rattle.residue.proofs.Power.{power-one}
use Rattle.pair.specs.Pair.{Congruences, congruences_hold}
use Rattle.pair.proofs.CongruenceTest as CongruenceTest

-- −a modulo p
abbrev negative : ℕ → ℕ → ℕ
negative p a = (p - a) % p

one_word : {p a : ℕ} → a < p → Words p 1 (a ∷ [])
one_word h = more h none

-- −a + a = 0
negative-add : (p a : ℕ) → a < p → (negative p a + a) % p ≡ 0
negative-add p a h =
    let back : p - a + a ≡ p = omega arith in
    Nat.mod-add-mod (p - a) p a ∙ ap (λ x. x % p) back ∙ Nat.mod_self p

-- (−1)·a = −a
negative_word : (q a : ℕ) → a < suc q → (0 + q * a % suc q) % suc q ≡ negative (suc q) a
negative_word q a h =
    let whole : 0 + q * a + a ≡ suc q * a = omega arith in
    let back : suc q - a + a ≡ suc q = omega arith in
    Nat.add-mod-mod 0 (q * a) (suc q)
    ∙ add-mod_cancel (0 + q * a) (suc q - a) a (suc q) (omega arith)
    (ap (λ x. x % suc q) whole ∙ Nat.mul-mod_right (suc q) a ∙ sym (ap (λ x. x % suc q) back ∙ Nat.mod_self (suc q)))

module _ {p : ℕ} (big : 2 ≤ p) where
  pub x_is_constant : {a : ℕ} → a < p → residue_of_x p (a ∷ []) ≡ negative p a ∷ []
  unfolding residue_of_x times_x shift top sum scale constant
  x_is_constant {a} h = ap (λ x. x ∷ []) (let e : suc (p - 1) ≡ p = omega arith in subst (λ k. a < k → (0 + (p - 1) * a % k) % k ≡ negative k a) e (negative_word (p - 1) a) h)

  product_zero : {t s : List ℕ} → Words p 1 t → Words p 1 s → product p t s (constant 1 0) ≡ constant 1 0
  unfolding residue_ring mul_residue zero_residue constant_residue
  product_zero {s = s} wt ws = ap (λ x. x.0) (mul-zero (residue_ring big wt) (s, ws))

  constant_stays : {t s : List ℕ} {c : ℕ} → Words p 1 t → Words p 1 s → c < p → substitute p t s (c ∷ []) ≡ c ∷ []
  unfolding substitute constant
  constant_stays {c = c} wt ws h = rw (Words.words_length wt, product_zero wt ws) (sum-zero (one_word h))

  root_of_t1 : {a b : ℕ} → (h : a < p) → b < p → modulus_at p (b ∷ []) (negative p a ∷ []) (a ∷ []) ≡ constant 1 0
  unfolding modulus_at
  root_of_t1 {a} {b} h k =
      let w : Words p 1 (negative p a ∷ []) = one_word (Nat.mod-lt (p - a) (omega arith)) in
      rw (power-one big (one_word k) w, constant_stays (one_word k) w h) (unfold sum constant in ap (λ x. x ∷ []) (negative-add p a h))

  module _ {a b c d : ℕ} (ha : a < p) (hb : b < p) (hc : c < p) (hd : d < p) where
    pub accepted_degree_one : (congruences_hold p (a ∷ []) (b ∷ []) (c ∷ []) (d ∷ []) ≡ true) ↔ ((c ≡ negative p a) × (d ≡ negative p b))
    accepted_degree_one = (
      λ h.
          let g : Congruences p (a ∷ []) (b ∷ []) (c ∷ []) (d ∷ []) = CongruenceTest.congruences_of_hold p (a ∷ []) (b ∷ []) (c ∷ []) (d ∷ []) h in (
            head-eq_of_cons-eq (sym (constant_stays (one_word ha) (one_word hd) hc) ∙ g.s_of_r ∙ x_is_constant ha),
            head-eq_of_cons-eq (sym (constant_stays (one_word hb) (one_word hc) hd) ∙ g.r_of_s ∙ x_is_constant hb),
          ),
      λ (e, f).
          CongruenceTest.hold_of_congruences p (a ∷ []) (b ∷ []) (c ∷ []) (d ∷ [])
          (CongruenceTest.isomorphisms_of_two big 1 (omega arith) (one_word ha) (one_word hb) (one_word hc) (one_word hd)
          (ap (λ x. modulus_at p (b ∷ []) (x ∷ []) (a ∷ [])) e ∙ root_of_t1 ha hb)
          (constant_stays (one_word hb) (one_word hc) hd ∙ ap (λ x. x ∷ []) f ∙ sym (x_is_constant hb))).0,
    )
