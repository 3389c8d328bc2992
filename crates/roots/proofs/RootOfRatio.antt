-- c exists: in a field with n·m elements other than 0, a and b ≠ 0 differ by an n-th power if a^m = b^m, for (a/b)^m = 1, so that
-- c^n = a/b is solvable. For the field of p elements the search finds the smallest c.
use mathlib.Core.Path.{◌≡◌, sym, ap, ◌∙◌}
use mathlib.Core.List.{List}
use Prim.Native.Nat.{ℕ, ◌-◌, ◌*◌, ◌%◌, ◌^◌, ◌≤◌, ◌<◌}
use native.Mathlib.Nat.{pos_of_ne-zero, zero-mod, zero-mul}
use native.Mathlib.Omega.{arith}
use lib.Dec.{eqb}
use borrow.Author.Tests.{eqb-true, eq-eqb}
use lib.ListN.{length}
use Rattle.algebra.specs.Prime.{Prime}
use Rattle.algebra.specs.Ring.{CommutativeRing, Field, power}
use Rattle.algebra.proofs.Modulo.{mod_laws}
use Rattle.algebra.proofs.RingLaws.{mul_assoc, mul-one, power_product}
use Rattle.algebra.proofs.FieldLaws.{mul_left_cancel, power-ne-zero}
use Rattle.algebra.proofs.Units.{Units}
use Rattle.algebra.proofs.PowerRoots.{power_root}
use Rattle.modular.proofs.Field.{word_ring, word_field, below_equal, zero_value, mul_value, power_value, nonzero_words, nonzero_words_lem, nonzero_words-length}
use Rattle.roots.specs.Roots.{root_of_ratio}
use Rattle.algebra.specs.Search.{Smallest}
use Rattle.algebra.proofs.Smallest.{first_is_smallest}
use Rattle.roots.proofs.Zeta.{zero_power}

module _ {A : Type 0} (F : Field A) (us : List A) (units : Units F us) (n m : ℕ) (pos : 0 < n) (count : length us ≡ n * m) where
  abbrev R : CommutativeRing A
  R = F.ring

  pub root_of_ratio_exists : (a b : A) → (b ≡ R.zero → ⊥) → power R a m ≡ power R b m → (c : A) × (R.mul (power R c n) b ≡ a)
  root_of_ratio_exists a b nz e =
      let q : A = R.mul a (F.inverse b) in
      let split : R.mul q b ≡ a =
      mul_assoc R a (F.inverse b) b ∙ ap (R.mul a) (R.mul_comm (F.inverse b) b ∙ F.mul-inverse b nz) ∙ mul-one R a in
      let one : power R q m ≡ R.one =
      mul_left_cancel F (power R b m) (power R q m) R.one (power-ne-zero F b m nz)
      (R.mul_comm (power R b m) (power R q m) ∙ sym (power_product R q b m) ∙ ap (λ x. power R x m) split ∙ e ∙ sym (mul-one R (power R b m))) in
      let (c, h) = power_root F us units n m pos count q one in
      (c, ap (λ x. R.mul x b) h ∙ split)

-- 0 is no solution
pub root_of_ratio_positive : (p n a1 a2 : ℕ) → 1 ≤ n → 0 < a1 → (c : ℕ) → c ^ n * a2 % p ≡ a1 → 1 ≤ c
root_of_ratio_positive p n a1 a2 low h c e =
    pos_of_ne-zero (λ z. let o : 0 ≡ a1 = sym (zero-mod p) ∙ ap (λ x. x % p) (sym (zero-mul a2) ∙ ap (λ x. x * a2) (sym (zero_power n low) ∙ ap (λ x. x ^ n) (sym z))) ∙ e in omega arith)

module _ (p n m : ℕ) (prime : Prime p) (low : 1 ≤ n) (product : n * m ≡ p - 1) (a1 a2 : ℕ) where
  abbrev IsRoot : ℕ → Type 0
  IsRoot k = k ^ n * a2 % p ≡ a1

  pub root_of_ratio_is : 0 < a1 → a1 < p → 0 < a2 → a2 < p → a1 ^ m % p ≡ a2 ^ m % p → Smallest IsRoot p (root_of_ratio p n a1 a2)
  unfolding root_of_ratio word_field
  root_of_ratio_is pos1 below1 pos2 below2 same =
      let big : 2 ≤ p = prime.0 in
      let (c, h) =
      root_of_ratio_exists (word_field p prime) (nonzero_words p big) (nonzero_words_lem p prime) n m low (nonzero_words-length p big ∙ sym product) (a1, below1) (a2, below2)
      (λ z. let o : a2 ≡ 0 = ap (λ x. x.0) z ∙ zero_value p big in omega arith)
      (below_equal p _ _ (power_value p big (a1, below1) m ∙ same ∙ sym (power_value p big (a2, below2) m))) in
      let found : IsRoot c.0 =
      simp mod_laws at (ap (λ x. x * a2 % p) (sym (power_value p big c n)) ∙ sym (mul_value p big (power (word_ring p big) c n) (a2, below2)) ∙ ap (λ x. x.0) h) in
      first_is_smallest (λ k. eqb (k ^ n * a2 % p) a1) IsRoot p (λ k. eqb-true (k ^ n * a2 % p) a1) (λ k. eq-eqb (k ^ n * a2 % p) a1)
      c.0 (root_of_ratio_positive p n a1 a2 low pos1 c.0 found) c.1 found
