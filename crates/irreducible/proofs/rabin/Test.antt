-- The parts of Rabin's test: what each of them decides.
use Rattle.std.proofs.Common.{◌↔◌, IsTrue}
use mathlib.Core.Path.{◌≡◌, refl, sym, ap, subst, ◌∙◌}
use mathlib.Core.Bool.{Bool, true, false}
use mathlib.Core.List.{List}
use Prim.Native.Nat.{ℕ, ◌/◌, ◌%◌, ◌≤◌}
use lib.ListN.{length, take}
use Rattle.algebra.specs.Lists.{equal}
use Rattle.algebra.specs.Prime.{Prime}
use Rattle.algebra.specs.Search.{Decides}
use Rattle.array.specs.Array.{padded, Holds}
use Rattle.array.proofs.Padded.{array_length, front_is, holds_is}
use Rattle.quotient.specs.Residue.{residue_of_x, HasInverse}
use Rattle.irreducible.specs.Rabin.{conjugate_of_x, difference, Passes}
use Rattle.quotient.proofs.Conjugates.{conjugate_words}
use Rattle.quotient.proofs.Operations.{residue_of_x_words}
use Rattle.irreducible.proofs.Differences.{difference_words}

true_of : (r : Bool) → (r ≡ false → ⊥) → r ≡ true
true_of true f = refl
true_of false f = absurd (f refl)

module _ (p n : ℕ) (t : List ℕ) (prime : Prime p) (short : n ≤ 16) (ht : Holds p n t) where
  abbrev T : List ℕ
  T = take n t

  -- X^(p^n)
  module _ (k : ℕ) (u : List ℕ) (e : u ≡ padded (conjugate_of_x p T k)) where
    pub conjugate_length : length u ≡ 16
    conjugate_length = array_length n u short (holds_is e (conjugate_words prime.0 ht.words (residue_of_x_words prime.0 ht.words) k)).zeros

    pub fixed_decides : (b : Bool) → b ≡ equal (take n u) (residue_of_x p T) → b ≡ equal (conjugate_of_x p T k) (residue_of_x p T)
    fixed_decides b f = f ∙ ap (λ l. equal l (residue_of_x p T)) (front_is e (conjugate_words prime.0 ht.words (residue_of_x_words prime.0 ht.words) k))

  -- X^(p^(n/q)) − X
  module _ (k : ℕ) (w : List ℕ) (e : w ≡ padded (difference p T k)) where
    pub difference_holds : Holds p n w
    difference_holds = holds_is e (difference_words prime.0 ht.words k)

    difference_front : take n w ≡ difference p T k
    difference_front = front_is e (difference_words prime.0 ht.words k)

  pub passes_decides : (q : ℕ) (w : List ℕ) → w ≡ padded (difference p T (n / q)) → n % q ≡ 0 → (r : Bool) → Decides r (HasInverse p T (take n w))
      → IsTrue r ↔ Passes p n T q
  unfolding Passes
  passes_decides q w e divides r d =
      let same : take n w ≡ difference p T (n / q) = difference_front (n / q) w e in
      (λ f _. subst (HasInverse p T) same (d.if_true f), λ passes. true_of r (λ f. d.if_false f (subst (HasInverse p T) (sym same) (passes divides))))

pub passes_vacuous : (p n : ℕ) (t : List ℕ) (q : ℕ) → (n % q ≡ 0 → ⊥) → IsTrue true ↔ Passes p n t q
unfolding Passes
passes_vacuous p n t q other = (λ _ divides. absurd (other divides), λ _. refl)
