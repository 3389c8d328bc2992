-- If the powers 1, s, …, s^(n − 1) modulo T are independent, exactly one P of degree below n has P(s) = X modulo T, and the search finds it:
-- P ↦ P(s) is an injective map of the p^n residues into themselves, hence onto.
use mathlib.Core.Path.{◌≡◌, sym, ◌∙◌, subst}
use mathlib.Core.List.{List}
use Prim.Native.Nat.{ℕ, ◌≤◌}
use lib.ListN.{length}
use Rattle.algebra.specs.Lists.{equal}
use Rattle.algebra.proofs.Equality.{equal_of, of_equal}
use Rattle.algebra.proofs.Search.{first_unique}
use Rattle.array.specs.Words.{Words}
use Rattle.quotient.specs.Residue.{residues, constant, residue_of_x, substitute, first_residue}
use Rattle.quotient.proofs.Listing.{residues_complete, residues_sound, one_to_one_onto}
use Rattle.quotient.proofs.Operations.{substitute_words, residue_of_x_words}
use Rattle.array.proofs.Words.{to_length, of_length}
use Rattle.galois.specs.Express.{express, Independent}

module _ {p n : ℕ} {t s : List ℕ} (big : 2 ≤ p) (wt : Words p n t) (ws : Words p n s) (independent : Independent p n t s) where
  expression : (f : List ℕ) × Words p n f × (substitute p t s f ≡ residue_of_x p t)
  expression =
      one_to_one_onto p n (substitute p t s) (λ u wu. substitute_words big wt ws wu) independent (residue_of_x p t) (residue_of_x_words big wt)

  -- whatever has the value X at s is found
  pub express_unique : (f : List ℕ) → Words p n f → substitute p t s f ≡ residue_of_x p t → express p t s ≡ f
  unfolding express first_residue
  express_unique f w e =
      first_unique (λ g. equal (substitute p t s g) (residue_of_x p t)) (constant (length t) 0) (residues p (length t)) f
      (residues_complete p (length t) f (to_length wt w)) (equal_of e)
      (λ g m h. independent g f (of_length wt (residues_sound p (length t) g m)) w (of_equal _ _ h ∙ sym e))

  pub express_is : Words p n (express p t s) × (substitute p t s (express p t s) ≡ residue_of_x p t)
  express_is =
      let (f, w, e) = expression in
      subst (λ g. Words p n g × (substitute p t s g ≡ residue_of_x p t)) (sym (express_unique f w e)) (w, e)
