-- The proofs of what specs/Theorem.antt states: the list of all lists of n words is ascending and complete, and the models are those of it that pass an exact test; and where the
-- number is 0 they stand in the output one after the other, n words each.
use mathlib.Core.Path.{◌≡◌, sym, ap, ◌∙◌}
use mathlib.Core.Bool.{Bool, not}
use mathlib.Core.List.{List, [], flatten}
use Prim.Native.Nat.{ℕ, ◌*◌, ◌≤◌, ◌<◌}
use borrow.Author.Tests.{not-true}
use lib.ListN.{length, get_or, take, drop}
use Rattle.algebra.specs.Lists.{Member}
use Rattle.algebra.proofs.Lists.{member_all}
use Rattle.algebra.proofs.Search.{filter_member, member_filter}
use Rattle.array.specs.Ascending.{Ascending}
use Rattle.array.specs.Words.{Words}
use Rattle.array.proofs.Ascending.{ascending_filter}
use Rattle.array.proofs.Words.{words_length}
use Rattle.quotient.specs.Divisor.{HasDivisor}
use Rattle.quotient.specs.DivisorTest.{has_divisor}
use Rattle.quotient.specs.Residue.{residues}
use Rattle.quotient.proofs.Decision.{irreducible_test, test_irreducible}
use Rattle.quotient.proofs.Listing.{residues_ascending, residues_complete, residues_sound}
use Rattle.refusal.specs.Refusal.{written}
use Rattle.catalogue.specs.Catalogue.{models, count_number, model_count, list_number, list_output}
use Rattle.catalogue.specs.Theorem.{EveryModel, CountIsListed}
use Rattle.catalogue.proofs.Answers.{count_is, list_accepts, accepted_length}
use Rattle.array.proofs.Flatten.{flatten_part}

module _ (p n : ℕ) where
  abbrev test : List ℕ → Bool
  test t = not (has_divisor p t)

  models_ascending : Ascending (models p n)
  unfolding models
  models_ascending = ascending_filter test (residues p n) (residues_ascending p n)

  model_words : (t : List ℕ) → Member t (models p n) → Words p n t
  unfolding models
  model_words t m = residues_sound p n t (filter_member test (residues p n) t m).0

  module _ (big : 2 ≤ p) (t : List ℕ) where
    model_has_none : Member t (models p n) → HasDivisor p t → ⊥
    unfolding models
    model_has_none m =
        test_irreducible big (model_words t m) (not-true (has_divisor p t) (filter_member test (residues p n) t m).1)

    model_listed : Words p n t → (HasDivisor p t → ⊥) → Member t (models p n)
    unfolding models
    model_listed w none = member_filter test (residues p n) t (residues_complete p n t w) (ap not (irreducible_test big w none))

pub every_model : EveryModel
every_model p n big = (
  models_ascending p n,
  λ t. (λ m. (model_words p n t m, model_has_none p n big t m), λ h. model_listed p n big t h.0 h.1),
)

module _ (p n : ℕ) (out : List ℕ) (h : count_number p n ≡ 0) where
  model_at : list_number p n out ≡ 0 → (k : ℕ) → k < length (models p n) → take n (drop (k * n) (list_output p n out)) ≡ get_or (models p n) k []
  unfolding list_output
  model_at z k l =
      ap (λ i. take n (drop (k * n) (written i (flatten (models p n)) out))) z
      ∙ flatten_part n (models p n) (member_all (λ t. length t ≡ n) (models p n) (λ t m. words_length (model_words p n t m))) k l

pub count_is_listed : CountIsListed
count_is_listed p n out h =
    let count : model_count p n ≡ length (models p n) = count_is p n h in
    record {
      count = count;
      accepted = (λ z. accepted_length p n out h z ∙ ap (λ k. n * k) (sym count), λ e. list_accepts p n out h (e ∙ ap (λ k. n * k) count));
      written = λ z k l. model_at p n out h z k (rw count at l);
    }
