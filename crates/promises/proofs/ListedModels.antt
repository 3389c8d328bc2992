-- The models of the catalogue and the other calls: a list is a model exactly when it has no proper divisor, and that is what 6 and 7 ask.
use mathlib.Core.Path.{◌≡◌, ◌∙◌}
use mathlib.Core.Bool.{Bool, false, not}
use mathlib.Core.List.{List, [], ◌∷◌}
use Prim.Native.Nat.{ℕ, ◌≤◌, ◌<◌}
use native.Mathlib.Omega.{arith}
use borrow.Author.Tests.{not-true}
use Rattle.algebra.specs.Lists.{Member}
use Rattle.algebra.proofs.Search.{filter_member}
use Rattle.catalogue.specs.Catalogue.{models, count_number}
use Rattle.catalogue.proofs.Theorem as Catalogue
use Rattle.finder.specs.Finder.{findable, find_number}
use Rattle.finder.proofs.Findable.{find_models, findable-true}
use Rattle.irreducible.proofs.Theorem as Irreducible
use Rattle.quotient.specs.DivisorTest.{has_divisor}
use Rattle.quotient.specs.Residue.{residues}
use Rattle.refusal.specs.Models.{Model, Models}
use Rattle.refusal.specs.Refusal.{refuse, bad_prime, bad_degree, bad_length, bad_word}
use Rattle.refusal.proofs.Order.{refuse_other, refuse_none, prime_given, degree_given}
use Rattle.promises.specs.ListedModels.{ListedIsIrreducible, FinderTakesListed}

-- what the number 0 leaves
module _ (p n : ℕ) (h : count_number p n ≡ 0) where
  conditions : (bad_prime p ≡ false) × (bad_degree n ≡ false)
  unfolding count_number
  conditions =
      let (prime, after) = refuse_none 0 (bad_prime p) _ h in
      (prime, (refuse_none 1 (bad_degree n) _ after).0)

  big : 2 ≤ p
  big = (prime_given p conditions.0).0.0

  model : (t : List ℕ) → Member t (models p n) → Model p n t
  model t m =
      let (prime, small) = prime_given p conditions.0 in
      record { prime = prime; small = small; degree = degree_given n conditions.1; modulus = (((Catalogue.every_model p n big).1 t).0 m).0 }

pub listed_is_irreducible : ListedIsIrreducible
listed_is_irreducible p n t h = (
  λ m. (Irreducible.irreducible_theorem p n t).1 (model p n h t m) (((Catalogue.every_model p n (big p n h)).1 t).0 m).1,
  λ e.
      let (is_model, none, _) = (Irreducible.irreducible_theorem p n t).0 e in
      ((Catalogue.every_model p n (big p n h)).1 t).1 (is_model.modulus, none),
)

-- the test behind 6 and 7 fails on a model
no_divisor : (p n : ℕ) (t : List ℕ) → Member t (models p n) → has_divisor p t ≡ false
unfolding models
no_divisor p n t m = not-true (has_divisor p t) (filter_member (λ u. not (has_divisor p u)) (residues p n) t m).1

-- a number above 5 comes from what is behind 5
above_five : (a b c d e : Bool) (rest j : ℕ) → 5 < j → refuse 1 a (refuse 2 b (refuse 3 c (refuse 4 d (refuse 5 e rest)))) ≡ j → rest ≡ j
above_five a b c d e rest j high h =
    let h1 = (refuse_other j 1 a _ (λ q. omega arith) h).1 in
    let h2 = (refuse_other j 2 b _ (λ q. omega arith) h1).1 in
    let h3 = (refuse_other j 3 c _ (λ q. omega arith) h2).1 in
    let h4 = (refuse_other j 4 d _ (λ q. omega arith) h3).1 in
    (refuse_other j 5 e rest (λ q. omega arith) h4).1

pub finder_takes_listed : FinderTakesListed
unfolding find_number
finder_takes_listed p n t m =
    record {
      first = λ t2 lent_s lent_r h.
          let behind : refuse 6 false (refuse 7 (has_divisor p t2) 0) ≡ 6
          = above_five (bad_prime p) (bad_degree n) (bad_length n (t ∷ t2 ∷ lent_s ∷ lent_r ∷ [])) (bad_word p (t ∷ t2 ∷ [])) (not (findable p n)) _ 6 (omega arith) (rw (no_divisor p n t m) at h) in
          omega (arith, (refuse_other 6 7 (has_divisor p t2) 0 (λ q. omega arith) behind).1);
      second = λ t1 lent_s lent_r h.
          let behind : refuse 6 (has_divisor p t1) (refuse 7 false 0) ≡ 7
          = above_five (bad_prime p) (bad_degree n) (bad_length n (t1 ∷ t ∷ lent_s ∷ lent_r ∷ [])) (bad_word p (t1 ∷ t ∷ [])) (not (findable p n)) _ 7 (omega arith) (rw (no_divisor p n t m) at h) in
          omega (arith, (refuse_other 7 6 (has_divisor p t1) 0 (λ q. omega arith) behind).1);
      both = λ t2 lent_s lent_r h m2 e f size.
          let first : Model p n t = model p n h t m in
          let second : Model p n t2 = model p n h t2 m2 in
          let both : Models p n t t2 = record { prime = first.prime; small = first.small; degree = first.degree; modulus1 = first.modulus; modulus2 = second.modulus } in
          find_models p n t t2 both lent_s lent_r e f ∙ rw (findable-true p n (big p n h) size, no_divisor p n t m, no_divisor p n t2 m2);
    }
