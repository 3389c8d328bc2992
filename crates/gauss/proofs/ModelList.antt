-- The models of the degrees in a list, one degree after the other: none stands there twice, for models of different degrees have different lengths; a list
-- stands there exactly when it is a model of one of these degrees; and the degrees add up to the sum of m·N(m) in Gauss's formula.
--   list_of p ms   the models of each degree of ms
use mathlib.Core.Path.{◌≡◌, refl, sym, subst, ◌∙◌}
use mathlib.Core.Bool.{Bool, true, false}
use mathlib.Core.List.{List, [], ◌∷◌, ◌++◌}
use mathlib.Core.Logic.{inl, inr, ⊎_elim}
use Prim.Native.Nat.{ℕ, ◌+◌, ◌*◌, ◌≤◌}
use native.Mathlib.Omega.{arith}
use lib.ListN.{length}
use Rattle.algebra.specs.Lists.{Member, Distinct, filter}
use Rattle.algebra.proofs.Lists.{member_equal, member_append, member_append_left, member_append_right}
use Rattle.algebra.proofs.Search.{filter_member}
use Rattle.array.proofs.Ascending.{ascending_distinct}
use Rattle.array.proofs.Words.{words_length}
use Rattle.catalogue.specs.Catalogue.{models}
use Rattle.catalogue.proofs.Theorem.{every_model}
use Rattle.gauss.specs.Gauss.{degrees_of}
use Rattle.gauss.proofs.DegreeSum.{degree_sum}

pub distinct_filter : {A : Type 0} (test : A → Bool) (xs : List A) → Distinct xs → Distinct (filter test xs)
unfolding filter
distinct_filter test [] h = tt
distinct_filter {A} test (x ∷ xs) h = by_test (test x) (distinct_filter test xs h.1)
  where
    by_test : (b : Bool) → Distinct (filter test xs) → Distinct {A = A} (elim b [ true ↦ x ∷ filter test xs | false ↦ filter test xs ])
    by_test true k = (λ m. h.0 (filter_member test xs x m).0, k)
    by_test false k = k

distinct_append : {A : Type 0} (xs ys : List A) → Distinct xs → Distinct ys → ((a : A) → Member a xs → Member a ys → ⊥) → Distinct (xs ++ ys)
distinct_append [] ys d e apart = e
distinct_append (x ∷ xs) ys d e apart =
    (λ m. ⊎_elim d.0 (apart x (inl refl)) (member_append xs ys x m), distinct_append xs ys d.1 e (λ a m. apart a (inr m)))

degree_sum-append : (cs ds : List (List ℕ)) → degree_sum (cs ++ ds) ≡ degree_sum cs + degree_sum ds
unfolding degree_sum
degree_sum-append [] ds = omega arith
degree_sum-append (c ∷ cs) ds = omega (arith, degree_sum-append cs ds)

-- of polynomials of one degree
degree_sum_equal : (m : ℕ) (ds : List (List ℕ)) → ((d : List ℕ) → Member d ds → length d ≡ m) → degree_sum ds ≡ m * length ds
unfolding degree_sum
degree_sum_equal m [] h = omega arith
degree_sum_equal m (d ∷ ds) h = omega (arith, degree_sum_equal m ds (λ c l. h c (inr l)), h d (inl refl))

module _ (p : ℕ) where
  pub list_of : List ℕ → List (List ℕ)
  list_of [] = []
  list_of (m ∷ ms) = models p m ++ list_of ms

  pub list_member : (ms : List ℕ) (d : List ℕ) → Member d (list_of ms) → (m : ℕ) × Member m ms × Member d (models p m)
  unfolding list_of
  list_member [] d l = elim l [ ]
  list_member (m ∷ ms) d l =
      ⊎_elim (λ k. (m, inl refl, k)) (λ k. let (i, j, o) = list_member ms d k in (i, inr j, o)) (member_append (models p m) (list_of ms) d l)

  pub member_list : (ms : List ℕ) (d : List ℕ) (m : ℕ) → Member m ms → Member d (models p m) → Member d (list_of ms)
  unfolding list_of
  member_list [] d m x l = elim x [ ]
  member_list (i ∷ ms) d m (inl e) l = member_append_left (models p i) (list_of ms) d (subst (λ k. Member d (models p k)) e l)
  member_list (i ∷ ms) d m (inr k) l = member_append_right (models p i) (list_of ms) d (member_list ms d m k l)

  module _ (big : 2 ≤ p) where
    model_length : (m : ℕ) (d : List ℕ) → Member d (models p m) → length d ≡ m
    model_length m d l = words_length (((every_model p m big).1 d).0 l).0

    pub list_distinct : (ms : List ℕ) → Distinct ms → Distinct (list_of ms)
    unfolding list_of
    list_distinct [] h = tt
    list_distinct (m ∷ ms) h =
        distinct_append (models p m) (list_of ms) (ascending_distinct (models p m) (every_model p m big).0) (list_distinct ms h.1) apart
      where
        apart : (d : List ℕ) → Member d (models p m) → Member d (list_of ms) → ⊥
        apart d l k = let (i, j, o) = list_member ms d k in h.0 (member_equal ms (sym (model_length i d o) ∙ model_length m d l) j)

    pub list_degrees : (ms : List ℕ) → degrees_of p ms ≡ degree_sum (list_of ms)
    unfolding list_of degrees_of degree_sum
    list_degrees [] = refl
    list_degrees (m ∷ ms) =
        omega (arith, degree_sum-append (models p m) (list_of ms), degree_sum_equal m (models p m) (model_length m), list_degrees ms)
