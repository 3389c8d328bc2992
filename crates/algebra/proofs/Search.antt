-- Laws of search in a list: a test of every element, the first element that passes a test, and both over a range of numbers.
-- What is found passes the test if any element does; whatever alone passes it is found; in a range the smallest that passes is found.
--   Found test xs y   y stands in xs and passes the test
use mathlib.Core.Path.{◌≡◌, refl, sym, ap, ap₂, ◌∙◌}
use mathlib.Core.Bool.{Bool, true, false, true≢false, false≢true}
use mathlib.Core.List.{List, [], ◌∷◌, ◌++◌}
use mathlib.Core.Logic.{inl, inr, ⊎_elim}
use Prim.Native.Nat.{ℕ, zero, suc, ◌+◌, ◌≤◌, ◌<◌}
use native.Mathlib.Nat.{zero-add, add-zero, suc-add, add-suc, eq-or-lt_of_le}
use native.Mathlib.Omega.{arith}
use lib.ListN.{length}
use Rattle.algebra.specs.Lists.{Member, Distinct, all, range, first, filter}

pub range-suc : (a k : ℕ) → range a (suc k) ≡ a ∷ range (suc a) k
unfolding range
range-suc a k = refl

pub range_length : (a k : ℕ) → length (range a k) ≡ k
unfolding range
range_length a zero = refl
range_length a (suc k) = ap suc (range_length (suc a) k)

pub range-append : (a j k : ℕ) → range a (j + k) ≡ range a j ++ range (a + j) k
unfolding range
range-append a zero k = ap₂ range (sym (add-zero a)) (zero-add k)
range-append a (suc j) k =
    ap (range a) (suc-add j k) ∙ ap (λ l. a ∷ l) (range-append (suc a) j k ∙ ap (λ x. range (suc a) j ++ range x k) (suc-add a j ∙ sym (add-suc a j)))

pub range_bounds : (a k x : ℕ) → Member x (range a k) → (a ≤ x) × (x < a + k)
unfolding range
range_bounds a zero x m = elim m [ ]
range_bounds a (suc k) x (inl e) = omega arith
range_bounds a (suc k) x (inr m) = omega (arith, range_bounds (suc a) k x m)

pub range_member : (a k x : ℕ) → a ≤ x → x < a + k → Member x (range a k)
unfolding range
range_member a zero x low high = absurd (omega arith)
range_member a (suc k) x low high = ⊎_elim (λ e. inl (sym e)) (λ l. inr (range_member (suc a) k x l (omega arith))) (eq-or-lt_of_le low)

pub range_distinct : (a k : ℕ) → Distinct (range a k)
unfolding range
range_distinct a zero = tt
range_distinct a (suc k) = (λ m. omega (arith, range_bounds (suc a) k a m), range_distinct (suc a) k)

module _ {A : Type 0} (test : A → Bool) where
  all_nil : all test [] ≡ true
  unfolding all
  all_nil = refl

  all_pass : (x : A) (xs : List A) → test x ≡ true → all test (x ∷ xs) ≡ all test xs
  unfolding all
  all_pass x xs e = rw e

  all_fail_lem : (x : A) (xs : List A) → test x ≡ false → all test (x ∷ xs) ≡ false
  unfolding all
  all_fail_lem x xs e = rw e

  pub member_of_all : (xs : List A) → all test xs ≡ true → (x : A) → Member x xs → test x ≡ true
  member_of_all [] h x m = elim m [ ]
  member_of_all (y ∷ ys) h x m = by_head (test y) refl (member_of_all ys)
    where
      by_head : (b : Bool) → test y ≡ b → (all test ys ≡ true → (x : A) → Member x ys → test x ≡ true) → test x ≡ true
      by_head true e rest = ⊎_elim (λ f. ap test f ∙ e) (rest (sym (all_pass y ys e) ∙ h) x) m
      by_head false e rest = absurd (false≢true (sym (all_fail_lem y ys e) ∙ h))

  pub all_of_members : (xs : List A) → ((x : A) → Member x xs → test x ≡ true) → all test xs ≡ true
  all_of_members [] h = all_nil
  all_of_members (x ∷ xs) h = all_pass x xs (h x (inl refl)) ∙ all_of_members xs (λ y m. h y (inr m))

  abbrev pub Found : List A → A → Type 0
  Found xs y = Member y xs × (test y ≡ true)

  -- what a filter keeps

  filter_pass : (x : A) (xs : List A) → test x ≡ true → filter test (x ∷ xs) ≡ x ∷ filter test xs
  unfolding filter
  filter_pass x xs e = rw (e, filter)

  filter_fail : (x : A) (xs : List A) → test x ≡ false → filter test (x ∷ xs) ≡ filter test xs
  unfolding filter
  filter_fail x xs e = rw (e, filter)

  pub filter_member : (xs : List A) (y : A) → Member y (filter test xs) → Found xs y
  unfolding filter
  filter_member [] y m = elim m [ ]
  filter_member (x ∷ xs) y m = by_head (test x) refl (filter_member xs y)
    where
      by_head : (b : Bool) → test x ≡ b → (Member y (filter test xs) → Found xs y) → Found (x ∷ xs) y
      by_head true e rest =
          ⊎_elim (λ f. (inl f, ap test f ∙ e)) (λ l. (inr (rest l).0, (rest l).1)) (rw (filter_pass x xs e) at m)
      by_head false e rest = let l : Found xs y = rest (rw (filter_fail x xs e) at m) in (inr l.0, l.1)

  pub member_filter : (xs : List A) (y : A) → Member y xs → test y ≡ true → Member y (filter test xs)
  member_filter [] y m h = elim m [ ]
  member_filter (x ∷ xs) y m h = by_head (test x) refl (λ l. member_filter xs y l h)
    where
      by_head : (b : Bool) → test x ≡ b → (Member y xs → Member y (filter test xs)) → Member y (filter test (x ∷ xs))
      by_head true e rest = rw (filter_pass x xs e) (⊎_elim inl (λ l. inr (rest l)) m)
      by_head false e rest = rw (filter_fail x xs e) (⊎_elim (λ f. absurd (true≢false (sym h ∙ ap test f ∙ e))) rest m)

  module _ (d : A) where
    pub first_pass : (x : A) (xs : List A) → test x ≡ true → first test d (x ∷ xs) ≡ x
    unfolding first
    first_pass x xs e = rw (e, first)

    pub first_fail : (x : A) (xs : List A) → test x ≡ false → first test d (x ∷ xs) ≡ first test d xs
    unfolding first
    first_fail x xs e = rw (e, first)

    -- the default, where no element passes
    pub first_default : (xs : List A) → ((x : A) → Member x xs → test x ≡ false) → first test d xs ≡ d
    unfolding first
    first_default [] h = refl
    first_default (x ∷ xs) h = first_fail x xs (h x (inl refl)) ∙ first_default xs (λ y m. h y (inr m))

    pub first_found : (xs : List A) (x : A) → Member x xs → test x ≡ true → Found xs (first test d xs)
    first_found [] x m h = elim m [ ]
    first_found (y ∷ ys) x m h = by_head (test y) refl (first_found ys x)
      where
        by_head : (b : Bool) → test y ≡ b → (Member x ys → test x ≡ true → Found ys (first test d ys)) → Found (y ∷ ys) (first test d (y ∷ ys))
        by_head true e rest = rw (first_pass y ys e) (inl refl, e)
        by_head false e rest =
            ⊎_elim (λ f. absurd (true≢false (sym h ∙ ap test f ∙ e))) (λ l. let f : Found ys (first test d (y ∷ ys)) = rw (first_fail y ys e) (rest l h) in (inr f.0, f.1)) m

    pub first_unique : (xs : List A) (x : A) → Member x xs → test x ≡ true → ((y : A) → Member y xs → test y ≡ true → y ≡ x) → first test d xs ≡ x
    first_unique xs x m h only = let f : Found xs (first test d xs) = first_found xs x m h in only (first test d xs) f.0 f.1

-- the smallest number of the range that passes
pub first_smallest : (test : ℕ → Bool) (d a k x : ℕ) → a ≤ x → x < a + k → test x ≡ true → first test d (range a k) ≤ x
first_smallest test d a zero x low high h = absurd (omega arith)
first_smallest test d a (suc k) x low high h = by_head (test a) refl (first_smallest test d (suc a) k x)
  where
    by_head : (b : Bool) → test a ≡ b → (suc a ≤ x → x < suc a + k → test x ≡ true → first test d (range (suc a) k) ≤ x) → first test d (range a (suc k)) ≤ x
    by_head true e rest = rw (range-suc a k, first_pass test d a (range (suc a) k) e) low
    by_head false e rest =
        rw (range-suc a k, first_fail test d a (range (suc a) k) e)
        (⊎_elim (λ f. absurd (true≢false (sym h ∙ ap test (sym f) ∙ e))) (λ l. rest l (omega arith) h) (eq-or-lt_of_le low))
