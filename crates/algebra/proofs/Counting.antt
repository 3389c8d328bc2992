-- Counting with lists. One idea: take out of ys an element that stands in it; what is left is shorter by one and has every other element.
-- So a list without repetition is no longer than a list that has all its elements, an injective map of a finite list into itself is onto,
-- and a product over a finite set does not depend on the order.
--   without ys a m   ys without its element a, which stands where m says
--   Chosen P xs      some elements of xs, each with P, none twice unless xs has it twice
--   Parted P xs      xs parted into the elements that satisfy P and those that do not
use mathlib.Core.Path.{◌≡◌, refl, sym, ap, ◌∙◌}
use mathlib.Core.List.{List, [], ◌∷◌, map, foldr}
use mathlib.Core.Logic.{◌⊎◌, inl, inr, ⊎_elim}
use Prim.Native.Nat.{suc, ◌+◌, ◌≤◌}
use native.Mathlib.Omega.{arith}
use lib.ListN.{length, length-map}
use Rattle.algebra.specs.Lists.{Member, Distinct, All}
use Rattle.algebra.proofs.Lists.{Within, member_equal, map_member, distinct_map}

module _ {A : Type 0} where
  -- ys without its element a, which stands where m says
  abbrev pub without : (ys : List A) (a : A) → Member a ys → List A
  without [] a x = elim x [ ]
  without (y ∷ ys) a (inl e) = ys
  without (y ∷ ys) a (inr m) = y ∷ without ys a m

  pub without-length : (ys : List A) (a : A) (m : Member a ys) → length ys ≡ suc (length (without ys a m))
  without-length [] a m = elim m [ ]
  without-length (y ∷ ys) a (inl e) = refl
  without-length (y ∷ ys) a (inr m) = ap suc (without-length ys a m)

  -- every other element is left
  pub without_keeps : (ys : List A) (a : A) (m : Member a ys) (b : A) → Member b ys → (b ≡ a) ⊎ Member b (without ys a m)
  without_keeps [] a m b _ = elim m [ ]
  without_keeps (y ∷ ys) a (inl e) b (inl f) = inl (f ∙ sym e)
  without_keeps (y ∷ ys) a (inl e) b (inr l) = inr l
  without_keeps (y ∷ ys) a (inr m) b (inl f) = inr (inl f)
  without_keeps (y ∷ ys) a (inr m) b (inr l) = ⊎_elim inl (λ k. inr (inr k)) (without_keeps ys a m b l)

  pub without_within : (ys : List A) (a : A) (m : Member a ys) → Within (without ys a m) ys
  without_within [] a m b l = elim m [ ]
  without_within (y ∷ ys) a (inl e) b l = inr l
  without_within (y ∷ ys) a (inr m) b (inl f) = inl f
  without_within (y ∷ ys) a (inr m) b (inr l) = inr (without_within ys a m b l)

  -- where nothing stands twice, nothing equal to a is left
  pub without_lacks : (ys : List A) (a : A) (m : Member a ys) → Distinct ys → Member a (without ys a m) → ⊥
  without_lacks [] a m d l = elim m [ ]
  without_lacks (y ∷ ys) a (inl e) d l = d.0 (member_equal ys e l)
  without_lacks (y ∷ ys) a (inr m) d (inl f) = d.0 (member_equal ys f m)
  without_lacks (y ∷ ys) a (inr m) d (inr l) = without_lacks ys a m d.1 l

  pub without_distinct : (ys : List A) (a : A) (m : Member a ys) → Distinct ys → Distinct (without ys a m)
  without_distinct [] a m d = elim m [ ]
  without_distinct (y ∷ ys) a (inl e) d = d.1
  without_distinct (y ∷ ys) a (inr m) d = (λ l. d.0 (without_within ys a m y l), without_distinct ys a m d.1)

  -- taking x and the rest of xs out of ys
  rest_within : (x : A) (xs ys : List A) (d : Distinct (x ∷ xs)) (h : Within (x ∷ xs) ys) → Within xs (without ys x (h x (inl refl)))
  rest_within x xs ys d h a m =
      ⊎_elim (λ e. absurd (d.0 (member_equal xs e m))) (λ l. l) (without_keeps ys x (h x (inl refl)) a (h a (inr m)))

  pub distinct_within_length : (xs ys : List A) → Distinct xs → Within xs ys → length xs ≤ length ys
  distinct_within_length [] ys d h = omega arith
  distinct_within_length (x ∷ xs) ys d h =
      let m : Member x ys = h x (inl refl) in
      omega (arith, without-length ys x m, distinct_within_length xs (without ys x m) d.1 (rest_within x xs ys d h))

  -- the value of a commutative and associative operation over a finite set does not depend on the order
  module _ (op : A → A → A) (e : A) (left_comm : (a b c : A) → op a (op b c) ≡ op b (op a c)) where
    pub fold_without : (ys : List A) (a : A) (m : Member a ys) → foldr op e ys ≡ op a (foldr op e (without ys a m))
    fold_without [] a m = elim m [ ]
    fold_without (y ∷ ys) a (inl f) = ap (λ (x : A). op x (foldr op e ys)) (sym f)
    fold_without (y ∷ ys) a (inr m) = ap (op y) (fold_without ys a m) ∙ left_comm y a (foldr op e (without ys a m))

    pub fold_same_members : (xs ys : List A) → Distinct xs → Distinct ys → Within xs ys → Within ys xs → foldr op e xs ≡ foldr op e ys
    fold_same_members [] [] d c h k = refl
    fold_same_members [] (y ∷ ys) d c h k = absurd (k y (inl refl))
    fold_same_members (x ∷ xs) ys d c h k =
        let m : Member x ys = h x (inl refl) in
        ap (op x) (fold_same_members xs (without ys x m) d.1 (without_distinct ys x m c) (rest_within x xs ys d h) (back m)) ∙ sym (fold_without ys x m)
      where
        back : (m : Member x ys) → Within (without ys x m) xs
        back m a l = ⊎_elim (λ f. absurd (without_lacks ys x m c (member_equal (without ys x m) f l))) (λ n. n) (k a (without_within ys x m a l))

  module _ (same : Discrete A) where
    pub member? : (a : A) (xs : List A) → Dec (Member a xs)
    member? a [] = no (λ m. m)
    member? a (x ∷ xs) = by_head (same a x) (member? a xs)
      where
        by_head : Dec (a ≡ x) → Dec (Member a xs) → Dec (Member a (x ∷ xs))
        by_head (yes e) t = yes (inl e)
        by_head (no n) (yes m) = yes (inr m)
        by_head (no n) (no k) = no (⊎_elim n k)

    -- as many elements as ys has, all of them in ys: all of ys
    pub distinct_within_all : (xs ys : List A) → Distinct xs → Within xs ys → length ys ≤ length xs → Within ys xs
    distinct_within_all xs ys d h long a m = by_member (member? a xs)
      where
        by_member : Dec (Member a xs) → Member a xs
        by_member (yes l) = l
        by_member (no n) =
            let k : length (a ∷ xs) ≤ length ys = distinct_within_length (a ∷ xs) ys (n, d) (λ b. ⊎_elim (λ e. member_equal ys (sym e) m) (h b)) in
            absurd (omega arith)

  pub record Chosen (P : A → Type 0) (xs : List A) : Type 0 where
    pub elements : List A
    pub each : All P elements
    pub within : Within elements xs
    pub distinct : Distinct xs → Distinct elements

  take_next : (P : A → Type 0) (x : A) (xs : List A) → P x → Chosen P xs → Chosen P (x ∷ xs)
  take_next P x xs h c =
      record {
        elements = x ∷ c.elements;
        each = (h, c.each);
        within = λ a. ⊎_elim inl (λ m. inr (c.within a m));
        distinct = λ d. (λ m. d.0 (c.within x m), c.distinct d.1);
      }

  skip_next : (P : A → Type 0) (x : A) (xs : List A) → Chosen P xs → Chosen P (x ∷ xs)
  skip_next P x xs c = record { elements = c.elements; each = c.each; within = λ a m. inr (c.within a m); distinct = λ d. c.distinct d.1 }

  pub record Parted (P : A → Type 0) (xs : List A) : Type 0 where
    pub passing : Chosen P xs
    pub failing : Chosen (λ a. P a → ⊥) xs
    pub lengths : length passing.elements + length failing.elements ≡ length xs

  pub chosen_none : (P : A → Type 0) (xs : List A) → Chosen P xs
  chosen_none P xs = record { elements = []; each = tt; within = λ a m. absurd m; distinct = λ d. tt }

  pub part : (P : A → Type 0) → ((a : A) → Dec (P a)) → (xs : List A) → Parted P xs
  unfolding chosen_none take_next skip_next
  part P test [] = record { passing = chosen_none P []; failing = chosen_none (λ a. P a → ⊥) []; lengths = omega arith }
  part P test (x ∷ xs) = by_test (test x) (part P test xs)
    where
      by_test : Dec (P x) → Parted P xs → Parted P (x ∷ xs)
      by_test (yes h) r =
          record { passing = take_next P x xs h r.passing; failing = skip_next (λ a. P a → ⊥) x xs r.failing; lengths = omega (arith, r.lengths) }
      by_test (no h) r =
          record { passing = skip_next P x xs r.passing; failing = take_next (λ a. P a → ⊥) x xs h r.failing; lengths = omega (arith, r.lengths) }

-- an injective map of a finite set into one that is not larger is onto
pub injective_fills : {A B : Type 0} → Discrete B → (f : A → B) (xs : List A) (ys : List B) → Distinct xs → ((a : A) → Member a xs → Member (f a) ys)
    → ((a b : A) → Member a xs → Member b xs → f a ≡ f b → a ≡ b) → length ys ≤ length xs → (b : B) → Member b ys → (a : A) × Member a xs × (b ≡ f a)
injective_fills same f xs ys d into inj small b m =
    map_member f xs b (distinct_within_all same (map f xs) ys (distinct_map f xs inj d) image_within (omega (arith, length-map xs f)) b m)
  where
    image_within : Within (map f xs) ys
    image_within c l = let (a, k, e) = map_member f xs c l in member_equal ys (sym e) (into a k)

-- an injective map of a finite set into itself is onto
pub injective_onto : {A : Type 0} → Discrete A → (f : A → A) (xs : List A) → Distinct xs → ((a : A) → Member a xs → Member (f a) xs)
    → ((a b : A) → Member a xs → Member b xs → f a ≡ f b → a ≡ b) → (b : A) → Member b xs → (a : A) × Member a xs × (b ≡ f a)
injective_onto same f xs d into inj = injective_fills same f xs xs d into inj (omega arith)
