-- Ascending lists of lists: `lower` is a strict order, and linear among lists of one length; parts of ascending lists are ascending; and two ascending lists with the
-- same elements are equal, so that a list in order is found by its elements alone.
use mathlib.Core.Path.{◌≡◌, refl, sym, ap, ap₂, subst, ◌∙◌}
use mathlib.Core.Bool.{Bool, true, false, ◌&&◌, ◌||◌, and-eq-true_iff, or-true, false≢true}
use mathlib.Core.List.{List, [], ◌∷◌, ◌++◌}
use mathlib.Core.Logic.{◌⊎◌, inl, inr, ⊎_elim}
use Prim.Native.Nat.{ℕ, ◌<◌}
use native.Mathlib.Nat.{lt_trans, lt_irrefl}
use native.Mathlib.Decide.{dec_lt}
use native.Mathlib.Omega.{arith}
use lib.Dec.{ltb}
use lib.ListN.{length}
use borrow.Author.Tests.{ltb-true, lt-ltb}
use Rattle.algebra.specs.Lists.{Member, Distinct, equal, filter}
use Rattle.algebra.proofs.Equality.{equal_of, of_equal}
use Rattle.algebra.proofs.Lists.{Within, all_member, member_all, member_equal, member_append}
use Rattle.algebra.proofs.Search.{filter_member}
use Rattle.array.specs.Ascending.{lower, Ascending}

abbrev Lower : List ℕ → List ℕ → Type 0
Lower u v = lower u v ≡ true

-- the order

or_cases : (a b : Bool) → (a || b) ≡ true → (a ≡ true) ⊎ (b ≡ true)
or_cases true b h = inl refl
or_cases false b h = inr h

lower_cases : (a b : ℕ) (u v : List ℕ) → Lower (a ∷ u) (b ∷ v) → Lower u v ⊎ ((u ≡ v) × (a < b))
unfolding lower
lower_cases a b u v h =
    ⊎_elim inl
    (λ k. let parts = (and-eq-true_iff (equal u v) (ltb a b)).0 k in inr (of_equal u v parts.0, ltb-true a b parts.1))
    (or_cases (lower u v) (equal u v && ltb a b) h)

-- by a higher power
pub lower_high : (a b : ℕ) (u v : List ℕ) → Lower u v → Lower (a ∷ u) (b ∷ v)
unfolding lower
lower_high a b u v h = ap (λ c. c || equal u v && ltb a b) h

-- by the constant
pub lower_constant : (a b : ℕ) (u v : List ℕ) → u ≡ v → a < b → Lower (a ∷ u) (b ∷ v)
unfolding lower
lower_constant a b u v e h = ap (λ c. lower u v || c) (ap₂ ◌&&◌ (equal_of e) (lt-ltb a b h)) ∙ or-true (lower u v)

pub lower_irreflexive : (u : List ℕ) → Lower u u → ⊥
unfolding lower
lower_irreflexive [] h = false≢true h
lower_irreflexive (a ∷ u) h = ⊎_elim (lower_irreflexive u) (λ k. lt_irrefl a k.1) (lower_cases a a u u h)

pub lower_transitive : (u v w : List ℕ) → Lower u v → Lower v w → Lower u w
unfolding lower
lower_transitive [] v w h k = absurd (false≢true h)
lower_transitive (a ∷ u) [] w h k = absurd (false≢true h)
lower_transitive (a ∷ u) (b ∷ v) [] h k = absurd (false≢true k)
lower_transitive (a ∷ u) (b ∷ v) (c ∷ w) h k =
    ⊎_elim
    (λ m. lower_high a c u w (⊎_elim (lower_transitive u v w m) (λ l. subst (Lower u) l.0 m) (lower_cases b c v w k)))
    (λ m. ⊎_elim (λ l. lower_high a c u w (subst (λ x. Lower x w) (sym m.0) l)) (λ l. lower_constant a c u w (m.0 ∙ l.0) (lt_trans m.1 l.1)) (lower_cases b c v w k))
    (lower_cases a b u v h)

pub lower_linear : (u v : List ℕ) → length u ≡ length v → Lower u v ⊎ ((u ≡ v) ⊎ Lower v u)
lower_linear [] [] e = inr (inl refl)
lower_linear [] (b ∷ v) e = absurd (omega arith)
lower_linear (a ∷ u) [] e = absurd (omega arith)
lower_linear (a ∷ u) (b ∷ v) e =
    ⊎_elim (λ h. inl (lower_high a b u v h)) (⊎_elim (by_constant (dec_lt a b) (dec_lt b a)) (λ h. inr (inr (lower_high b a v u h)))) (lower_linear u v (omega arith))
  where
    by_constant : Dec (a < b) → Dec (b < a) → u ≡ v → Lower (a ∷ u) (b ∷ v) ⊎ ((a ∷ u ≡ b ∷ v) ⊎ Lower (b ∷ v) (a ∷ u))
    by_constant (yes l) m f = inl (lower_constant a b u v f l)
    by_constant (no l) (yes m) f = inr (inr (lower_constant b a v u (sym f) m))
    by_constant (no l) (no m) f = let g : a ≡ b = omega arith in inr (inl (ap₂ ◌∷◌ g f))

-- ascending lists

pub ascending_distinct : (us : List (List ℕ)) → Ascending us → Distinct us
ascending_distinct [] h = tt
ascending_distinct (u ∷ us) h = (λ m. lower_irreflexive u (all_member (Lower u) us h.0 u m), ascending_distinct us h.1)

pub ascending_filter : (test : List ℕ → Bool) (us : List (List ℕ)) → Ascending us → Ascending (filter test us)
unfolding filter
ascending_filter test [] h = tt
ascending_filter test (u ∷ us) h = by_test (test u) (ascending_filter test us h.1)
  where
    by_test : (b : Bool) → Ascending (filter test us) → Ascending (elim b [ true ↦ u ∷ filter test us | false ↦ filter test us ])
    by_test true k = (member_all (Lower u) (filter test us) (λ a m. all_member (Lower u) us h.0 a (filter_member test us a m).0), k)
    by_test false k = k

pub ascending_append : (us vs : List (List ℕ)) → Ascending us → Ascending vs → ((u v : List ℕ) → Member u us → Member v vs → Lower u v) → Ascending (us ++ vs)
ascending_append [] vs h k below = k
ascending_append (u ∷ us) vs h k below = (
  member_all (Lower u) (us ++ vs) (λ a m. ⊎_elim (all_member (Lower u) us h.0 a) (below u a (inl refl)) (member_append us vs a m)),
  ascending_append us vs h.1 k (λ a b m. below a b (inr m)),
)

module _ (u v : List ℕ) (us vs : List (List ℕ)) (h : Ascending (u ∷ us)) where
  -- two ascending lists with the same elements: their first
  same_first : Ascending (v ∷ vs) → Member u (v ∷ vs) → Member v (u ∷ us) → u ≡ v
  same_first k (inl e) n = e
  same_first k (inr m) (inl e) = sym e
  same_first k (inr m) (inr n) =
      absurd (lower_irreflexive u (lower_transitive u v u (all_member (Lower u) us h.0 v n) (all_member (Lower v) vs k.0 u m)))

  -- and the elements after it
  rest_within : u ≡ v → Within (u ∷ us) (v ∷ vs) → Within us vs
  rest_within e within a m =
      ⊎_elim (λ f. absurd (lower_irreflexive u (all_member (Lower u) us h.0 u (member_equal us (f ∙ sym e) m)))) (λ l. l) (within a (inr m))

pub ascending_unique : (us vs : List (List ℕ)) → Ascending us → Ascending vs → Within us vs → Within vs us → us ≡ vs
ascending_unique [] [] h k f g = refl
ascending_unique [] (v ∷ vs) h k f g = absurd (g v (inl refl))
ascending_unique (u ∷ us) [] h k f g = absurd (f u (inl refl))
ascending_unique (u ∷ us) (v ∷ vs) h k f g =
    let e : u ≡ v = same_first u v us vs h k (f u (inl refl)) (g v (inl refl)) in
    ap₂ ◌∷◌ e (ascending_unique us vs h.1 k.1 (rest_within u v us vs h e f) (rest_within v u vs us k (sym e) g))
