-- The list of all residues has each of them, in ascending order, so that none stands there twice, p^n in all: induction on n, since the lists of n + 1 words are
-- those of n words, each behind each of the words 0, …, p − 1.
use mathlib.Core.Path.{◌≡◌, refl, sym, ◌∙◌, ap, ap₂, subst}
use mathlib.Core.Bool.{true}
use mathlib.Core.List.{List, [], ◌∷◌, map, List-discrete}
use mathlib.Core.Logic.{inl, inr, ⊎_elim}
use Prim.Native.Nat.{ℕ, zero, suc, ◌+◌, ◌*◌, ◌^◌}
use native.Mathlib.Decide.{ℕ_discrete}
use native.Mathlib.Nat.{pow-zero, pow-succ'}
use native.Mathlib.Omega.{arith}
use lib.ListN.{length, length-append, length-map}
use Rattle.algebra.specs.Lists.{Member, Distinct, range}
use Rattle.algebra.proofs.Counting.{injective_onto}
use Rattle.algebra.proofs.Lists.{all_map, all_member, member_all, member_equal, member_append_left, member_append_right, member_append, member_map, map_member}
use Rattle.algebra.proofs.Search.{range_length, range_bounds, range_member}
use Rattle.array.specs.Ascending.{lower, Ascending}
use Rattle.array.proofs.Ascending.{lower_high, lower_constant, ascending_append, ascending_distinct}
use Rattle.array.specs.Words.{Words, none, more}
use Rattle.quotient.specs.Residue.{Residue, residues, prefixed}
use Rattle.quotient.proofs.Operations.{residue_path}

prefixed_complete : (words : List ℕ) (us : List (List ℕ)) (a : ℕ) (u : List ℕ) → Member a words → Member u us → Member (a ∷ u) (prefixed words us)
unfolding prefixed
prefixed_complete words [] a u m x = elim x [ ]
prefixed_complete words (v ∷ us) a u m (inl e) =
    let before = map (λ b. b ∷ v) words in
    member_append_left before (prefixed words us) (a ∷ u) (member_equal before (ap (λ x. a ∷ x) (sym e)) (member_map (λ b. b ∷ v) words a m))
prefixed_complete words (v ∷ us) a u m (inr h) =
    member_append_right (map (λ b. b ∷ v) words) (prefixed words us) (a ∷ u) (prefixed_complete words us a u m h)

prefixed_sound : (words : List ℕ) (us : List (List ℕ)) (v : List ℕ) → Member v (prefixed words us)
    → (a : ℕ) × (u : List ℕ) × Member a words × Member u us × (v ≡ a ∷ u)
unfolding prefixed
prefixed_sound words [] v h = elim h [ ]
prefixed_sound words (w ∷ us) v h =
    ⊎_elim
    (λ m. let (a, l, e) = map_member (λ b. b ∷ w) words v m in (a, w, l, inl refl, e))
    (λ m. let (a, u, k, l, e) = prefixed_sound words us v m in (a, u, k, inr l, e))
    (member_append (map (λ b. b ∷ w) words) (prefixed words us) v h)

prefixed-length : (words : List ℕ) (us : List (List ℕ)) → length (prefixed words us) ≡ length words * length us
unfolding prefixed
prefixed-length words [] = omega arith
prefixed-length words (u ∷ us) =
    length-append (map (λ a. a ∷ u) words) (prefixed words us) ∙ ap₂ ◌+◌ (length-map words (λ a. a ∷ u)) (prefixed-length words us) ∙ omega arith

-- the words 0, …, p − 1 before one list
range_ascending : (a k : ℕ) (u : List ℕ) → Ascending (map (λ b. b ∷ u) (range a k))
unfolding range
range_ascending a zero u = tt
range_ascending a (suc k) u = (
  all_map (λ b. b ∷ u) (λ v. lower (a ∷ u) v ≡ true) (range (suc a) k)
      (member_all (λ b. lower (a ∷ u) (b ∷ u) ≡ true) (range (suc a) k) (λ b m. lower_constant a b u u refl (range_bounds (suc a) k b m).0)),
  range_ascending (suc a) k u,
)

prefixed_ascending : (k : ℕ) (us : List (List ℕ)) → Ascending us → Ascending (prefixed (range 0 k) us)
unfolding prefixed
prefixed_ascending k [] h = tt
prefixed_ascending k (u ∷ us) h =
    ascending_append (map (λ a. a ∷ u) (range 0 k)) (prefixed (range 0 k) us) (range_ascending 0 k u) (prefixed_ascending k us h.1) by_tail
  where
    by_tail : (v w : List ℕ) → Member v (map (λ a. a ∷ u) (range 0 k)) → Member w (prefixed (range 0 k) us) → lower v w ≡ true
    by_tail v w m l =
        let (a, i, e) = map_member (λ a. a ∷ u) (range 0 k) v m in
        let (b, x, j, o, f) = prefixed_sound (range 0 k) us w l in
        ap₂ lower e f ∙ lower_high a b u x (all_member (λ y. lower u y ≡ true) us h.0 x o)

pub residues_complete : (p n : ℕ) (u : List ℕ) → Words p n u → Member u (residues p n)
unfolding residues
residues_complete p (suc n) [] x = elim x [ ]
residues_complete p zero (a ∷ u) x = elim x [ ]
residues_complete p zero [] none = inl refl
residues_complete p (suc n) (a ∷ u) (more h w) =
    prefixed_complete (range 0 p) (residues p n) a u (range_member 0 p a (omega arith) (omega arith)) (residues_complete p n u w)

pub residues_sound : (p n : ℕ) (u : List ℕ) → Member u (residues p n) → Words p n u
unfolding residues
residues_sound p zero u (inr x) = elim x [ ]
residues_sound p zero u (inl e) = subst (Words p 0) (sym e) none
residues_sound p (suc n) u h =
    let (a, v, k, l, e) = prefixed_sound (range 0 p) (residues p n) u h in
    let b = range_bounds 0 p a k in
    subst (Words p (suc n)) (sym e) (more (omega arith) (residues_sound p n v l))

pub residues_ascending : (p n : ℕ) → Ascending (residues p n)
unfolding residues
residues_ascending p zero = (tt, tt)
residues_ascending p (suc n) = prefixed_ascending p (residues p n) (residues_ascending p n)

pub residues_distinct : (p n : ℕ) → Distinct (residues p n)
residues_distinct p n = ascending_distinct (residues p n) (residues_ascending p n)

pub residues-length : (p n : ℕ) → length (residues p n) ≡ p ^ n
unfolding residues
residues-length p zero = sym (pow-zero p)
residues-length p (suc n) = prefixed-length (range 0 p) (residues p n) ∙ ap₂ ◌*◌ (range_length 0 p) (residues-length p n) ∙ sym (pow-succ' p n)

-- a one-to-one map of the residues into themselves is onto
pub one_to_one_onto : (p n : ℕ) (f : List ℕ → List ℕ) → ((u : List ℕ) → Words p n u → Words p n (f u))
    → ((u v : List ℕ) → Words p n u → Words p n v → f u ≡ f v → u ≡ v) → (v : List ℕ) → Words p n v → (u : List ℕ) × Words p n u × (f u ≡ v)
one_to_one_onto p n f closed injective v wv =
    let (u, m, e) = injective_onto (List-discrete ℕ_discrete) f (residues p n) (residues_distinct p n)
    (λ a m. residues_complete p n (f a) (closed a (residues_sound p n a m)))
    (λ a b k m e. injective a b (residues_sound p n a k) (residues_sound p n b m) e)
    v (residues_complete p n v wv) in
    (u, residues_sound p n u m, sym e)

-- the same list with the proofs that its elements are residues
module _ {p n : ℕ} where
  attach : (us : List (List ℕ)) → ((u : List ℕ) → Member u us → Words p n u) → List (Residue p n)
  attach [] h = []
  attach (u ∷ us) h = (u, h u (inl refl)) ∷ attach us (λ v m. h v (inr m))

  attach-length : (us : List (List ℕ)) (h : (u : List ℕ) → Member u us → Words p n u) → length (attach us h) ≡ length us
  unfolding attach
  attach-length [] h = refl
  attach-length (u ∷ us) h = ap suc (attach-length us (λ v m. h v (inr m)))

  attach_complete : (us : List (List ℕ)) (h : (u : List ℕ) → Member u us → Words p n u) (v : Residue p n) → Member v.0 us → Member v (attach us h)
  unfolding attach
  attach_complete [] h v x = elim x [ ]
  attach_complete (u ∷ us) h v (inl e) = inl (residue_path e)
  attach_complete (u ∷ us) h v (inr m) = inr (attach_complete us (λ w k. h w (inr k)) v m)

  attach_sound : (us : List (List ℕ)) (h : (u : List ℕ) → Member u us → Words p n u) (v : Residue p n) → Member v (attach us h) → Member v.0 us
  unfolding attach
  attach_sound [] h v x = elim x [ ]
  attach_sound (u ∷ us) h v (inl e) = inl (ap (λ w. w.0) e)
  attach_sound (u ∷ us) h v (inr m) = inr (attach_sound us (λ w k. h w (inr k)) v m)

  attach_distinct : (us : List (List ℕ)) (h : (u : List ℕ) → Member u us → Words p n u) → Distinct us → Distinct (attach us h)
  unfolding attach
  attach_distinct [] h d = tt
  attach_distinct (u ∷ us) h d =
      (λ m. d.0 (attach_sound us (λ w k. h w (inr k)) (u, h u (inl refl)) m), attach_distinct us (λ w k. h w (inr k)) d.1)

pub all_residues : (p n : ℕ) → List (Residue p n)
all_residues p n = attach (residues p n) (residues_sound p n)

pub all_residues_complete : (p n : ℕ) (u : Residue p n) → Member u (all_residues p n)
unfolding all_residues
all_residues_complete p n u = attach_complete (residues p n) (residues_sound p n) u (residues_complete p n u.0 u.1)

pub all_residues_distinct : (p n : ℕ) → Distinct (all_residues p n)
unfolding all_residues
all_residues_distinct p n = attach_distinct (residues p n) (residues_sound p n) (residues_distinct p n)

pub all_residues-length : (p n : ℕ) → length (all_residues p n) ≡ p ^ n
unfolding all_residues
all_residues-length p n = attach-length (residues p n) (residues_sound p n) ∙ residues-length p n
