-- Finite subrings, given by lists of their elements. The p constants form one. If xs is one and y^d is a polynomial of degree below d in y with coefficients
-- from xs, then all such polynomials form one: multiplied by y, the top coefficient s of such a polynomial brings in s·y^d, which is such a polynomial again,
-- and products follow by Horner's rule. In particular so it is where y^p = y + a with a in xs.
--   Subring R xs        0, 1, sums and products of elements of xs stand in xs
--   constants R p       the constants 0, …, p − 1
--   combined f xs ys    all f x y for x in xs and y in ys
--   extended R xs y d   all c0 + y·(c1 + y·(…)) with d coefficients from xs
use mathlib.Core.Path.{◌≡◌, refl, sym, ap, ap₂, ◌∙◌}
use mathlib.Core.List.{List, [], ◌∷◌, ◌++◌, map}
use mathlib.Core.Logic.{inl, inr, ⊎_elim}
use Prim.Native.Nat.{ℕ, zero, suc, ◌+◌, ◌*◌, ◌%◌, ◌^◌, ◌≤◌, ◌<◌}
use native.Mathlib.Nat.{mod-lt, pow-zero, pow-succ'}
use native.Mathlib.Omega.{arith}
use lib.ListN.{length, length-append, length-map}
use Rattle.algebra.specs.Lists.{Member, range}
use Rattle.algebra.specs.Ring.{CommutativeRing, numeral, power}
use Rattle.algebra.proofs.Frobenius.{numeral-mod}
use Rattle.algebra.proofs.Lists.{Within, member_equal, member_append_left, member_append_right, member_append, member_map, map_member}
use Rattle.algebra.proofs.RingLaws.{add-zero, zero-add, zero-mul, mul-zero, mul-one, numeral-zero, numeral-one, numeral-suc, numeral-add, numeral-mul, power_zero, power-suc, ring_laws}
use Rattle.algebra.proofs.Search.{range_length, range_member}

pub record Subring {A : Type 0} (R : CommutativeRing A) (xs : List A) : Type 0 where
  pub zero_in : Member R.zero xs
  pub one_in : Member R.one xs
  pub add_in : (a b : A) → Member a xs → Member b xs → Member (R.add a b) xs
  pub mul_in : (a b : A) → Member a xs → Member b xs → Member (R.mul a b) xs

module _ {A : Type 0} {R : CommutativeRing A} {xs : List A} (subring : Subring R xs) where
  pub numeral_in : (c : ℕ) → Member (numeral R c) xs
  numeral_in zero = member_equal xs (sym (numeral-zero R)) subring.zero_in
  numeral_in (suc c) = member_equal xs (sym (numeral-suc R c)) (subring.add_in R.one (numeral R c) subring.one_in (numeral_in c))

  pub power_in : (a : A) → Member a xs → (k : ℕ) → Member (power R a k) xs
  power_in a m zero = member_equal xs (sym (power_zero R a)) subring.one_in
  power_in a m (suc k) = member_equal xs (sym (power-suc R a k)) (subring.mul_in a (power R a k) m (power_in a m k))

abbrev pub constants : {A : Type 0} → CommutativeRing A → ℕ → List A
constants R p = map (numeral R) (range 0 p)

module _ {A : Type 0} (R : CommutativeRing A) (p : ℕ) where
  pub constants-length : length (constants R p) ≡ p
  constants-length = length-map (range 0 p) (numeral R) ∙ range_length 0 p

  module _ (big : 2 ≤ p) (characteristic : numeral R p ≡ R.zero) where
    constant_in : (m : ℕ) {a : A} → numeral R m ≡ a → Member a (constants R p)
    constant_in m e =
        let below : 0 < p = omega arith in
        member_equal (constants R p) (numeral-mod R p m characteristic ∙ e)
        (member_map (numeral R) (range 0 p) (m % p) (range_member 0 p (m % p) (omega arith) (omega (arith, mod-lt m below))))

    constants_closed : (op : A → A → A) (on : ℕ → ℕ → ℕ) → ((i j : ℕ) → numeral R (on i j) ≡ op (numeral R i) (numeral R j))
        → (a b : A) → Member a (constants R p) → Member b (constants R p) → Member (op a b) (constants R p)
    constants_closed op on h a b l m =
        let (i, _, e) = map_member (numeral R) (range 0 p) a l in
        let (j, _, f) = map_member (numeral R) (range 0 p) b m in
        constant_in (on i j) (h i j ∙ ap₂ op (sym e) (sym f))

    pub constants_subring : Subring R (constants R p)
    constants_subring =
        record {
          zero_in = constant_in 0 (numeral-zero R);
          one_in = constant_in 1 (numeral-one R);
          add_in = constants_closed R.add ◌+◌ (numeral-add R);
          mul_in = constants_closed R.mul ◌*◌ (numeral-mul R);
        }

module _ {A B C : Type 0} (f : A → B → C) where
  unfoldable combined : List A → List B → List C
  combined [] ys = []
  combined (x ∷ xs) ys = map (f x) ys ++ combined xs ys

  member_combined : (xs : List A) (ys : List B) (a : A) (b : B) → Member a xs → Member b ys → Member (f a b) (combined xs ys)
  unfolding combined
  member_combined [] ys a b x m = elim x [ ]
  member_combined (x ∷ xs) ys a b (inl e) m =
      member_append_left (map (f x) ys) (combined xs ys) (f a b)
      (member_equal (map (f x) ys) (ap (λ z. f z b) (sym e)) (member_map (f x) ys b m))
  member_combined (x ∷ xs) ys a b (inr l) m = member_append_right (map (f x) ys) (combined xs ys) (f a b) (member_combined xs ys a b l m)

  combined_member : (xs : List A) (ys : List B) (c : C) → Member c (combined xs ys) → (a : A) × (b : B) × Member a xs × Member b ys × (c ≡ f a b)
  unfolding combined
  combined_member [] ys c h = elim h [ ]
  combined_member (x ∷ xs) ys c h =
      ⊎_elim
      (λ m. let (b, l, e) = map_member (f x) ys c m in (x, b, inl refl, l, e))
      (λ m. let (a, b, k, l, e) = combined_member xs ys c m in (a, b, inr k, l, e))
      (member_append (map (f x) ys) (combined xs ys) c h)

  combined-length : (xs : List A) (ys : List B) → length (combined xs ys) ≡ length xs * length ys
  unfolding combined
  combined-length [] ys = omega arith
  combined-length (x ∷ xs) ys =
      length-append (map (f x) ys) (combined xs ys) ∙ ap₂ ◌+◌ (length-map ys (f x)) (combined-length xs ys) ∙ omega arith

-- one step of Horner's rule
module _ {A : Type 0} (R : CommutativeRing A) (y : A) where
  open R use {zero as 𝟎, add as ◌⊕◌, mul as ◌⊗◌}

  infixl 60 ◌⊕◌
  infixl 70 ◌⊗◌
  horner_constant : (c : A) → c ⊕ y ⊗ 𝟎 ≡ c
  horner_constant c = simp ring_laws

  horner_add : (b c u v : A) → (b ⊕ c) ⊕ y ⊗ (u ⊕ v) ≡ (b ⊕ y ⊗ u) ⊕ (c ⊕ y ⊗ v)
  horner_add b c u v = simp ring_laws

  horner_scale : (s c u : A) → s ⊗ c ⊕ y ⊗ (s ⊗ u) ≡ s ⊗ (c ⊕ y ⊗ u)
  horner_scale s c u = simp ring_laws

  horner_mul : (c u v : A) → c ⊗ v ⊕ y ⊗ (u ⊗ v) ≡ (c ⊕ y ⊗ u) ⊗ v
  horner_mul c u v = simp ring_laws

  horner_top : (d : ℕ) (c w s : A) → c ⊕ y ⊗ (w ⊕ s ⊗ power R y d) ≡ (c ⊕ y ⊗ w) ⊕ s ⊗ power R y (suc d)
  horner_top d c w s = simp (power-suc, ring_laws)

module _ {A : Type 0} (R : CommutativeRing A) (xs : List A) (y : A) where
  open R use {zero as 𝟎, one as 𝟏, add as ◌⊕◌, mul as ◌⊗◌}

  infixl 60 ◌⊕◌
  infixl 70 ◌⊗◌
  abbrev horner : A → A → A
  horner c v = c ⊕ y ⊗ v

  pub extended : ℕ → List A
  extended zero = 𝟎 ∷ []
  extended (suc d) = combined horner xs (extended d)

  pub extended-length : (d : ℕ) → length (extended d) ≡ length xs ^ d
  unfolding extended
  extended-length zero = sym (pow-zero (length xs))
  extended-length (suc d) = combined-length horner xs (extended d) ∙ ap (λ l. length xs * l) (extended-length d) ∙ sym (pow-succ' (length xs) d)

  -- only 0 has no coefficients
  extended_none : (v : A) → Member v (extended 0) → v ≡ 𝟎
  unfolding extended
  extended_none v (inr x) = elim x [ ]
  extended_none v (inl e) = e

  join : (d : ℕ) (c v : A) {w : A} → Member c xs → Member v (extended d) → c ⊕ y ⊗ v ≡ w → Member w (extended (suc d))
  unfolding extended
  join d c v l m e = member_equal (extended (suc d)) e (member_combined horner xs (extended d) c v l m)

  split : (d : ℕ) (v : A) → Member v (extended (suc d)) → (c : A) × (u : A) × Member c xs × Member u (extended d) × (v ≡ c ⊕ y ⊗ u)
  unfolding extended
  split d v m = combined_member horner xs (extended d) v m

  module _ (subring : Subring R xs) where
    extended-zero : (d : ℕ) → Member 𝟎 (extended d)
    unfolding extended
    extended-zero zero = inl refl
    extended-zero (suc d) = join d 𝟎 𝟎 subring.zero_in (extended-zero d) (horner_constant R y 𝟎)

    pub extended_within : (d : ℕ) → Within xs (extended (suc d))
    extended_within d c m = join d c 𝟎 m (extended-zero d) (horner_constant R y c)

    extended_add : (d : ℕ) (v w : A) → Member v (extended d) → Member w (extended d) → Member (v ⊕ w) (extended d)
    extended_add zero v w l m = member_equal (extended 0) (sym (ap (λ x. v ⊕ x) (extended_none w m) ∙ add-zero R v)) l
    extended_add (suc d) v w l m =
        let (b, u, mb, mu, e) = split d v l in
        let (c, t, mc, mt, f) = split d w m in
        join d (b ⊕ c) (u ⊕ t) (subring.add_in b c mb mc) (extended_add d u t mu mt) (horner_add R y b c u t ∙ ap₂ ◌⊕◌ (sym e) (sym f))

    extended_scale : (d : ℕ) (s v : A) → Member s xs → Member v (extended d) → Member (s ⊗ v) (extended d)
    extended_scale zero s v l m = member_equal (extended 0) (sym (ap (λ x. s ⊗ x) (extended_none v m) ∙ mul-zero R s)) (extended-zero 0)
    extended_scale (suc d) s v l m =
        let (c, u, mc, mu, e) = split d v m in
        join d (s ⊗ c) (s ⊗ u) (subring.mul_in s c l mc) (extended_scale d s u l mu) (horner_scale R y s c u ∙ ap (λ x. s ⊗ x) (sym e))

    -- the top coefficient apart
    top : (d : ℕ) (v : A) → Member v (extended (suc d)) → (w : A) × (s : A) × Member w (extended d) × Member s xs × (v ≡ w ⊕ s ⊗ power R y d)
    top zero v m =
        let (c, u, mc, mu, e) = split 0 v m in
        let one : c ≡ 𝟎 ⊕ c ⊗ power R y 0 = simp (power_zero, mul-one, zero-add) in
        (𝟎, c, extended-zero 0, mc, e ∙ ap (λ x. c ⊕ y ⊗ x) (extended_none u mu) ∙ horner_constant R y c ∙ one)
    top (suc d) v m =
        let (c, u, mc, mu, e) = split (suc d) v m in
        let (w, s, mw, ms, f) = top d u mu in
        (c ⊕ y ⊗ w, s, join d c w mc mw refl, ms, e ∙ ap (λ x. c ⊕ y ⊗ x) f ∙ horner_top R y d c w s)

    module _ (d : ℕ) (root : Member (power R y (suc d)) (extended (suc d))) where
      -- y·(w + s·y^d) = (0 + y·w) + s·y^(d + 1)
      extended_times : (v : A) → Member v (extended (suc d)) → Member (y ⊗ v) (extended (suc d))
      extended_times v m =
          let (w, s, mw, ms, e) = top d v m in
          member_equal (extended (suc d)) (sym (horner_top R y d 𝟎 w s) ∙ zero-add R (y ⊗ (w ⊕ s ⊗ power R y d)) ∙ ap (λ x. y ⊗ x) (sym e))
          (extended_add (suc d) (𝟎 ⊕ y ⊗ w) (s ⊗ power R y (suc d)) (join d 𝟎 w subring.zero_in mw refl) (extended_scale (suc d) s (power R y (suc d)) ms root))

      extended_mul : (j : ℕ) (u v : A) → Member u (extended j) → Member v (extended (suc d)) → Member (u ⊗ v) (extended (suc d))
      extended_mul zero u v l m = member_equal (extended (suc d)) (sym (ap (λ x. x ⊗ v) (extended_none u l) ∙ zero-mul R v)) (extended-zero (suc d))
      extended_mul (suc j) u v l m =
          let (c, w, mc, mw, e) = split j u l in
          member_equal (extended (suc d)) (horner_mul R y c w v ∙ ap (λ x. x ⊗ v) (sym e))
          (extended_add (suc d) (c ⊗ v) (y ⊗ (w ⊗ v)) (extended_scale (suc d) c v mc m) (extended_times (w ⊗ v) (extended_mul j w v mw m)))

      pub extended_subring : Subring R (extended (suc d))
      extended_subring =
          record {
            zero_in = extended-zero (suc d);
            one_in = extended_within d 𝟏 subring.one_in;
            add_in = extended_add (suc d);
            mul_in = extended_mul (suc d);
          }

    pub extended_generator : (d : ℕ) → Member y (extended (suc (suc d)))
    extended_generator d =
        join (suc d) 𝟎 𝟏 subring.zero_in (extended_within d 𝟏 subring.one_in) (zero-add R (y ⊗ 𝟏) ∙ mul-one R y)

    -- y^p = y + a
    pub adjoin_root : (p : ℕ) → 2 ≤ p → (a : A) → Member a xs → power R y p ≡ y ⊕ a
        → Subring R (extended p) × Within xs (extended p) × Member y (extended p)
    adjoin_root zero big a m e = absurd (omega arith)
    adjoin_root (suc zero) big a m e = absurd (omega arith)
    adjoin_root (suc (suc d)) big a m e = (
      extended_subring (suc d)
          (member_equal (extended (suc (suc d))) (sym e) (extended_add (suc (suc d)) y a (extended_generator d) (extended_within (suc d) a m))),
      extended_within (suc d),
      extended_generator d,
    )
