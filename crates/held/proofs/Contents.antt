-- What a value counts as. Where its state has a p, n or coefficient that 1, 2 or 4 refuses it counts as empty, else as what its fields hold.
--   Counts x v                  v is empty, or what the fields of x hold, and 1, 2 and 4 refuse nothing of it
--   empty-view, loaded-view, paired-view    what x counts as, by the state of that
--   paired_given                            one that counts as paired holds models and lists of n words below p for S and R
--   valid_state, invalid_view               a valid value counts as its state says, any other as empty
--   view-loaded, view-paired                what calls make counts as what it holds
use mathlib.Core.Path.{◌≡◌, refl, sym, ◌∙◌}
use mathlib.Core.Bool.{Bool, true, false}
use mathlib.Core.List.{List, [], ◌∷◌}
use Prim.Native.Nat.{ℕ}
use lib.ListN.{take}
use Rattle.refusal.specs.Models.{Models, Given}
use Rattle.refusal.proofs.Models.{models_sent, given, all_sent}
use Rattle.array.specs.Words.{Words}
use Rattle.array.specs.Array.{padded}
use Rattle.array.proofs.Words.{words_length}
use Rattle.array.proofs.Padded.{take-padded}
use Rattle.held.specs.Held.{View, empty, loaded, paired, valid, valid_as, valid_held, if_valid, view_as, t1_of, t2_of, s_of, r_of, view, loaded_held, paired_held, Arrays}
use Rattle.held.specs.ViewState.{view_state}
use Rattle.held.specs.declared.Held.{Held}
use Rattle.held.specs.declared.State.{State}
use Rattle.held.specs.declared.State.TheVariants.{Empty, Loaded, Paired}
use Rattle.held.proofs.Valid.{valid_sent, sent_valid, front_length}

data Counts (x : Held) : View → Type 0 where
  as_empty : Counts x empty
  as_loaded : valid x.p x.n (t1_of x ∷ t2_of x ∷ []) ≡ true → Counts x (loaded x.p x.n (t1_of x) (t2_of x))
  as_paired :
      valid x.p x.n (t1_of x ∷ t2_of x ∷ s_of x ∷ r_of x ∷ []) ≡ true
      → Counts x (paired x.p x.n (t1_of x) (t2_of x) (s_of x) (r_of x))

counts : (x : Held) → Counts x (view x)
unfolding view view_as valid_held valid_as
counts x = go x.state
  where
    counts_if : (v : View) (b : Bool) → (b ≡ true → Counts x v) → Counts x (if_valid b v)
    counts_if v true f = f refl
    counts_if v false f = as_empty

    go : (state : State)
        → Counts x (if_valid (valid_as state x.p x.n (t1_of x) (t2_of x) (s_of x) (r_of x)) (view_as state x.p x.n (t1_of x) (t2_of x) (s_of x) (r_of x)))
    go Empty = as_empty
    go Loaded = counts_if _ _ as_loaded
    go Paired = counts_if _ _ as_paired

module _ (x : Held) (state : State) (e : state ≡ view_state (view x)) where
  pub empty-view : state ≡ Empty → view x ≡ empty
  unfolding view_state
  empty-view h = go (counts x) (sym e ∙ h)
    where
      go : {v : View} → Counts x v → view_state v ≡ Empty → v ≡ empty
      go as_empty z = refl
      go (as_loaded h) z = cc
      go (as_paired h) z = cc

  as_loaded_is : state ≡ Loaded → (view x ≡ loaded x.p x.n (t1_of x) (t2_of x)) × (valid x.p x.n (t1_of x ∷ t2_of x ∷ []) ≡ true)
  unfolding view_state
  as_loaded_is h = go (counts x) (sym e ∙ h)
    where
      go : {v : View} → Counts x v → view_state v ≡ Loaded → (v ≡ loaded x.p x.n (t1_of x) (t2_of x)) × (valid x.p x.n (t1_of x ∷ t2_of x ∷ []) ≡ true)
      go as_empty z = (cc, cc)
      go (as_loaded h) z = (refl, h)
      go (as_paired h) z = (cc, cc)

  as_paired_is : state ≡ Paired
      → (view x ≡ paired x.p x.n (t1_of x) (t2_of x) (s_of x) (r_of x)) × (valid x.p x.n (t1_of x ∷ t2_of x ∷ s_of x ∷ r_of x ∷ []) ≡ true)
  unfolding view_state
  as_paired_is h = go (counts x) (sym e ∙ h)
    where
      go : {v : View} → Counts x v → view_state v ≡ Paired
          → (v ≡ paired x.p x.n (t1_of x) (t2_of x) (s_of x) (r_of x)) × (valid x.p x.n (t1_of x ∷ t2_of x ∷ s_of x ∷ r_of x ∷ []) ≡ true)
      go as_empty z = (cc, cc)
      go (as_loaded h) z = (cc, cc)
      go (as_paired h) z = (refl, h)

  pub loaded-view : state ≡ Loaded → view x ≡ loaded x.p x.n (t1_of x) (t2_of x)
  loaded-view h = (as_loaded_is h).0

  pub loaded_valid : state ≡ Loaded → valid x.p x.n (t1_of x ∷ t2_of x ∷ []) ≡ true
  loaded_valid h = (as_loaded_is h).1

  pub paired-view : state ≡ Paired → view x ≡ paired x.p x.n (t1_of x) (t2_of x) (s_of x) (r_of x)
  paired-view h = (as_paired_is h).0

  pub paired_valid : state ≡ Paired → valid x.p x.n (t1_of x ∷ t2_of x ∷ s_of x ∷ r_of x ∷ []) ≡ true
  paired_valid h = (as_paired_is h).1

-- a valid value counts as its state says

as_its_state : (state : State) (p n : ℕ) (t1 t2 s r : List ℕ) → state ≡ view_state (view_as state p n t1 t2 s r)
unfolding view_state view_as
as_its_state Empty p n t1 t2 s r = refl
as_its_state Loaded p n t1 t2 s r = refl
as_its_state Paired p n t1 t2 s r = refl

module _ (x : Held) where
  pub valid_state : valid_held x ≡ true → x.state ≡ view_state (view x)
  unfolding view
  valid_state h = rw h (as_its_state x.state _ _ _ _ _ _)

  pub invalid_view : valid_held x ≡ false → view x ≡ empty
  unfolding view
  invalid_view h = rw h

pub paired_given : (x : Held) → Arrays x → (state : State) → state ≡ view_state (view x) → state ≡ Paired
    → Given x.p x.n (t1_of x) (t2_of x) (s_of x) (r_of x)
paired_given x arrays state e h =
    given x.p x.n (t1_of x) (t2_of x) (s_of x) (r_of x)
    (valid_sent x.p x.n _ (paired_valid x state e h) (λ small. (
      front_length x.n x.t1 arrays.t1-length small,
      (front_length x.n x.t2 arrays.t2-length small, (front_length x.n x.s arrays.s-length small, (front_length x.n x.r arrays.r-length small, tt))),
    )))

-- what calls make

pub front_held : {p n : ℕ} {u : List ℕ} → Words p n u → take n (padded u) ≡ u
front_held {n = n} {u = u} w = take-padded n u (words_length w)

pub loaded_held_valid : {p n : ℕ} {t1 t2 : List ℕ} → Models p n t1 t2 → valid_held (loaded_held p n t1 t2) ≡ true
unfolding valid_held valid_as loaded_held
loaded_held_valid {p} {n} {t1} {t2} m = rw (front_held m.modulus1, front_held m.modulus2) (sent_valid p n _ _ (models_sent p n t1 t2 [] m tt))

pub paired_held_valid : {p n : ℕ} {t1 t2 s r : List ℕ} → Given p n t1 t2 s r → valid_held (paired_held p n t1 t2 s r) ≡ true
unfolding valid_held valid_as paired_held
paired_held_valid {p} {n} {t1} {t2} {s} {r} g =
    rw (front_held g.models.modulus1, front_held g.models.modulus2, front_held g.words_s, front_held g.words_r) (sent_valid p n _ _ (all_sent p n t1 t2 s r g))

pub view-loaded : {p n : ℕ} {t1 t2 : List ℕ} → Models p n t1 t2 → view (loaded_held p n t1 t2) ≡ loaded p n t1 t2
unfolding view view_as loaded_held
view-loaded m = rw (loaded_held_valid m, front_held m.modulus1, front_held m.modulus2)

pub view-paired : {p n : ℕ} {t1 t2 s r : List ℕ} → Given p n t1 t2 s r → view (paired_held p n t1 t2 s r) ≡ paired p n t1 t2 s r
unfolding view view_as paired_held
view-paired g =
    rw (paired_held_valid g, front_held g.models.modulus1, front_held g.models.modulus2, front_held g.words_s, front_held g.words_r)
