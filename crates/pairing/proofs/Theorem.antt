-- The proofs of what specs/Theorem.antt states.
use mathlib.Core.Path.{◌≡◌, refl, sym}
use mathlib.Core.Bool.{true}
use mathlib.Core.List.{List}
use Prim.Native.Nat.{ℕ, zero, suc}
use Rattle.pair.specs.Pair.{check_number}
use Rattle.finder.proofs.Theorem.{accepted_pair}
use Rattle.held.specs.Held.{View, empty, loaded, paired, view, view_as, valid_held, valid_as, t1_of, t2_of, s_of, r_of, new_held, loaded_held, paired_held}
use Rattle.pairing.specs.Pairing.{answer, load_from, load, propose_from, propose, find_from, find}
use Rattle.pairing.specs.Theorem.{Reached, is_new, is_loaded, has_pair, CallsReach, RefusalsKeep, CountsAsHeld}
use Rattle.held.specs.ViewState.{view_state}
use Rattle.held.specs.declared.Held.{Held}
use Rattle.held.specs.declared.State.TheVariants.{Paired}
use Rattle.pairing.proofs.Answer.{answer_keeps}
use Rattle.pairing.proofs.Accepted.{loaded_models, check_models, accepted_given}
use Rattle.held.proofs.Contents.{front_held, loaded_held_valid, paired_held_valid, view-loaded, view-paired}
use Rattle.refusal.specs.Models.{Given}

view_new : view new_held ≡ empty
unfolding view view_as valid_held valid_as
view_new = refl

pub counts_as_held : CountsAsHeld
counts_as_held =
    record {
      new_is_empty = view_new;
      loaded_is_loaded = λ p n t1 t2 m. view-loaded m;
      paired_is_paired = λ p n t1 t2 s r a. view-paired (accepted_given p n 0 t1 t2 s r (sym a) refl);
    }

-- a refused call

load_keeps : (v : View) (x : Held) (p n : ℕ) (t1 t2 : List ℕ) → ((load_from v x p n t1 t2).number ≡ 0 → ⊥) → (load_from v x p n t1 t2).held ≡ x
unfolding load_from
load_keeps empty x p n t1 t2 = answer_keeps _ x _
load_keeps (loaded q m u1 u2) x p n t1 t2 = answer_keeps _ x _
load_keeps (paired q m u1 u2 s r) x p n t1 t2 = answer_keeps _ x _

propose_keeps : (v : View) (x : Held) (s r : List ℕ) → ((propose_from v x s r).number ≡ 0 → ⊥) → (propose_from v x s r).held ≡ x
unfolding propose_from
propose_keeps empty x s r = answer_keeps _ x _
propose_keeps (loaded p n t1 t2) x s r = answer_keeps _ x _
propose_keeps (paired p n t1 t2 u v) x s r = answer_keeps _ x _

find_keeps : (v : View) (x : Held) → ((find_from v x).number ≡ 0 → ⊥) → (find_from v x).held ≡ x
unfolding find_from
find_keeps empty x = answer_keeps _ x _
find_keeps (loaded p n t1 t2) x = answer_keeps _ x _
find_keeps (paired p n t1 t2 s r) x = answer_keeps _ x _

pub refusals_keep : RefusalsKeep
unfolding load propose find
refusals_keep =
    record { load_keeps = λ x. load_keeps (view x) x; propose_keeps = λ x. propose_keeps (view x) x; find_keeps = λ x. find_keeps (view x) x }

-- a call of a value that is reached

answer_reaches : (k : ℕ) (x y : Held) → Reached x → (k ≡ 0 → Reached y) → Reached (answer k y x).held
unfolding answer
answer_reaches zero x y h f = f refl
answer_reaches (suc k) x y h f = h

load_reaches : (v : View) {x : Held} → Reached x → (p n : ℕ) (t1 t2 : List ℕ) → Reached (load_from v x p n t1 t2).held
unfolding load_from answer
load_reaches empty {x} h p n t1 t2 =
    answer_reaches _ x _ h (λ e. is_loaded p n t1 t2 (loaded_models p n 0 t1 t2 (sym e) refl))
load_reaches (loaded q m u1 u2) h p n t1 t2 = h
load_reaches (paired q m u1 u2 s r) h p n t1 t2 = h

propose_reaches : {x : Held} → Reached x → (s r : List ℕ) → Reached (propose x s r).held
unfolding propose propose_from answer
propose_reaches is_new s r = rw view_new is_new
propose_reaches (is_loaded p n t1 t2 m) s r =
    rw (view-loaded m, ← check_models p n t1 t2 s r m)
    (answer_reaches _ (loaded_held p n t1 t2) _ (is_loaded p n t1 t2 m) (has_pair p n t1 t2 s r))
propose_reaches (has_pair p n t1 t2 u v h) s r = rw (view-paired (accepted_given p n 0 t1 t2 u v (sym h) refl)) (has_pair p n t1 t2 u v h)

find_reaches : {x : Held} → Reached x → Reached (find x).held
unfolding find find_from answer
find_reaches is_new = rw view_new is_new
find_reaches (is_loaded p n t1 t2 m) =
    rw (view-loaded m)
    (answer_reaches _ (loaded_held p n t1 t2) _ (is_loaded p n t1 t2 m) (λ e. has_pair p n t1 t2 _ _ (accepted_pair p n t1 t2 m e)))
find_reaches (has_pair p n t1 t2 s r h) = rw (view-paired (accepted_given p n 0 t1 t2 s r (sym h) refl)) (has_pair p n t1 t2 s r h)

pub calls_reach : CallsReach
unfolding load
calls_reach =
    record {
      load_reaches = λ {x} h. load_reaches (view x) h;
      propose_reaches = propose_reaches;
      find_reaches = find_reaches;
    }

-- a value that is reached is valid
pub reached_valid : {x : Held} → Reached x → valid_held x ≡ true
unfolding valid_held valid_as
reached_valid is_new = refl
reached_valid (is_loaded p n t1 t2 m) = loaded_held_valid m
reached_valid (has_pair p n t1 t2 s r h) = paired_held_valid (accepted_given p n 0 t1 t2 s r (sym h) refl)

-- a value that is reached and counts as paired has a pair that the checker accepts
pub reached_accepted : {x : Held} → Reached x → view_state (view x) ≡ Paired → check_number x.p x.n (t1_of x) (t2_of x) (s_of x) (r_of x) ≡ 0
unfolding view_state paired_held
reached_accepted is_new e = let z : view_state empty ≡ Paired = rw view_new at e in cc
reached_accepted (is_loaded p n t1 t2 m) e = let z : view_state (loaded p n t1 t2) ≡ Paired = rw (view-loaded m) at e in cc
reached_accepted (has_pair p n t1 t2 s r h) e =
    let g : Given p n t1 t2 s r = accepted_given p n 0 t1 t2 s r (sym h) refl in
    rw (front_held g.models.modulus1, front_held g.models.modulus2, front_held g.words_s, front_held g.words_r) h
