-- What is proved of what a session holds.
--   Reached x        x is new, or loaded with models that 1, 2 and 4 do not refuse, or paired, and the checker accepts its pair
--   CallsReach       load, propose and find make such a value of such a value
--   RefusalsKeep     a refused load, propose or find gives back the value it took
--   CountsAsHeld     a new, loaded or paired value that calls make counts as that
use Rattle.std.specs.Prelude.{◌≡◌, List, ℕ}
use Rattle.refusal.specs.Models.{Models}
use Rattle.pair.specs.Pair.{check_number}
use Rattle.held.specs.Held.{empty, loaded, paired, view, new_held, loaded_held, paired_held}
use Rattle.held.specs.declared.Held.{Held}
use Rattle.pairing.specs.Pairing.{load, propose, find}

pub data Reached : Held → Type 0 where
  is_new : Reached new_held
  is_loaded : (p n : ℕ) (t1 t2 : List ℕ) → Models p n t1 t2 → Reached (loaded_held p n t1 t2)
  has_pair : (p n : ℕ) (t1 t2 s r : List ℕ) → check_number p n t1 t2 s r ≡ 0 → Reached (paired_held p n t1 t2 s r)

pub record CallsReach : Type 0 where
  pub load_reaches : {x : Held} → Reached x → (p n : ℕ) (t1 t2 : List ℕ) → Reached (load x p n t1 t2).held
  pub propose_reaches : {x : Held} → Reached x → (s r : List ℕ) → Reached (propose x s r).held
  pub find_reaches : {x : Held} → Reached x → Reached (find x).held

pub record RefusalsKeep : Type 0 where
  pub load_keeps : (x : Held) (p n : ℕ) (t1 t2 : List ℕ) → ((load x p n t1 t2).number ≡ 0 → ⊥) → (load x p n t1 t2).held ≡ x
  pub propose_keeps : (x : Held) (s r : List ℕ) → ((propose x s r).number ≡ 0 → ⊥) → (propose x s r).held ≡ x
  pub find_keeps : (x : Held) → ((find x).number ≡ 0 → ⊥) → (find x).held ≡ x

pub record CountsAsHeld : Type 0 where
  pub new_is_empty : view new_held ≡ empty
  pub loaded_is_loaded : (p n : ℕ) (t1 t2 : List ℕ) → Models p n t1 t2 → view (loaded_held p n t1 t2) ≡ loaded p n t1 t2
  pub paired_is_paired :
      (p n : ℕ) (t1 t2 s r : List ℕ) → check_number p n t1 t2 s r ≡ 0 → view (paired_held p n t1 t2 s r) ≡ paired p n t1 t2 s r
