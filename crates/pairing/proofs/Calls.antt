-- Load, propose and find, by the state of what the value counts as.
use Rattle.std.specs.Prelude.{Result, Ok}
use mathlib.Core.Logic.{◌⊎◌, inl, inr}
use mathlib.Core.Path.{◌≡◌}
use mathlib.Core.List.{List, [], ◌∷◌}
use Prim.Native.Nat.{ℕ}
use Rattle.refusal.specs.Refusal.{refuse_sent}
use Rattle.refusal.specs.declared.number.Refusal.{Refusal}
use Rattle.held.specs.Held.{loaded, loaded_held, t1_of, t2_of, view}
use Rattle.pairing.specs.Pairing.{answer, load_from, load, propose_from, propose, find_from, find}
use Rattle.pairing.specs.Step.{Answers}
use Rattle.held.specs.ViewState.{view_state}
use Rattle.held.specs.declared.Held.{Held}
use Rattle.held.specs.declared.State.{State}
use Rattle.held.specs.declared.State.TheVariants.{Empty, Loaded, Paired}
use Rattle.held.proofs.Contents.{empty-view, loaded-view, paired-view}
use Rattle.pairing.proofs.Answer.{answer_number, accepted}

module _ (x : Held) (state : State) (e : state ≡ view_state (view x)) where
  module _ (p n : ℕ) (t1 t2 : List ℕ) where
    pub load_number : state ≡ Empty → (load x p n t1 t2).number ≡ refuse_sent p n (t1 ∷ t2 ∷ []) (t1 ∷ t2 ∷ []) 0
    unfolding load load_from
    load_number h = rw (empty-view x state e h) (answer_number _ x _)

    pub load_next : state ≡ Empty → refuse_sent p n (t1 ∷ t2 ∷ []) (t1 ∷ t2 ∷ []) 0 ≡ 0 → (y : Held) → y ≡ loaded_held p n t1 t2
        → Answers (Ok y) (load x p n t1 t2)
    unfolding load load_from
    load_next h z y f = rw (empty-view x state e h) (accepted _ x _ y z f)

    pub load_held : (state ≡ Loaded) ⊎ (state ≡ Paired) → (load x p n t1 t2).number ≡ 23
    unfolding load load_from answer
    load_held (inl h) = rw (loaded-view x state e h)
    load_held (inr h) = rw (paired-view x state e h)

  module _ (s r : List ℕ) where
    pub propose_empty : state ≡ Empty → (propose x s r).number ≡ 21
    unfolding propose propose_from answer
    propose_empty h = rw (empty-view x state e h)

    pub propose_loaded : state ≡ Loaded → (t1 t2 : List ℕ) → t1 ≡ t1_of x → t2 ≡ t2_of x
        → (y : Result Held Refusal) → Answers y (propose_from (loaded x.p x.n t1 t2) x s r) → Answers y (propose x s r)
    unfolding propose
    propose_loaded h t1 t2 f1 f2 y f = rw (loaded-view x state e h, ← f1, ← f2) f

    pub propose_paired : state ≡ Paired → (propose x s r).number ≡ 24
    unfolding propose propose_from answer
    propose_paired h = rw (paired-view x state e h)

  pub find_empty : state ≡ Empty → (find x).number ≡ 21
  unfolding find find_from answer
  find_empty h = rw (empty-view x state e h)

  pub find_loaded : state ≡ Loaded → (t1 t2 : List ℕ) → t1 ≡ t1_of x → t2 ≡ t2_of x
      → (y : Result Held Refusal) → Answers y (find_from (loaded x.p x.n t1 t2) x) → Answers y (find x)
  unfolding find
  find_loaded h t1 t2 f1 f2 y f = rw (loaded-view x state e h, ← f1, ← f2) f

  pub find_paired : state ≡ Paired → (find x).number ≡ 24
  unfolding find find_from answer
  find_paired h = rw (paired-view x state e h)
