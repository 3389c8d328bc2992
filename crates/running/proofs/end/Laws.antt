-- End, by the waiting session and the open table.
use Rattle.std.specs.Prelude.{Ok}
use mathlib.Core.Logic.{◌⊎◌, inl, inr}
use mathlib.Core.Path.{◌≡◌, refl}
use Rattle.held.specs.Held.{view, new_held}
use Rattle.held.specs.ViewState.{view_state}
use Rattle.held.specs.declared.Held.{Held}
use Rattle.held.specs.declared.State.{State}
use Rattle.held.specs.declared.State.TheVariants.{Empty, Loaded, Paired}
use Rattle.held.proofs.Contents.{empty-view, loaded-view, paired-view}
use Rattle.ledger.specs.declared.Record.{Record}
use Rattle.work.specs.Step.{Records}
use Rattle.work.specs.declared.Table.TheVariants.{Closed, Open}
use Rattle.work.specs.declared.Work.{Work}
use Rattle.running.specs.Running.{held_after, end}

module _ (w h : Held) (state : State) (e : state ≡ view_state (view w)) where
  pub dropped : (state ≡ Empty) ⊎ (state ≡ Loaded) → h ≡ held_after (view w) w h
  dropped (inl f) = rw (empty-view w state e f)
  dropped (inr f) = rw (loaded-view w state e f)

  pub paired_current : state ≡ Paired → w ≡ held_after (view w) w h
  paired_current f = rw (paired-view w state e f)

module _ (x : Work) where
  pub end_closed : x.table ≡ Closed → (end x).number ≡ 26
  unfolding end
  end_closed e = rw e

  pub end_open : (r : Record) → x.table ≡ Open r → (h w : Held) → h ≡ held_after (view x.waiting) x.waiting x.held → w ≡ new_held
      → Records (Ok (record { work = record { held = h; table = Closed; waiting = w }; entry = r })) (end x)
  unfolding end
  end_open r e h w f g = rw (e, f, g) (refl, refl, refl)
