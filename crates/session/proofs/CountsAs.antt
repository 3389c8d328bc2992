-- What a session counts as: itself, as far as it is looked at, where it is valid, else a new one.
--   valid_is, work_is, count_is   what the code works out of a session's value and of how many records count
--   counted_itself, counted_new   by whether the session is valid
--   counted_parts                 what a session counts as is valid
--   paired_itself                 a session that counts as paired counts as itself
use mathlib.Core.Path.{◌≡◌, refl, sym, ap, ◌∙◌}
use mathlib.Core.Bool.{Bool, true, false}
use Prim.Native.Nat.{ℕ}
use native.Mathlib.Omega.{arith}
use Rattle.held.specs.Held.{view, view_as, valid_held, valid_as, new_held}
use Rattle.work.specs.Work.{is_paired, looked}
use Rattle.work.specs.Counted.{counted_as, counted_if}
use Rattle.work.specs.declared.counted.CountsAs.{CountsAs}
use Rattle.work.proofs.Valid.{ValidParts, valid_parts, looked_parts}
use Rattle.session.specs.Session.{new_session, valid_session, or_new, counted}
use Rattle.session.specs.declared.Session.{Session}

new_parts : ValidParts new_session.work new_session.ledger.count
unfolding valid_held valid_as
new_parts = record { few = omega arith; held_valid = refl; open_over = λ o. absurd (let z : ◌≡◌ {A = ℕ} 0 1 = cc in omega arith) }

pub new_unpaired : is_paired (view new_held) ≡ false
unfolding is_paired view view_as valid_held valid_as
new_unpaired = refl

module _ (x : Session) where
  same_parts : (b : Bool) → counted_if b x.work x.ledger.count ≡ record { valid = b; work = (or_new b x).work; count = (or_new b x).ledger.count }
  same_parts true = refl
  same_parts false = refl

  parts_are : counted_as x.work x.ledger.count ≡ record { valid = valid_session x; work = (counted x).work; count = (counted x).ledger.count }
  unfolding counted_as counted
  parts_are = same_parts (valid_session x)

  module _ (c : CountsAs) (e : c ≡ counted_as x.work x.ledger.count) where
    pub valid_is : c.valid ≡ valid_session x
    valid_is = ap (λ y. y.valid) (e ∙ parts_are)

    pub work_is : c.work ≡ (counted x).work
    work_is = ap (λ y. y.work) (e ∙ parts_are)

    pub count_is : c.count ≡ (counted x).ledger.count
    count_is = ap (λ y. y.count) (e ∙ parts_are)

  pub counted_itself : valid_session x ≡ true → counted x ≡ record { work = looked x.work; ledger = x.ledger }
  unfolding counted
  counted_itself h = rw h

  pub counted_new : valid_session x ≡ false → counted x ≡ new_session
  unfolding counted
  counted_new h = rw h

  pub counted_parts : ValidParts (counted x).work (counted x).ledger.count
  unfolding counted
  counted_parts = go (valid_session x) refl
    where
      go : (b : Bool) → valid_session x ≡ b → ValidParts (or_new b x).work (or_new b x).ledger.count
      go true e = looked_parts x.work x.ledger.count (valid_parts x.work x.ledger.count e)
      go false e = new_parts

  pub paired_itself : is_paired (view (counted x).work.held) ≡ true → valid_session x ≡ true
  paired_itself h = go (valid_session x) refl
    where
      go : (b : Bool) → valid_session x ≡ b → b ≡ true
      go true e = refl
      go false e = sym new_unpaired ∙ ap (λ y. is_paired (view y.work.held)) (sym (counted_new e)) ∙ h
