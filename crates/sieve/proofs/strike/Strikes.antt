-- The loop that strikes out one word in each of so many blocks of q words. The words of different blocks are at different places, so a turn changes none of the blocks before.
--   Striking base q count h from codes old marks   before turn h: the words of the first h blocks are struck out, and block h begins at `from`
use mathlib.Core.Path.{◌≡◌, refl, sym, ap, ◌∙◌}
use mathlib.Core.List.{List}
use mathlib.Core.Logic.{◌⊎◌, inl, inr}
use Prim.Native.Nat.{ℕ, suc, ◌+◌, ◌*◌, ◌≤◌, ◌<◌}
use native.Mathlib.Decide.{dec_lt, ℕ_discrete}
use native.Mathlib.Nat.{mul-le-mul_right}
use native.Mathlib.Omega.{arith}
use borrow.Author.Tests.{eq-eqb, ne_eqb}
use lib.Dec.{eqb}
use lib.ListN.{get_or, set, length-set}
use lib.Seq.{get_or-set_same, get_or-set_other}
use mir.Syntax.{w64}
use mir.Val.{Fits}
use Rattle.sieve.specs.Clauses.{WordsBelow, Struck, struck, Room}

pub record Striking (base q count h from : ℕ) (codes old marks : List ℕ) : Type 0 where
  pub within : h ≤ count
  pub place : from ≡ base + h * q
  pub done : Struck base q h codes old marks

pub striking_none : (base q count : ℕ) (codes marks : List ℕ) → Striking base q count 0 base codes marks marks
striking_none base q count codes marks =
    record {
      within = omega arith;
      place = omega arith;
      done = record { same_length = refl; inside = λ h l none. absurd (omega arith); outside = λ i out. refl };
    }

struck_yes : (l c x : ℕ) → l ≡ c → 1 ≡ struck (eqb l c) x
unfolding struck
struck_yes l c x e = rw (eq-eqb l c e)

struck_no : (l c x : ℕ) → (l ≡ c → ⊥) → x ≡ struck (eqb l c) x
unfolding struck
struck_no l c x e = rw (ne_eqb l c e)

module _ (base q count h from : ℕ) (codes old marks : List ℕ) (s : Striking base q count h from codes old marks) (here : h < count)
    (below : WordsBelow q count codes) where
  -- block h is one of count blocks
  block_fits : h * q + q ≤ count * q
  block_fits = let m : suc h * q ≤ count * q = mul-le-mul_right q here in omega arith

  module _ (low : base ≤ 65536) (fits : count * q ≤ base) (l : ℕ) (e : l ≡ get_or codes h 0) where
    word_small : l < q
    word_small = rw e (below.words h here)

    pub place_inside : from + l < 131072
    place_inside = omega (arith, block_fits, s.place, word_small)

    pub place_fits : Fits w64 (from + l)
    place_fits = record { fits = omega (arith, place_inside) }

    pub next_fits : Fits w64 (from + q)
    next_fits = record { fits = omega (arith, block_fits, s.place) }

    module _ (room : Room old) where
      abbrev new : List ℕ
      new = set marks (from + l) 1

      other : (i : ℕ) → (i ≡ from + l → ⊥) → get_or new i 0 ≡ get_or marks i 0
      other i apart = get_or-set_other marks (from + l) i 1 0 apart

      written : (i : ℕ) → i ≡ from + l → get_or new i 0 ≡ 1
      written i same =
          ap (λ j. get_or new j 0) same
          ∙ get_or-set_same marks (from + l) 1 0 (omega (arith, place_inside, s.done.same_length, room))

      inside : (h' l' : ℕ) → h' < suc h → l' < q → Dec (h' < h) → Dec (l' ≡ get_or codes h' 0)
          → get_or new (base + (h' * q + l')) 0 ≡ struck (eqb l' (get_or codes h' 0)) (get_or old (base + (h' * q + l')) 0)
      inside h' l' m n (yes before) d =
          let b : suc h' * q ≤ h * q = mul-le-mul_right q before in
          other (base + (h' * q + l')) (λ x. omega (arith, s.place)) ∙ s.done.inside h' l' before n
      inside h' l' m n (no last) (yes same) =
          let at : h' ≡ h = omega arith in
          let e' : l' ≡ l = same ∙ ap (λ i. get_or codes i 0) at ∙ sym e in
          written (base + (h' * q + l')) (omega (arith, s.place, ap (λ i. i * q) at))
          ∙ struck_yes l' (get_or codes h' 0) (get_or old (base + (h' * q + l')) 0) same
      inside h' l' m n (no last) (no differs) =
          let at : h' ≡ h = omega arith in
          let row : h' * q ≡ h * q = ap (λ i. i * q) at in
          other (base + (h' * q + l')) (λ x. differs (omega (arith, s.place, row, e, ap (λ i. get_or codes i 0) at)))
          ∙ s.done.outside (base + (h' * q + l')) (inr (omega arith))
          ∙ struck_no l' (get_or codes h' 0) (get_or old (base + (h' * q + l')) 0) differs

      outside : (i : ℕ) → (i < base) ⊎ (base + (h + 1) * q ≤ i) → get_or new i 0 ≡ get_or old i 0
      outside i (inl out) = other i (λ x. omega (arith, s.place)) ∙ s.done.outside i (inl out)
      outside i (inr out) = other i (λ x. omega (arith, s.place, word_small)) ∙ s.done.outside i (inr (omega arith))

      pub striking_turn : Striking base q count (h + 1) (from + q) codes old new
      striking_turn =
          record {
            within = omega arith;
            place = omega (arith, s.place);
            done = record {
              same_length = length-set marks (from + l) 1 ∙ s.done.same_length;
              inside = λ h' l' m n. inside h' l' (omega arith) n (dec_lt h' h) (ℕ_discrete l' (get_or codes h' 0));
              outside = outside;
            };
          }

pub striking_end : (base q count h from : ℕ) (codes old marks : List ℕ) → Striking base q count h from codes old marks → count ≤ h
    → Struck base q count codes old marks
striking_end base q count h from codes old marks s end =
    let same : h ≡ count = omega (arith, s.within) in rw same at s.done
