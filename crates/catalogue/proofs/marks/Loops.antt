-- The loops over the marks: before a turn at c the codes below c are done, and a turn counts, or writes, code c where it is not marked.
--   Counting   the invariant of `count_unmarked`
--   Writing    the invariant of `write_unmarked`: the first words are the digits of the codes done
use mathlib.Core.Path.{◌≡◌, sym, ap, ap₂, ◌∙◌}
use mathlib.Core.List.{List, [], ◌∷◌, ◌++◌, append_assoc, append-nil, map, map-append, flatten}
use Prim.Native.Nat.{ℕ, ◌+◌, ◌-◌, ◌*◌, ◌≤◌, ◌<◌}
use native.Mathlib.Nat.{add-sub_cancel_left, mul-zero, mul-le-mul_left}
use native.Mathlib.Omega.{arith}
use lib.ListN.{length, get_or, take, drop, length-append, length-drop}
use lib.Seq.{get_or-take, get_or-drop, length-take-le, take_at, take_all}
use borrow.Rule.Slice.PartMut.{put_mid, mid_of, post_of, same_len_mid}
use Rattle.array.specs.Digits.{digits}
use Rattle.array.proofs.Digits.{digits-length}
use Rattle.catalogue.specs.Marks.{unmarked}
use Rattle.array.proofs.Flatten.{flatten-append}
use Rattle.catalogue.proofs.Unmarked.{unmarked_below, below_zero, below_all, below_free, below_marked, below_few}

-- how many

pub record Counting (size : ℕ) (marks : List ℕ) (count c : ℕ) : Type 0 where
  pub value : count ≡ length (unmarked_below size marks c)
  pub few : count ≤ c

pub count_starts : (size : ℕ) (marks : List ℕ) → Counting size marks 0 0
count_starts size marks = record { value = ap length (sym (below_zero size marks)); few = omega arith }

module _ (size count c : ℕ) (marks : List ℕ) (h : Counting size marks count c) where
  module _ (l : c < size) (count' : ℕ) where
    count_turn : get_or marks (size + c) 0 ≡ 0 → count' ≡ count + 1 → Counting size marks count' (c + 1)
    count_turn free e =
        record {
          value = omega (arith, h.value, ap length (below_free size marks c free), length-append (unmarked_below size marks c) (c ∷ []));
          few = omega (arith, h.few);
        }

    count_skip : (get_or marks (size + c) 0 ≡ 0 → ⊥) → count' ≡ count → Counting size marks count' (c + 1)
    count_skip marked e =
        record { value = e ∙ h.value ∙ ap length (sym (below_marked size marks c marked)); few = omega (arith, h.few) }

  count_done : c ≤ size → size ≤ c → count ≡ length (unmarked size marks)
  count_done within l =
      let same : c ≡ size = omega arith in
      h.value ∙ ap length (ap (unmarked_below size marks) same ∙ below_all size marks)

-- over the marks themselves, those from `size` on

module _ (size c : ℕ) (marks : List ℕ) (few : size ≤ 65536) (room : length marks ≡ 131072) where
  pub items-length : length (mid_of size (2 * size - size) marks) ≡ size
  items-length =
      let width : 2 * size - size ≡ size = omega arith in
      length-take-le (2 * size - size) (drop size marks) (rw length-drop (omega arith)) ∙ width

  item_is : c < length (mid_of size (2 * size - size) marks) → get_or (mid_of size (2 * size - size) marks) c 0 ≡ get_or marks (size + c) 0
  item_is l = get_or-take (2 * size - size) (drop size marks) c 0 (omega (arith, items-length)) ∙ get_or-drop size marks c 0

  module _ (count count' : ℕ) (h : Counting size marks count c) where
    module _ (l : c < length (mid_of size (2 * size - size) marks)) where
      pub item_turn : get_or (mid_of size (2 * size - size) marks) c 0 ≡ 0 → count' ≡ count + 1 → Counting size marks count' (c + 1)
      item_turn free e = count_turn size count c marks h (omega (arith, items-length)) count' (sym (item_is l) ∙ free) e

      pub item_skip : (get_or (mid_of size (2 * size - size) marks) c 0 ≡ 0 → ⊥) → count' ≡ count → Counting size marks count' (c + 1)
      item_skip marked e = count_skip size count c marks h (omega (arith, items-length)) count' (λ f. marked (item_is l ∙ f)) e

    pub items_done : c ≤ length (mid_of size (2 * size - size) marks) → length (mid_of size (2 * size - size) marks) ≤ c → count ≡ length (unmarked size marks)
    items_done within end = count_done size count c marks h (omega (arith, items-length)) (omega (arith, items-length))

-- their words

pub record Writing (p n size : ℕ) (marks out : List ℕ) (at c : ℕ) : Type 0 where
  pub room : length out ≡ n * length (unmarked size marks)
  pub inside : at ≤ length out
  pub place : at ≡ n * length (unmarked_below size marks c)
  pub words : take at out ≡ flatten (map (digits p n) (unmarked_below size marks c))

pub write_starts : (p n size : ℕ) (marks out : List ℕ) → length out ≡ n * length (unmarked size marks) → Writing p n size marks out 0 0
unfolding flatten
write_starts p n size marks out room =
    record {
      room = room;
      inside = omega arith;
      place = sym (ap (λ l. n * length l) (below_zero size marks) ∙ mul-zero n);
      words = sym (ap (λ l. flatten (map (digits p n) l)) (below_zero size marks));
    }

module _ (p n size at c : ℕ) (marks out : List ℕ) (h : Writing p n size marks out at c) where
  module _ (l : c < size) (free : get_or marks (size + c) 0 ≡ 0) where
    one_more : n * length (unmarked_below size marks (c + 1)) ≡ at + n
    one_more =
        let longer : length (unmarked_below size marks (c + 1)) ≡ length (unmarked_below size marks c) + 1 =
        ap length (below_free size marks c free) ∙ length-append (unmarked_below size marks c) (c ∷ []) in
        ap (λ k. n * k) longer ∙ omega (arith, h.place)

    -- there is room for n words more, since code c is one of the unmarked codes
    pub next_ends : at + n ≤ length out
    next_ends = omega (arith, one_more, h.room, mul-le-mul_left n (below_few size marks (c + 1) (omega arith)))

    part_length : length (take (at + n - at) (drop at out)) ≡ n
    part_length =
        ap (λ k. length (take k (drop at out))) (add-sub_cancel_left at n) ∙ length-take-le n (drop at out) (rw length-drop (omega (arith, next_ends)))

    module _ (z : List ℕ) (written : z ≡ digits p (length (take (at + n - at) (drop at out))) c) where
      new_words : z ≡ digits p n c
      new_words = written ∙ ap (λ k. digits p k c) part_length

      new_length : length z ≡ n
      new_length = ap length new_words ∙ digits-length p n c

      front : take (at + n) (put_mid at (at + n - at) out z) ≡ take at out ++ z
      front =
          ap (take (at + n)) (sym (append_assoc (take at out) z (post_of at (at + n - at) out)))
          ∙ take_at (take at out ++ z) (post_of at (at + n - at) out) (at + n)
          (length-append (take at out) z ∙ ap₂ ◌+◌ (length-take-le at out (omega (arith, next_ends))) new_length)

      digits_next : flatten (map (digits p n) (unmarked_below size marks (c + 1))) ≡ flatten (map (digits p n) (unmarked_below size marks c)) ++ digits p n c
      unfolding flatten
      digits_next =
          ap (λ l. flatten (map (digits p n) l)) (below_free size marks c free)
          ∙ ap flatten (map-append (digits p n) (unmarked_below size marks c) (c ∷ []))
          ∙ flatten-append (map (digits p n) (unmarked_below size marks c)) (digits p n c ∷ [])
          ∙ ap (λ l. flatten (map (digits p n) (unmarked_below size marks c)) ++ l) (append-nil (digits p n c))

      pub write_turn : (out' : List ℕ) (at' : ℕ) → out' ≡ put_mid at (at + n - at) out z → at' ≡ at + n → Writing p n size marks out' at' (c + 1)
      write_turn out' at' e f =
          let same : length out' ≡ length out = ap length e ∙ same_len_mid at (at + n - at) out z (new_length ∙ sym part_length) in
          record {
            room = same ∙ h.room;
            inside = omega (arith, next_ends, same);
            place = f ∙ sym one_more;
            words = ap₂ take f e ∙ front ∙ ap₂ ◌++◌ h.words new_words ∙ sym digits_next;
          }

  pub write_skip : c < size → (get_or marks (size + c) 0 ≡ 0 → ⊥) → (out' : List ℕ) (at' : ℕ) → out' ≡ out → at' ≡ at → Writing p n size marks out' at' (c + 1)
  write_skip l marked out' at' e f =
      record {
        room = ap length e ∙ h.room;
        inside = omega (arith, ap length e, h.inside);
        place = f ∙ h.place ∙ ap (λ l. n * length l) (sym (below_marked size marks c marked));
        words = ap₂ take f e ∙ h.words ∙ ap (λ l. flatten (map (digits p n) l)) (sym (below_marked size marks c marked));
      }

  pub write_done : c ≤ size → size ≤ c → out ≡ flatten (map (digits p n) (unmarked size marks))
  write_done within l =
      let same : c ≡ size = omega arith in
      let all : unmarked_below size marks c ≡ unmarked size marks = ap (unmarked_below size marks) same ∙ below_all size marks in
      let whole : length out ≤ at = omega (arith, h.room, h.place, ap (λ l. n * length l) all) in
      sym (take_all at out whole) ∙ h.words ∙ ap (λ l. flatten (map (digits p n) l)) all

  pub write_length : (out₀ : List ℕ) → length out₀ ≡ n * length (unmarked size marks) → length out ≡ length out₀
  write_length out₀ e = h.room ∙ sym e
