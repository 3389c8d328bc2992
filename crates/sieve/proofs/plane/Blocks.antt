-- The loops of `add_block` and `extend`: a block is written word by word, and what stands before it stays; all blocks that are there are added to at once, so that their number
-- doubles.
--   Doubled p size c to v xs₀ xs   the words so far: some blocks, `to` words in all, and v for as many more
use mathlib.Core.Path.{◌≡◌, refl, sym, ap, ap₂, subst, ◌∙◌}
use mathlib.Core.List.{List}
use mathlib.Core.Logic.{◌⊎◌, inl, inr, ⊎_elim}
use Prim.Native.Nat.{ℕ, min, suc, ◌+◌, ◌-◌, ◌*◌, ◌%◌, ◌≤◌, ◌<◌}
use native.Mathlib.Decide.{dec_le, dec_lt}
use native.Mathlib.Nat as Nat
use native.Mathlib.Omega.{arith}
use lib.ListN.{length, get_or, set, length-set}
use lib.Seq.{get_or-set_same, get_or-set_other}
use Rattle.sieve.specs.Clauses.{WordsBelow, Block, Extended}

pub last_or_below : (y x : ℕ) → y < x + 1 → (y ≡ x) ⊎ (y < x)
last_or_below y x l = let le : y ≤ x = omega arith in Nat.eq-or-lt_of_le le

-- a block

pub block_none : (p to v : ℕ) (xs : List ℕ) → Block p 0 to v xs xs
block_none p to v xs = record { same_length = refl; inside = λ x l. absurd (omega arith); before = λ i l. refl }

module _ (p size to v x : ℕ) (xs₀ xs : List ℕ) (far : size ≤ to) (less : x < size) (h : Block p x to v xs₀ xs) where
  -- the first words are as they were
  pub block_word : WordsBelow p size xs₀ → get_or xs x 0 < p
  block_word w = subst (λ a. a < p) (sym (h.before x (omega arith))) (w.words x less)

  block_length : WordsBelow p size xs₀ → length xs ≡ 32768
  block_length w = h.same_length ∙ w.size

  pub block_turn : (r : ℕ) → WordsBelow p size xs₀ → to + size ≤ 32768 → r ≡ (get_or xs x 0 + v) % p → Block p (x + 1) to v xs₀ (set xs (to + x) r)
  block_turn r w room e = record {
    same_length = length-set xs (to + x) r ∙ h.same_length;
    inside = λ y l. ⊎_elim (here y) (λ m. get_or-set_other xs (to + x) (to + y) r 0 (λ f. omega arith) ∙ h.inside y m) (last_or_below y x l);
    before = λ i l. get_or-set_other xs (to + x) i r 0 (λ f. omega arith) ∙ h.before i l;
  }
    where
      here : (y : ℕ) → y ≡ x → get_or (set xs (to + x) r) (to + y) 0 ≡ (get_or xs₀ y 0 + v) % p
      here y f =
          ap (λ k. get_or (set xs (to + x) r) (to + k) 0) f ∙ get_or-set_same xs (to + x) r 0 (omega (arith, block_length w)) ∙ e
          ∙ ap (λ a. (a + v) % p) (h.before x (omega arith)) ∙ ap (λ k. (get_or xs₀ k 0 + v) % p) (sym f)

pub block_done : (p size to v x : ℕ) (xs₀ xs : List ℕ) → x ≤ size → size ≤ x → Block p x to v xs₀ xs → Block p size to v xs₀ xs
block_done p size to v x xs₀ xs l l' h = subst (λ k. Block p k to v xs₀ xs) (omega arith) h

-- blocks, twice as many in each turn

remainder_sum : (p x y : ℕ) → (x % p + y % p) % p ≡ (x + y) % p
remainder_sum p x y = Nat.add-mod-mod (x % p) y p ∙ Nat.mod-add-mod x p y

-- the first k of a blocks once more, plus a·c
module _ (p size c a k : ℕ) (xs₀ xs ys : List ℕ) (few : k ≤ a) (h : Extended p a size c xs₀ xs) (b : Block p (k * size) (a * size) (a * c % p) xs ys) where
  earlier : (i x : ℕ) → x < size → i < a → get_or ys (i * size + x) 0 ≡ (get_or xs₀ x 0 + i * c) % p
  earlier i x m l =
      let up : suc i * size ≤ a * size = Nat.mul-le-mul_right size l in
      b.before (i * size + x) (omega arith) ∙ h.words i x l m

  again : (i x : ℕ) → x < size → i < k → get_or ys ((a + i) * size + x) 0 ≡ (get_or xs₀ x 0 + (a + i) * c) % p
  again i x m l =
      let up : suc i * size ≤ k * size = Nat.mul-le-mul_right size l in
      ap (λ j. get_or ys j 0) (omega arith) ∙ b.inside (i * size + x) (omega arith)
      ∙ ap (λ y. (y + a * c % p) % p) (h.words i x (omega arith) m) ∙ remainder_sum p (get_or xs₀ x 0 + i * c) (a * c) ∙ ap (λ y. y % p) (omega arith)

  extended_more : Extended p (a + k) size c xs₀ ys
  extended_more = record {
    same_length = b.same_length ∙ h.same_length;
    words = λ i x l m. by_block i x l m (dec_lt i a);
  }
    where
      by_block : (i x : ℕ) → i < a + k → x < size → Dec (i < a) → get_or ys (i * size + x) 0 ≡ (get_or xs₀ x 0 + i * c) % p
      by_block i x l m (yes n) = earlier i x m n
      by_block i x l m (no n) =
          let back : a + (i - a) ≡ i = omega arith in
          subst (λ j. get_or ys (j * size + x) 0 ≡ (get_or xs₀ x 0 + j * c) % p) back (again (i - a) x m (omega arith))

-- before a turn: `to` words in some blocks, all below p, and what is added to them for as many blocks further on
pub record Doubled (p size c to v : ℕ) (xs₀ xs : List ℕ) : Type 0 where
  pub blocks : ℕ
  pub some : 1 ≤ blocks
  pub most : blocks ≤ p
  pub place : to ≡ blocks * size
  pub value : blocks < p → v ≡ blocks * c % p
  pub below : WordsBelow p to xs
  pub done : Extended p blocks size c xs₀ xs

pub doubled_first : (p size c : ℕ) (xs : List ℕ) → 2 ≤ p → c < p → WordsBelow p size xs → Doubled p size c size c xs xs
doubled_first p size c xs big less w = record {
  blocks = 1;
  some = omega arith;
  most = omega arith;
  place = omega arith;
  value = λ l. sym (ap (λ x. x % p) (Nat.one-mul c) ∙ Nat.mod-eq_of_lt less);
  below = w;
  done = record {
    same_length = refl;
    words = λ a x l m.
        let none : a ≡ 0 = omega arith in
        subst (λ b. get_or xs (b * size + x) 0 ≡ (get_or xs x 0 + b * c) % p) (sym none)
        (ap (λ k. get_or xs k 0) (omega arith) ∙ sym (Nat.mod-eq_of_lt (w.words x m)) ∙ ap (λ y. y % p) (omega arith));
  };
}

fewer_below : (p to more : ℕ) (xs : List ℕ) → WordsBelow p to xs → more ≤ to → WordsBelow p more xs
fewer_below p to more xs w l = record { size = w.size; words = λ x m. w.words x (omega arith) }

pub doubled_below : (p size c to v more : ℕ) (xs₀ xs : List ℕ) → Doubled p size c to v xs₀ xs → more ≤ to → WordsBelow p more xs
doubled_below p size c to v more xs₀ xs h l = fewer_below p to more xs h.below l

-- the words of a block are below p too
more_below : (p to more v : ℕ) (xs ys : List ℕ) → 2 ≤ p → WordsBelow p to xs → Block p more to v xs ys → WordsBelow p (to + more) ys
more_below p to more v xs ys big w b = record { size = b.same_length ∙ w.size; words = λ x l. by_place x l (dec_lt x to) }
  where
    by_place : (x : ℕ) → x < to + more → Dec (x < to) → get_or ys x 0 < p
    by_place x l (yes m) = subst (λ a. a < p) (sym (b.before x m)) (w.words x m)
    by_place x l (no m) =
        let back : to + (x - to) ≡ x = omega arith in
        subst (λ j. get_or ys j 0 < p) back (subst (λ a. a < p) (sym (b.inside (x - to) (omega arith))) (Nat.mod-lt (get_or xs (x - to) 0 + v) (omega arith)))

module _ (p size c to v more end : ℕ) (xs₀ xs ys : List ℕ) (h : Doubled p size c to v xs₀ xs) (big : 2 ≤ p) (filled : 1 ≤ size) (e : end ≡ p * size) (less : to < end) where
  -- how many blocks are added
  less_blocks : h.blocks < p
  less_blocks = by_size (dec_lt h.blocks p)
    where
      by_size : Dec (h.blocks < p) → h.blocks < p
      by_size (yes l) = l
      by_size (no l) =
          let all : p * size ≤ h.blocks * size = Nat.mul-le-mul_right size (omega arith) in
          absurd (omega (arith, h.place))

  cancel : (j k : ℕ) → j * size ≤ k * size → j ≤ k
  cancel j k l = by_size (dec_le j k)
    where
      by_size : Dec (j ≤ k) → j ≤ k
      by_size (yes m) = m
      by_size (no m) =
          let up : suc k * size ≤ j * size = Nat.mul-le-mul_right size (omega arith) in
          absurd (omega arith)

  added : (more ≡ to) ⊎ (more ≡ end - to) → (k : ℕ) × (more ≡ k * size) × ((k ≡ h.blocks) ⊎ (h.blocks + k ≡ p))
  added (inl f) = (h.blocks, f ∙ h.place, inl refl)
  added (inr f) =
      let whole : h.blocks + (p - h.blocks) ≡ p = omega (arith, h.most) in
      (p - h.blocks, f ∙ omega (arith, e, h.place, ap (λ k. k * size) whole), inr whole)

  choice : more ≡ min to (end - to) → (more ≡ to) ⊎ (more ≡ end - to)
  choice least = by_size (dec_lt to (end - to))
    where
      by_size : Dec (to < end - to) → (more ≡ to) ⊎ (more ≡ end - to)
      by_size (yes l) = inl (omega arith)
      by_size (no l) = inr (omega arith)

  pub doubled_turn : (v' : ℕ) → more ≡ min to (end - to) → v' ≡ (v + v) % p → Block p more to v xs ys → Doubled p size c (to + more) v' xs₀ ys
  doubled_turn v' least f b = by_count (added (choice least))
    where
      by_count : (k : ℕ) × (more ≡ k * size) × ((k ≡ h.blocks) ⊎ (h.blocks + k ≡ p)) → Doubled p size c (to + more) v' xs₀ ys
      by_count (k, g, count) =
          let a : ℕ = h.blocks in
          let few : k ≤ a = cancel k a (omega (arith, g, h.place)) in
          let rest : (a + k) * size ≤ p * size = omega (arith, g, h.place, e) in
          let value : v ≡ a * c % p = h.value less_blocks in
          let block : Block p (k * size) (a * size) (a * c % p) xs ys = rw (g, h.place, value) at b in
          record {
            blocks = a + k;
            some = omega (arith, h.some);
            most = cancel (a + k) p rest;
            place = omega (arith, g, h.place);
            value = λ l. ⊎_elim (λ same. f ∙ ap₂ (λ x y. (x + y) % p) value value ∙ remainder_sum p (a * c) (a * c) ∙ ap (λ x. x % p) (omega (arith, ap (λ i. i * c) same))) (λ full. absurd (omega arith)) count;
            below = more_below p to more v xs ys big h.below b;
            done = extended_more p size c a k xs₀ xs ys few h.done block;
          }

pub doubled_end : (p size c to v end : ℕ) (xs₀ xs : List ℕ) → Doubled p size c to v xs₀ xs → 1 ≤ size → end ≡ p * size → end ≤ to → Extended p p size c xs₀ xs
doubled_end p size c to v end xs₀ xs h filled e l = subst (λ a. Extended p a size c xs₀ xs) all h.done
  where
    all : h.blocks ≡ p
    all = by_size (dec_lt h.blocks p)
      where
        by_size : Dec (h.blocks < p) → h.blocks ≡ p
        by_size (no m) = omega (arith, h.most)
        by_size (yes m) =
            let up : suc h.blocks * size ≤ p * size = Nat.mul-le-mul_right size m in
            absurd (omega (arith, h.place))

pub first_end : (p size end : ℕ) → 2 ≤ p → end ≡ p * size → size ≤ end
first_end p size end big e = let up : 2 * size ≤ p * size = Nat.mul-le-mul_right size big in omega arith
