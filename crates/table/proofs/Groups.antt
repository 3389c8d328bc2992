-- Tables go group by group: where f makes n words below p of n words below p, the k-th image starts at the k-th multiple of n.
--   Maps p n f         f takes n words below p to n words below p
--   groups_words       then the images of groups of such words are such words
--   group_by_group     and the j-th group of the images is the image of the j-th group
--   groups_same        two maps that agree on such words have the same images
--   groups_undone      a map that undoes f gives the groups back
--   images, converted_images   what that says of a table to which 9, 10 and 4 do not apply
use mathlib.Core.Path.{◌≡◌, refl, sym, ap, ap₂, ◌∙◌}
use mathlib.Core.List.{List, [], ◌++◌}
use Prim.Native.Nat.{ℕ, zero, suc, ◌+◌, ◌*◌, ◌/◌, ◌≤◌, ◌<◌}
use native.Mathlib.Nat as Nat
use native.Mathlib.Omega.{arith}
use lib.ListN.{length, take, drop, take-append-drop}
use lib.Seq.{take_at, drop_at, drop-drop}
use Rattle.quotient.specs.Map.{Undoes}
use Rattle.quotient.specs.Residue.{substitute}
use Rattle.quotient.proofs.Operations.{substitute_words}
use Rattle.array.specs.Words.{Words, none}
use Rattle.array.proofs.Words.{words_length, take_words, drop_words, append_words}
use Rattle.table.specs.Table.{each_group, converted, Images}
use Rattle.table.proofs.Convertible.{Convertible, whole_groups}

abbrev pub Maps : ℕ → ℕ → (List ℕ → List ℕ) → Type 0
Maps p n f = (u : List ℕ) → Words p n u → Words p n (f u)

-- one group and the groups after it
parts : {p : ℕ} (n k : ℕ) {u : List ℕ} → Words p (suc k * n) u → Words p n (take n u) × Words p (k * n) (drop n u)
parts {p} n k {u} w =
    let e : suc k * n ≡ n + k * n = Nat.suc-mul k n ∙ Nat.add_comm (k * n) n in
    (take_words w n (omega arith), rw (e, Nat.add-sub_cancel_left) at (drop_words w n))

drop_groups : (n j : ℕ) (xs : List ℕ) → drop (suc j * n) xs ≡ drop (j * n) (drop n xs)
drop_groups n j xs = ap (λ m. drop m xs) (Nat.suc-mul j n ∙ Nat.add_comm (j * n) n) ∙ sym (drop-drop (j * n) n xs)

module _ {p n : ℕ} (f : List ℕ → List ℕ) (maps : Maps p n f) where
  pub groups_words : (k : ℕ) (table : List ℕ) → Words p (k * n) table → Words p (k * n) (each_group n f k table)
  unfolding each_group
  groups_words zero table w = rw Nat.zero-mul none
  groups_words (suc k) table w =
      let (first, later) = parts n k w in
      rw (Nat.suc-mul, Nat.add_comm (k * n) n) (append_words (maps (take n table) first) (groups_words k (drop n table) later))

  module _ (k : ℕ) (table : List ℕ) (w : Words p n (take n table)) where
    first_group : take n (each_group n f (suc k) table) ≡ f (take n table)
    unfolding each_group
    first_group = take_at (f (take n table)) (each_group n f k (drop n table)) n (words_length (maps (take n table) w))

    later_groups : drop n (each_group n f (suc k) table) ≡ each_group n f k (drop n table)
    unfolding each_group
    later_groups = drop_at (f (take n table)) (each_group n f k (drop n table)) n (words_length (maps (take n table) w))

  pub group_by_group : (k j : ℕ) (table : List ℕ) → Words p (k * n) table → j < k
      → take n (drop (j * n) (each_group n f k table)) ≡ f (take n (drop (j * n) table))
  group_by_group zero j table w h = absurd (omega arith)
  group_by_group (suc k) zero table w h = rw Nat.zero-mul (first_group k table (parts n k w).0)
  group_by_group (suc k) (suc j) table w h =
      let (first, later) = parts n k w in
      ap (take n) (drop_groups n j (each_group n f (suc k) table) ∙ ap (drop (j * n)) (later_groups k table first))
      ∙ group_by_group k j (drop n table) later (omega arith)
      ∙ ap (λ xs. f (take n xs)) (sym (drop_groups n j table))

  pub groups_undone : (g : List ℕ → List ℕ) → Undoes p n g f → (k : ℕ) (table : List ℕ) → Words p (k * n) table
      → each_group n g k (each_group n f k table) ≡ table
  unfolding each_group
  groups_undone g undoes zero table w = no_words (rw Nat.zero-mul at w)
    where
      no_words : {u : List ℕ} → Words p 0 u → [] ≡ u
      no_words none = refl
  groups_undone g undoes (suc k) table w =
      let (first, later) = parts n k w in
      ap₂ (λ xs ys. g xs ++ each_group n g k ys) (first_group k table first) (later_groups k table first)
      ∙ ap₂ ◌++◌ (undoes (take n table) first) (groups_undone g undoes k (drop n table) later)
      ∙ take-append-drop n table

pub groups_same : {p n : ℕ} (f g : List ℕ → List ℕ) → ((u : List ℕ) → Words p n u → f u ≡ g u) → (k : ℕ) (table : List ℕ) → Words p (k * n) table
    → each_group n f k table ≡ each_group n g k table
unfolding each_group
groups_same f g same zero table w = refl
groups_same {n = n} f g same (suc k) table w =
    let (first, later) = parts n k w in
    ap₂ ◌++◌ (same (take n table) first) (groups_same f g same k (drop n table) later)

-- a table to which 9, 10 and 4 do not apply
module _ {p n : ℕ} {table out : List ℕ} (h : Convertible p n table out) where
  pub table_groups : Words p (length table / n * n) table
  table_groups = rw (whole_groups h) h.words

  -- under any map of groups
  module _ (f : List ℕ → List ℕ) (maps : Maps p n f) where
    pub image_words : Words p (length table) (each_group n f (length table / n) table)
    image_words = rw (whole_groups h) at (groups_words f maps (length table / n) table table_groups)

    pub images : Images n f table (each_group n f (length table / n) table)
    images = record { same_length = words_length image_words; groups = λ k below. group_by_group f maps (length table / n) k table table_groups below }

  module _ {t s : List ℕ} (big : 2 ≤ p) (wt : Words p n t) (ws : Words p n s) where
    maps : Maps p n (substitute p t s)
    maps u w = substitute_words big wt ws w

    pub converted_words : Words p (length table) (converted p n t s table)
    unfolding converted
    converted_words = image_words (substitute p t s) maps

    pub converted_images : Images n (substitute p t s) table (converted p n t s table)
    unfolding converted
    converted_images = images (substitute p t s) maps

    -- what was converted can be converted again, into a list of the output's length
    pub converted_convertible : (lent : List ℕ) → length lent ≡ length out → Convertible p n (converted p n t s table) lent
    converted_convertible lent room =
        let l : length (converted p n t s table) ≡ length table = words_length converted_words in
        record {
          sizes = record { few = rw l h.sizes.few; groups = rw l h.sizes.groups; lengths = rw l (room ∙ h.sizes.lengths) };
          words = rw l converted_words;
        }

    -- by a map that undoes the first, into the table
    pub converted_undone : (t' s' : List ℕ) → Undoes p n (substitute p t' s') (substitute p t s)
        → converted p n t' s' (converted p n t s table) ≡ table
    unfolding converted
    converted_undone t' s' undoes =
        ap (λ k. each_group n (substitute p t' s') (k / n) (converted p n t s table)) (words_length converted_words)
        ∙ groups_undone (substitute p t s) maps (substitute p t' s') undoes (length table / n) table table_groups
