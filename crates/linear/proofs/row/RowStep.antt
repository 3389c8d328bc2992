-- The two row operations of elimination give an equivalent system and leave the first c columns alone.
--   added p f m x y   the words of row x plus f times row y, modulo p: undone by adding f·(p − 1) times row y
--   scaled p a m x    the words of a times row x, modulo p: undone by a factor z with a·z = 1
use mathlib.Core.Path.{◌≡◌, refl, sym, ap, ◌∙◌}
use mathlib.Core.List.{List}
use Prim.Native.Nat.{ℕ, ◌+◌, ◌-◌, ◌*◌, ◌%◌, ◌≤◌, ◌<◌}
use native.Mathlib.Nat.{mod-lt, mod-mod, add-mul-mod_self_left}
use native.Mathlib.Decide.{ℕ_discrete, dec_lt}
use native.Mathlib.Omega.{arith}
use lib.ListN.{get_or, set, length-set}
use lib.Seq.{get_or-set_same, get_or-set_other}
use Rattle.linear.proofs.row.Combination.{Combination, SameButRow, equivalent_by_row}
use Rattle.linear.proofs.Congruence.{sum_congruent, product_congruent}
use Rattle.linear.proofs.row.Write.{Written, written_other, written_left}
use Rattle.array.specs.Array.{entry}
use Rattle.linear.specs.Elimination.{Reduced, RowStep}

-- What both operations have in common: F j in row x for the columns j from c on, and the word w in row x of b.
module _ (F : ℕ → ℕ) (p n c x w : ℕ) (m b m' : List ℕ) (W : Written F x c n m m') (small : n ≤ 16) (row : x < n) (R : Reduced p n c m b) where
  column_kept : (i j : ℕ) → j < c → entry m' i j ≡ entry m i j
  column_kept i j h = go (ℕ_discrete i x)
    where
      go : Dec (i ≡ x) → entry m' i j ≡ entry m i j
      go (yes e) = rw e (written_left F x c n m m' W j h)
      go (no d) = written_other F x c n m m' W small i j (omega (arith, W.from)) d

  word_below : ((j : ℕ) → F j < p) → (i j : ℕ) → i < n → j < n → entry m' i j < p
  word_below below i j h g = go (ℕ_discrete i x) (dec_lt j c)
    where
      go : Dec (i ≡ x) → Dec (j < c) → entry m' i j < p
      go d (yes l) = rw (column_kept i j l) (R.matrix.square.below i j h g)
      go (no d) (no l) = rw (written_other F x c n m m' W small i j (omega arith) d) (R.matrix.square.below i j h g)
      go (yes e) (no l) = rw (e, W.done j (omega arith) g) (below j)

  step_reduced : ((j : ℕ) → F j < p) → w < p → Reduced p n c m' (set b x w)
  step_reduced below l =
      record {
        matrix =
            record {
              square = record { size = W.size; below = word_below below };
              diagonal = λ j h. column_kept j j h ∙ R.matrix.diagonal j h;
              others = λ i j h g d. column_kept i j g ∙ R.matrix.others i j h g d;
            };
        size = length-set b x w ∙ R.size;
        below = λ i h. go i h (ℕ_discrete i x);
        zeros = λ i h. get_or-set_other b x i w 0 (omega arith) ∙ R.zeros i h;
      }
    where
      go : (i : ℕ) → i < n → Dec (i ≡ x) → get_or (set b x w) i 0 < p
      go i h (yes e) = rw (e, get_or-set_same b x w 0 (omega (arith, R.size))) l
      go i h (no d) = rw (get_or-set_other b x i w 0 d) (R.below i h)

  step_same : SameButRow n x m b m' (set b x w)
  step_same =
      record {
        entries = λ i j h g d. written_other F x c n m m' W small i j (omega arith) d;
        right = λ i h d. get_or-set_other b x i w 0 d;
      }

  right_changed : get_or (set b x w) x 0 ≡ w
  right_changed = get_or-set_same b x w 0 (omega (arith, R.size))

unfoldable pub added : ℕ → ℕ → List ℕ → ℕ → ℕ → ℕ → ℕ
added p f m x y j = (entry m x j + f * entry m y j) % p

unfoldable pub scaled : ℕ → ℕ → List ℕ → ℕ → ℕ → ℕ
scaled p a m x j = (a * entry m x j) % p

-- d = e + f·g gives e = d + f·(p − 1)·g.
undo_added : (p z f e g d : ℕ) → z + 1 ≡ p → d % p ≡ (1 * e + f * g) % p → e % p ≡ (1 * d + f * z * g) % p
undo_added p z f e g d s h =
    let q : 1 * e + f * g + f * z * g ≡ e + p * (f * g) = rw (← s) (omega arith) in
    sym (add-mul-mod_self_left e p (f * g)) ∙ ap (λ k. k % p) (sym q)
    ∙ sum_congruent p (1 * e + f * g) (1 * d) (f * z * g) (f * z * g) (sym h ∙ ap (λ k. k % p) (omega arith)) refl

-- d = a·e gives e = z·d.
undo_scaled : (p a z e d k : ℕ) → (a * z) % p ≡ 1 % p → d % p ≡ (a * e + 0 * e) % p → e % p ≡ (z * d + 0 * k) % p
undo_scaled p a z e d k s h =
    let start : 1 * e ≡ e = omega arith in
    let turn : a * z * e ≡ z * (a * e + 0 * e) = omega arith in
    let end : z * d ≡ z * d + 0 * k = omega arith in
    sym (ap (λ q. q % p) start) ∙ product_congruent p 1 (a * z) e e (sym s) refl ∙ ap (λ q. q % p) turn
    ∙ product_congruent p z z (a * e + 0 * e) d refl (sym h) ∙ ap (λ q. q % p) end

module _ (p f n c x y w : ℕ) (m b m' : List ℕ) (W : Written (added p f m x y) x c n m m') (positive : 0 < p) (small : n ≤ 16) (column : c < n)
    (row : x < n) (row' : y < n) (from : c ≤ y) (differ : x ≡ y → ⊥) (R : Reduced p n c m b) (e : w ≡ (get_or b x 0 + f * get_or b y 0) % p) where
  added_entry : (j : ℕ) → j < n → entry m' x j % p ≡ (1 * entry m x j + f * entry m y j) % p
  unfolding added
  added_entry j h = go (dec_lt j c)
    where
      go : Dec (j < c) → entry m' x j % p ≡ (1 * entry m x j + f * entry m y j) % p
      go (yes l) =
          let kept : entry m' x j ≡ entry m x j = written_left (added p f m x y) x c n m m' W j l in
          let zero : entry m y j ≡ 0 = R.matrix.others y j row' l (omega arith) in
          ap (λ k. k % p) (kept ∙ rw zero (omega arith))
      go (no l) =
          let done : entry m' x j ≡ (entry m x j + f * entry m y j) % p = W.done j (omega arith) h in
          rw (done, mod-mod) (ap (λ k. k % p) (omega arith))

  added_right : get_or (set b x w) x 0 % p ≡ (1 * get_or b x 0 + f * get_or b y 0) % p
  added_right =
      rw (right_changed (added p f m x y) p n c x w m b m' W small row R, e, mod-mod) (ap (λ k. k % p) (omega arith))

  added_there : Combination p n m b m' (set b x w) x
  added_there = record { x = x; y = y; a = 1; f = f; x_row = row; y_row = row'; entries = added_entry; right = added_right }

  added_back : Combination p n m' (set b x w) m b x
  added_back =
      record {
        x = x;
        y = y;
        a = 1;
        f = f * (p - 1);
        x_row = row;
        y_row = row';
        entries = λ j h. rw (same.entries y j row' h other) (undo_added p (p - 1) f (entry m x j) (entry m y j) (entry m' x j) (omega arith) (added_entry j h));
        right = rw (same.right y row' other) (undo_added p (p - 1) f (get_or b x 0) (get_or b y 0) (get_or (set b x w) x 0) (omega arith) added_right);
      }
    where
      same : SameButRow n x m b m' (set b x w)
      same = step_same (added p f m x y) p n c x w m b m' W small row R

      other : y ≡ x → ⊥
      other d = differ (sym d)

  pub added_step : RowStep p n c x ((entry m x c + f * entry m y c) % p) m b m' (set b x w)
  unfolding added
  added_step =
      record {
        reduced = step_reduced (added p f m x y) p n c x w m b m' W small row R (λ j. mod-lt (entry m x j + f * entry m y j) positive) (rw e (mod-lt (get_or b x 0 + f * get_or b y 0) positive));
        equivalent = equivalent_by_row p n x m b m' (set b x w) (step_same (added p f m x y) p n c x w m b m' W small row R) added_there added_back;
        changed = W.done c (omega arith) column;
        others = λ i h d. written_other (added p f m x y) x c n m m' W small i c (omega arith) d;
      }

module _ (p a n c w : ℕ) (m b m' : List ℕ) (W : Written (scaled p a m c) c c n m m') (positive : 0 < p) (small : n ≤ 16) (column : c < n)
    (inverse : (a * entry m c c) % p ≡ 1) (R : Reduced p n c m b) (e : w ≡ (0 + a * get_or b c 0) % p) where
  one : 1 % p ≡ 1
  one = ap (λ k. k % p) (sym inverse) ∙ mod-mod (a * entry m c c) p ∙ inverse

  scaled_entry : (j : ℕ) → j < n → entry m' c j % p ≡ (a * entry m c j + 0 * entry m c j) % p
  unfolding scaled
  scaled_entry j h = go (dec_lt j c)
    where
      go : Dec (j < c) → entry m' c j % p ≡ (a * entry m c j + 0 * entry m c j) % p
      go (yes l) =
          let kept : entry m' c j ≡ entry m c j = written_left (scaled p a m c) c c n m m' W j l in
          let zero : entry m c j ≡ 0 = R.matrix.others c j column l (omega arith) in
          ap (λ k. k % p) (kept ∙ rw zero (omega arith))
      go (no l) =
          let done : entry m' c j ≡ (a * entry m c j) % p = W.done j (omega arith) h in
          rw (done, mod-mod) (ap (λ k. k % p) (omega arith))

  scaled_right : get_or (set b c w) c 0 % p ≡ (a * get_or b c 0 + 0 * get_or b c 0) % p
  scaled_right =
      rw (right_changed (scaled p a m c) p n c c w m b m' W small column R, e, mod-mod) (ap (λ k. k % p) (omega arith))

  scaled_back : Combination p n m' (set b c w) m b c
  scaled_back =
      record {
        x = c;
        y = c;
        a = entry m c c;
        f = 0;
        x_row = column;
        y_row = column;
        entries = λ j h. undo_scaled p a (entry m c c) (entry m c j) (entry m' c j) (entry m' c j) (inverse ∙ sym one) (scaled_entry j h);
        right = undo_scaled p a (entry m c c) (get_or b c 0) (get_or (set b c w) c 0) (get_or (set b c w) c 0) (inverse ∙ sym one) scaled_right;
      }

  pub scaled_step : RowStep p n c c 1 m b m' (set b c w)
  unfolding scaled
  scaled_step =
      record {
        reduced = step_reduced (scaled p a m c) p n c c w m b m' W small column R (λ j. mod-lt (a * entry m c j) positive) (rw e (mod-lt (0 + a * get_or b c 0) positive));
        equivalent =
            equivalent_by_row p n c m b m' (set b c w) (step_same (scaled p a m c) p n c c w m b m' W small column R)
            (record { x = c; y = c; a = a; f = 0; x_row = column; y_row = column; entries = scaled_entry; right = scaled_right })
            scaled_back;
        changed = W.done c (omega arith) column ∙ inverse;
        others = λ i h d. written_other (scaled p a m c) c c n m m' W small i c (omega arith) d;
      }
