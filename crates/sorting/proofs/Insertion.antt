-- Sorting by insertion keeps the elements and makes an ascending list of distinct lists of one length.
--   insert_ascending   u inserted into an ascending list that has it not
--   sorted_ascending   f 0, …, f (k − 1), if they are distinct
use mathlib.Core.Path.{◌≡◌, refl, sym, ap, subst, ◌∙◌}
use mathlib.Core.Bool.{Bool, true, false, true≢false}
use mathlib.Core.List.{List, [], ◌∷◌}
use mathlib.Core.Logic.{◌⊎◌, inl, inr, ⊎_elim}
use Prim.Native.Nat.{ℕ, zero, suc, ◌<◌}
use native.Mathlib.Nat.{eq-or-lt_of_le, le_of_suc-le-suc}
use native.Mathlib.Omega.{arith}
use lib.ListN.{length}
use Rattle.algebra.specs.Lists.{Member}
use Rattle.algebra.proofs.Lists.{all_member, member_all}
use Rattle.array.specs.Ascending.{lower, Ascending}
use Rattle.array.proofs.Ascending.{lower_irreflexive, lower_transitive, lower_linear}
use Rattle.sorting.specs.Sorting.{earlier, later, insert, sorted}

-- the lower of two lists is put first

module _ (u v : List ℕ) where
  pub earlier-lower : lower u v ≡ true → earlier u v ≡ u
  unfolding earlier
  earlier-lower e = ap (λ b. elim b [ true ↦ u | false ↦ v ]) e

  pub later-lower : lower u v ≡ true → later u v ≡ v
  unfolding later
  later-lower e = ap (λ b. elim b [ true ↦ v | false ↦ u ]) e

  pub earlier_other : lower u v ≡ false → earlier u v ≡ v
  unfolding earlier
  earlier_other e = ap (λ b. elim b [ true ↦ u | false ↦ v ]) e

  pub later_other : lower u v ≡ false → later u v ≡ u
  unfolding later
  later_other e = ap (λ b. elim b [ true ↦ v | false ↦ u ]) e

  pub ordered : ((lower u v ≡ true) × (earlier u v ≡ u) × (later u v ≡ v)) ⊎ ((lower u v ≡ false) × (earlier u v ≡ v) × (later u v ≡ u))
  ordered = by_test (lower u v) refl
    where
      by_test : (b : Bool) → lower u v ≡ b
          → ((lower u v ≡ true) × (earlier u v ≡ u) × (later u v ≡ v)) ⊎ ((lower u v ≡ false) × (earlier u v ≡ v) × (later u v ≡ u))
      by_test true e = inl (e, earlier-lower e, later-lower e)
      by_test false e = inr (e, earlier_other e, later_other e)

pub insert-length : (u : List ℕ) (us : List (List ℕ)) → length (insert u us) ≡ suc (length us)
unfolding insert
insert-length u [] = refl
insert-length u (v ∷ us) = ap suc (insert-length (later u v) us)

pub insert_member : (u a : List ℕ) (us : List (List ℕ)) → Member a (insert u us) → (a ≡ u) ⊎ Member a us
unfolding insert
insert_member u a [] m = m
insert_member u a (v ∷ us) m =
    ⊎_elim
    (λ (_, e, l). ⊎_elim (λ f. inl (f ∙ e)) (λ k. ⊎_elim (λ f. inr (inl (f ∙ l))) (λ i. inr (inr i)) (insert_member (later u v) a us k)) m)
    (λ (_, e, l). ⊎_elim (λ f. inr (inl (f ∙ e))) (λ k. ⊎_elim (λ f. inl (f ∙ l)) (λ i. inr (inr i)) (insert_member (later u v) a us k)) m)
    (ordered u v)

pub member_insert : (u a : List ℕ) (us : List (List ℕ)) → (a ≡ u) ⊎ Member a us → Member a (insert u us)
unfolding insert
member_insert u a [] m = m
member_insert u a (v ∷ us) m =
    ⊎_elim
    (λ (_, e, l). ⊎_elim (λ f. inl (f ∙ sym e)) (⊎_elim (λ f. inr (member_insert (later u v) a us (inl (f ∙ sym l)))) (λ i. inr (member_insert (later u v) a us (inr i)))) m)
    (λ (_, e, l). ⊎_elim (λ f. inr (member_insert (later u v) a us (inl (f ∙ sym l)))) (⊎_elim (λ f. inl (f ∙ sym e)) (λ i. inr (member_insert (later u v) a us (inr i)))) m)
    (ordered u v)

pub insert_ascending : (n : ℕ) (u : List ℕ) (us : List (List ℕ)) → length u ≡ n → ((a : List ℕ) → Member a us → length a ≡ n) → Ascending us → (Member u us → ⊥)
    → Ascending (insert u us)
unfolding insert
insert_ascending n u [] size sizes h absent = (tt, tt)
insert_ascending n u (v ∷ us) size sizes h absent =
    ⊎_elim
    (λ (less, e, l).
    rw (e, l) (
      member_all (λ a. lower u a ≡ true) (insert v us)
          (λ a m. ⊎_elim (λ f. subst (λ b. lower u b ≡ true) (sym f) less) (λ i. lower_transitive u v a less (after a i)) (insert_member v a us m)),
      insert_ascending n v us (sizes v (inl refl)) (λ a m. sizes a (inr m)) h.1 (λ m. lower_irreflexive v (after v m)),
    ))
    (λ (not_less, e, l).
    let more : lower v u ≡ true =
    ⊎_elim (λ f. absurd (true≢false (sym f ∙ not_less))) (⊎_elim (λ f. absurd (absent (inl f))) (λ f. f)) (lower_linear u v (size ∙ sym (sizes v (inl refl)))) in
    rw (e, l) (
      member_all (λ a. lower v a ≡ true) (insert u us) (λ a m. ⊎_elim (λ f. subst (λ b. lower v b ≡ true) (sym f) more) (after a) (insert_member u a us m)),
      insert_ascending n u us size (λ a m. sizes a (inr m)) h.1 (λ m. absent (inr m)),
    ))
    (ordered u v)
  where
    after : (a : List ℕ) → Member a us → lower v a ≡ true
    after a m = all_member (λ b. lower v b ≡ true) us h.0 a m

-- f 0, …, f (k − 1)

module _ (f : ℕ → List ℕ) where
  pub sorted-length : (k : ℕ) → length (sorted f k) ≡ k
  unfolding sorted
  sorted-length zero = refl
  sorted-length (suc k) = insert-length (f k) (sorted f k) ∙ ap suc (sorted-length k)

  pub sorted_member : (k : ℕ) (a : List ℕ) → Member a (sorted f k) → (j : ℕ) × (j < k) × (a ≡ f j)
  unfolding sorted
  sorted_member zero a m = elim m [ ]
  sorted_member (suc k) a m =
      ⊎_elim (λ e. (k, omega arith, e)) (λ l. let (j, b, e) = sorted_member k a l in (j, omega arith, e)) (insert_member (f k) a (sorted f k) m)

  pub member_sorted : (k j : ℕ) → j < k → Member (f j) (sorted f k)
  unfolding sorted
  member_sorted zero j l = absurd (omega arith)
  member_sorted (suc k) j l =
      member_insert (f k) (f j) (sorted f k) (⊎_elim (λ e. inl (ap f e)) (λ b. inr (member_sorted k j b)) (eq-or-lt_of_le (le_of_suc-le-suc l)))

  pub sorted_ascending : (n : ℕ) → ((j : ℕ) → length (f j) ≡ n) → (k : ℕ) → ((i j : ℕ) → i < k → j < k → f i ≡ f j → i ≡ j) → Ascending (sorted f k)
  unfolding sorted
  sorted_ascending n sizes zero distinct = tt
  sorted_ascending n sizes (suc k) distinct =
      insert_ascending n (f k) (sorted f k) (sizes k) (λ a m. let (j, l, e) = sorted_member k a m in ap length e ∙ sizes j)
      (sorted_ascending n sizes k (λ i j l m. distinct i j (omega arith) (omega arith)))
      (λ m. let (j, l, e) = sorted_member k (f k) m in let g : k ≡ j = distinct k j (omega arith) (omega arith) e in omega arith)
