-- Laws of the work on column c: the search for a pivot, bringing it to row c, and clearing the other rows.
--   Scanned n c m i            from row c to row i − 1 the words of column c are 0
--   Clearing p n c k m b m' b' the rows before row k, but for row c, are 0 in column c, and row c has 1 there
use mathlib.Core.Path.{◌≡◌, sym, ap, ◌∙◌}
use mathlib.Core.List.{List}
use Prim.Native.Nat.{ℕ, ◌+◌, ◌-◌, ◌*◌, ◌%◌, ◌≤◌, ◌<◌}
use native.Mathlib.Decide.{ℕ_discrete}
use native.Mathlib.Nat.{mod_self, mul_comm}
use native.Mathlib.Omega.{arith}
use Rattle.algebra.specs.Prime.{Prime}
use Rattle.modular.proofs.Inverse.{inverse_product}
use Rattle.modular.specs.Inverse.{inverse}
use Rattle.array.specs.Array.{entry}
use Rattle.linear.specs.Elimination.{Reduced, Equivalent, RowStep, Advanced, Prepared}

pub record Scanned (n c : ℕ) (m : List ℕ) (i : ℕ) : Type 0 where
  pub from : c ≤ i
  pub to : i ≤ n
  pub zeros : (k : ℕ) → c ≤ k → k < i → entry m k c ≡ 0

pub equivalent_refl : (p n : ℕ) (m b : List ℕ) → Equivalent p n m b m b
equivalent_refl p n m b = record { forth = λ t v l h. h; back = λ t v l h. h }

pub equivalent_trans : {p n : ℕ} {m b m' b' m'' b'' : List ℕ} → Equivalent p n m b m' b' → Equivalent p n m' b' m'' b'' → Equivalent p n m b m'' b''
equivalent_trans e f =
    record { forth = λ t v l h. f.forth t v l (e.forth t v l h); back = λ t v l h. e.back t v l (f.back t v l h) }

pub record Clearing (p n c k : ℕ) (m b m' b' : List ℕ) : Type 0 where
  pub reduced : Reduced p n c m' b'
  pub equivalent : Equivalent p n m b m' b'
  pub one : entry m' c c ≡ 1
  pub zeros : (i : ℕ) → i < k → (i ≡ c → ⊥) → entry m' i c ≡ 0

-- e + (p − e)·1 is p, which is 0. After a turn the matrix and the right side are x and y, by either way.
pub clear_turn : (p n c i : ℕ) (m b m' b' m'' b'' x y : List ℕ) → c < n → i < n → (i ≡ c → ⊥) → Clearing p n c i m b m' b'
    → RowStep p n c i ((entry m' i c + (p - entry m' i c) * entry m' c c) % p) m' b' m'' b'' → x ≡ m'' → y ≡ b'' → Clearing p n c (i + 1) m b x y
clear_turn p n c i m b m' b' m'' b'' x y column row d C S ex ey =
    rw (ex, ey)
    (record {
      reduced = S.reduced;
      equivalent = equivalent_trans C.equivalent S.equivalent;
      one = S.others c column (λ z. d (sym z)) ∙ C.one;
      zeros = λ k h g. go k h g (ℕ_discrete k i);
    })
  where
    sum : entry m' i c + (p - entry m' i c) * entry m' c c ≡ p
    sum = rw C.one (omega (arith, C.reduced.matrix.square.below i c row column))

    go : (k : ℕ) → k < i + 1 → (k ≡ c → ⊥) → Dec (k ≡ i) → entry m'' k c ≡ 0
    go k h g (yes z) = rw z (S.changed ∙ ap (λ y. y % p) sum ∙ mod_self p)
    go k h g (no z) = S.others k (omega arith) z ∙ C.zeros k (omega arith) g

pub clear_skip : (p n c i : ℕ) (m b m' b' x y : List ℕ) → i ≡ c → Clearing p n c i m b m' b' → x ≡ m' → y ≡ b' → Clearing p n c (i + 1) m b x y
clear_skip p n c i m b m' b' x y e C ex ey =
    rw (ex, ey)
    (record { reduced = C.reduced; equivalent = C.equivalent; one = C.one; zeros = λ k h d. C.zeros k (omega arith) d })

pub clear_end : (p n c i : ℕ) (m b m' b' : List ℕ) → n ≤ i → Clearing p n c i m b m' b' → Advanced p n (c + 1) m b m' b'
clear_end p n c i m b m' b' h C =
    record {
      reduced =
          record {
            matrix = record { square = C.reduced.matrix.square; diagonal = λ j l. diagonal j l (ℕ_discrete j c); others = λ k j l g d. others k j l g d (ℕ_discrete j c) };
            size = C.reduced.size;
            below = C.reduced.below;
            zeros = C.reduced.zeros;
          };
      equivalent = C.equivalent;
    }
  where
    diagonal : (j : ℕ) → j < c + 1 → Dec (j ≡ c) → entry m' j j ≡ 1
    diagonal j l (yes e) = rw e C.one
    diagonal j l (no d) = C.reduced.matrix.diagonal j (omega arith)

    others : (k j : ℕ) → k < n → j < c + 1 → (k ≡ j → ⊥) → Dec (j ≡ c) → entry m' k j ≡ 0
    others k j l g d (yes e) = rw e (C.zeros k (omega arith) (λ z. d (z ∙ sym e)))
    others k j l g d (no z) = C.reduced.matrix.others k j l (omega arith) d

-- The pivot and its inverse, as `eliminate` hands them on.
pub pivot_below : (p n c : ℕ) (m b m' b' : List ℕ) → Prepared p n c m b m' b' → c < n → entry m' c c < p
pivot_below p n c m b m' b' S h = S.advanced.reduced.matrix.square.below c c h h

pub pivot_inverse : (p n c a : ℕ) (m b m' b' : List ℕ) → Prime p → Prepared p n c m b m' b' → c < n → a ≡ inverse p (entry m' c c)
    → (a * entry m' c c) % p ≡ 1
pivot_inverse p n c a m b m' b' prime S h e =
    rw (e, mul_comm (inverse p (entry m' c c)) (entry m' c c))
    (inverse_product p (entry m' c c) prime S.positive (pivot_below p n c m b m' b' S h))

pub eliminated : (p n c : ℕ) (m b m' b' x y x' y' : List ℕ) → Prepared p n c m b m' b' → RowStep p n c c 1 m' b' x y → Advanced p n (c + 1) x y x' y'
    → Advanced p n (c + 1) m b x' y'
eliminated p n c m b m' b' x y x' y' P S A =
    record {
      reduced = A.reduced;
      equivalent = equivalent_trans P.advanced.equivalent (equivalent_trans S.equivalent A.equivalent);
    }
