-- The matrix of the powers of S modulo T: column 0 is 1, column 1 is S, and each further column is S times the column before. Writing column j
-- leaves the columns before it as they are.
use mathlib.Core.Path.{◌≡◌, refl, ap, subst, ◌∙◌}
use mathlib.Core.List.{List}
use Prim.Native.Nat.{ℕ, suc, ◌+◌, ◌-◌, ◌≤◌, ◌<◌}
use native.Mathlib.Omega.{arith}
use lib.ListN.{length, take, set, replicate}
use Rattle.array.specs.Words.{Words}
use Rattle.quotient.specs.Residue.{product, power}
use Rattle.quotient.proofs.Operations.{power_words}
use Rattle.array.proofs.Words.{words_length}
use Rattle.array.specs.Array.{padded, Holds}
use Rattle.matrix.specs.Matrix.{Powers, Multiples, Placed, Kept, matrix_product}
use Rattle.array.proofs.Padded.{array_length, holds_is, front_is}
use Rattle.matrix.proofs.Placed.{placed_next}
use Rattle.matrix.proofs.MultiplicationMatrix.{whole_holds, products_multiply}
use Rattle.residue.proofs.Power.{constant_array, power_none, power_self}

-- a column more

powers_next : {p n : ℕ} {t s : List ℕ} (j : ℕ) (u m m' : List ℕ) → j < 16 → Words p n t → Words p n (power p t s j) → Powers p j t s m → Placed n j u m m'
    → u ≡ padded (power p t s j) → Powers p (j + 1) t s m'
powers_next {p} {n} {t} {s} j u m m' low wt wj h placed e = record {
  size = placed.size ∙ h.size;
  words = λ i k li. placed_next (power p t s) j u m m' low wj placed e (λ i k li. h.words i k (rw (words_length wt) li)) i k (rw (words_length wt) at li);
}

-- the same of arrays that hold T and S

module _ (p n : ℕ) (t s : List ℕ) (big : 2 ≤ p) (short : n ≤ 16) (x : Holds p n t) (y : Holds p n s) where
  words : (k : ℕ) → Words p n (power p (take n t) (take n s) k)
  words k = power_words big x.words y.words k

  -- column 0
  module _ (m m' : List ℕ) (some : 1 ≤ n) (large : length m ≡ 256) (h : Placed n 0 (set (replicate 16 0) 0 1) m m') where
    pub powers_one : Powers p 1 (take n t) (take n s) m'
    powers_one =
        let one : List ℕ = set (replicate 16 0) 0 1 in
        powers_next 0 one m m' (omega arith) x.words (words 0) (record { size = large; words = λ i j li lj. absurd (omega arith) }) h
        (power_none p n 0 t (take n s) one refl x (constant_array n 1 some short))

    pub powers_alone : n ≤ 1 → Powers p n (take n t) (take n s) m'
    powers_alone l =
        let same : 1 ≡ n = omega arith in
        subst (λ k. Powers p k (take n t) (take n s) m') same powers_one

  -- column 1
  pub last_first : s ≡ padded (power p (take n t) (take n s) (2 - 1))
  last_first = power_self p n (2 - 1) t s refl big x y

  pub powers_two : (m m' : List ℕ) → Powers p 1 (take n t) (take n s) m → Placed n 1 s m m' → Powers p 2 (take n t) (take n s) m'
  powers_two m m' h g = powers_next 1 s m m' (omega arith) x.words (words 1) h g last_first

  -- column j
  module _ (j : ℕ) (u u' : List ℕ) (two : 2 ≤ j) (e : u ≡ padded (power p (take n t) (take n s) (j - 1)))
      (f : u' ≡ padded (product p (take n t) (take n s) (take n u))) where
    last_next : u' ≡ padded (power p (take n t) (take n s) j)
    unfolding power
    last_next =
        let up : suc (j - 1) ≡ j = omega arith in
        f ∙ ap padded (ap (product p (take n t) (take n s)) (front_is e (words (j - 1))) ∙ ap (power p (take n t) (take n s)) up)

    pub last_size : length u' ≡ 16
    last_size = array_length n u' short (holds_is last_next (words j)).zeros

    pub last_turn : u' ≡ padded (power p (take n t) (take n s) (j + 1 - 1))
    last_turn =
        let same : j ≡ j + 1 - 1 = omega arith in
        last_next ∙ ap (λ k. padded (power p (take n t) (take n s) k)) same

    pub powers_turn : (m m' : List ℕ) → j < n → Powers p j (take n t) (take n s) m → Placed n j u' m m' → Powers p (j + 1) (take n t) (take n s) m'
    powers_turn m m' l h g = powers_next j u' m m' (omega arith) x.words (words j) h g last_next

-- S·u by the matrix of u ↦ u·S, where u is the last column

module _ (p n j : ℕ) (t s u : List ℕ) (e : u ≡ padded (power p (take n t) (take n s) (j - 1))) (big : 2 ≤ p) (short : n ≤ 16) (x : Holds p n t) (y : Holds p n s) where
  last_holds : Holds p n u
  last_holds = holds_is e (words p n t s big short x y (j - 1))

  pub last_whole : Holds p 16 u
  last_whole = whole_holds p n u big short last_holds

  pub last_product : (r m : List ℕ) → r ≡ padded (matrix_product p n m (take 16 u)) → Multiples p n (take n t) (take n s) m → r ≡ padded (product p (take n t) (take n s) (take n u))
  last_product r m f h = products_multiply p n t s m u r big short x y last_holds h f

pub powers_done : (p n j : ℕ) (t s m : List ℕ) → j ≤ n → n ≤ j → Powers p j t s m → Powers p n t s m
powers_done p n j t s m l l' h =
    let same : j ≡ n = omega arith in
    subst (λ k. Powers p k t s m) same h

-- the columns from n on

pub kept_none : (n : ℕ) (m : List ℕ) → Kept n m m
kept_none n m = record { words = λ i j l l'. refl }

pub kept_placed : (n j : ℕ) (u m m' : List ℕ) → j < n → Placed n j u m m' → Kept n m m'
kept_placed n j u m m' l h = record { words = λ i k low high. h.others i k high (λ e. absurd (omega arith)) }

kept_both : (n : ℕ) (m m' m'' : List ℕ) → Kept n m m' → Kept n m' m'' → Kept n m m''
kept_both n m m' m'' g h = record { words = λ i j low high. h.words i j low high ∙ g.words i j low high }

pub kept_turn : (n j : ℕ) (u m m' m'' : List ℕ) → j < n → Kept n m m' → Placed n j u m' m'' → Kept n m m''
kept_turn n j u m m' m'' l g h = kept_both n m m' m'' g (kept_placed n j u m' m'' l h)

pub kept_after : (n j : ℕ) (u m m' m'' : List ℕ) → j < n → Placed n j u m m' → Kept n m' m'' → Kept n m m''
kept_after n j u m m' m'' l g h = kept_both n m m' m'' (kept_placed n j u m m' l g) h
