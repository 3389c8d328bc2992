-- Rows c·v + q·t added to the words of an array from word i on: no sum overflows, a turn of the loop adds to one word more, and what is added is at most 3·p².
use mathlib.Core.Path.{◌≡◌, refl, ap, subst, ◌∙◌}
use mathlib.Core.List.{List}
use Prim.Native.Nat.{ℕ, ◌+◌, ◌*◌, ◌^◌, ◌≤◌, ◌<◌}
use native.Mathlib.Nat as Nat
use native.Mathlib.Decide.{ℕ_discrete}
use native.Mathlib.Omega.{arith}
use lib.ListN.{length, get_or, set, length-set}
use lib.Seq.{get_or-set_same, get_or-set_other}
use mir.Syntax.{w64}
use mir.Val.{Fits}
use Rattle.array.specs.Array.{Holds}
use Rattle.array.proofs.Padded.{array_length}
use Rattle.residue.specs.Delayed.{Added, Half}

-- x + c·v + q·t
module _ (x c v q t : ℕ) (hx : x ≤ 2 ^ 60) (hc : c < 2 ^ 20) (hv : v < 2 ^ 20) (hq : q ≤ 2 ^ 21) (ht : t < 2 ^ 20) where
  first_small : c * v ≤ 2 ^ 20 * 2 ^ 20
  first_small = Nat.mul-le-mul (Nat.le_of_lt hc) (Nat.le_of_lt hv)

  second_small : q * t ≤ 2 ^ 21 * 2 ^ 20
  second_small = Nat.mul-le-mul hq (Nat.le_of_lt ht)

  pub first_fits : (a : ℕ) → a ≡ c * v → Fits w64 (x + a)
  first_fits a h = omega (arith, first_small)

  pub both_fit : (a b : ℕ) → a ≡ c * v → b ≡ q * t → Fits w64 (x + a + b)
  both_fit a b h g = omega (arith, first_small, second_small)

  pub both_small : (a b : ℕ) → a ≡ c * v → b ≡ q * t → x + a + b ≤ 2 ^ 62
  both_small a b h g = omega (arith, first_small, second_small)

pub set_same : (z : List ℕ) (k x y : ℕ) → x ≡ y → set z k x ≡ set z k y
set_same z k x y e = ap (set z k) e

-- the loop that adds a row

pub added_start : (i c q : ℕ) (v t z : List ℕ) → length z ≡ 32 → Added i c q v t 0 z z
added_start i c q v t z s = record { size = s; words = λ j l. absurd (omega arith); before = λ m l. refl; after = λ m l. refl }

pub added_turn : (i c q j n : ℕ) (v t z z' z'' : List ℕ) → n ≤ 16 → i < n → j < n → Added i c q v t j z z'
    → z'' ≡ set z' (i + j) (get_or z' (i + j) 0 + c * get_or v j 0 + q * get_or t j 0) → Added i c q v t (j + 1) z z''
added_turn i c q j n v t z z' z'' short low l A e =
    rw e
    (record {
      size = length-set z' (i + j) x ∙ A.size;
      words = λ k l. go k l (ℕ_discrete k j);
      before = λ m l. get_or-set_other z' (i + j) m x 0 (omega arith) ∙ A.before m l;
      after = λ m l. get_or-set_other z' (i + j) m x 0 (omega arith) ∙ A.after m (omega arith);
    })
  where
    x : ℕ
    x = get_or z' (i + j) 0 + c * get_or v j 0 + q * get_or t j 0

    here : get_or (set z' (i + j) x) (i + j) 0 ≡ get_or z (i + j) 0 + c * get_or v j 0 + q * get_or t j 0
    here = get_or-set_same z' (i + j) x 0 (omega (arith, A.size)) ∙ ap (λ y. y + c * get_or v j 0 + q * get_or t j 0) (A.after (i + j) (omega arith))

    go : (k : ℕ) → k < j + 1 → Dec (k ≡ j) → get_or (set z' (i + j) x) (i + k) 0 ≡ get_or z (i + k) 0 + c * get_or v k 0 + q * get_or t k 0
    go k l (yes d) = rw d here
    go k l (no d) = get_or-set_other z' (i + j) (i + k) x 0 (omega arith) ∙ A.words k (omega arith)

pub added_end : (i c q j n : ℕ) (v t z z' : List ℕ) → j ≤ n → n ≤ j → Added i c q v t j z z' → Added i c q v t n z z'
added_end i c q j n v t z z' l l' A =
    let same : j ≡ n = omega arith in
    subst (λ k. Added i c q v t k z z') same A

pub added_size : {i c q j : ℕ} {v t z z' : List ℕ} → Added i c q v t j z z' → length z' ≡ 32
added_size A = A.size

pub holds_size : {p n : ℕ} {xs : List ℕ} → Holds p n xs → n ≤ 16 → length xs ≡ 16
holds_size {n = n} {xs = xs} h b = array_length n xs b h.zeros

-- the word that the next turn adds to
pub added_word : (p n i c q j : ℕ) (v t z z' : List ℕ) → p ≤ 2 ^ 20 → j < n → Half p n 16 i z → Added i c q v t j z z' → get_or z' (i + j) 0 ≤ 2 ^ 60
added_word p n i c q j v t z z' b l H A =
    omega (arith, A.after (i + j) (omega arith), H.small (i + j) (omega arith), Nat.mul-le-mul b b)
