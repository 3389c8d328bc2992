-- The loops of `clear`, `collect` and `lows`: number h gets one digit after the other, from the highest down; before the turn for digit j − 1 it has the digits from j on.
use mathlib.Core.Path.{◌≡◌, refl, sym, ap, ap₂, subst, ◌∙◌}
use mathlib.Core.List.{List}
use mathlib.Core.Logic.{⊎_elim}
use Prim.Native.Nat.{ℕ, zero, suc, ◌+◌, ◌-◌, ◌*◌, ◌%◌, ◌^◌, ◌≤◌, ◌<◌}
use native.Mathlib.Nat as Nat
use native.Mathlib.Omega.{arith}
use lib.ListN.{length, get_or, take, drop, set, length-set}
use lib.Seq.{get_or-set_same, get_or-set_other, drop-cons, drop-length}
use Rattle.array.specs.Array.{Holds}
use Rattle.array.specs.Digits.{code}
use Rattle.array.specs.Words.{Words}
use Rattle.array.proofs.Digits.{code_below}
use Rattle.array.proofs.Padded.{words_at}
use Rattle.array.proofs.Words.{words_length, drop_words}
use Rattle.matrix.specs.Matrix.{multiple}
use Rattle.matrix.proofs.MultiplicationMatrix.{multiple_words}
use Rattle.quotient.proofs.SumOfPowers.{sum_word}
use Rattle.sieve.specs.Clauses.{WordsBelow, Plane, Collected, Lows}
use Rattle.sieve.specs.Multiples.{times, lows}
use Rattle.sieve.proofs.LowerWords.{times_words, lows_words}
use Rattle.sieve.proofs.Powers.{half_most, lower_most, prime_most}
use Rattle.sieve.proofs.plane.Blocks.{last_or_below}
use Rattle.sieve.proofs.plane.Planes.{plane_below}

pub product_small : (p a : ℕ) → p ≤ 256 → a < 256 → a * p ≤ 65280
product_small p a small less =
    let first : a * p ≤ 255 * p = Nat.mul-le-mul_right p (omega arith) in
    omega arith

pub word_of : (p count h : ℕ) (xs : List ℕ) → WordsBelow p count xs → h < count → get_or xs h 0 < p
word_of p count h xs w l = w.words h l

-- zeros

pub cleared_none : (xs : List ℕ) → length xs ≡ 32768 → WordsBelow 1 0 xs
cleared_none xs size = record { size = size; words = λ x l. absurd (omega arith) }

pub cleared_turn : (count h : ℕ) (xs : List ℕ) → count ≤ 32768 → h < count → WordsBelow 1 h xs → WordsBelow 1 (h + 1) (set xs h 0)
cleared_turn count h xs room less w = record {
  size = length-set xs h 0 ∙ w.size;
  words = λ x l. ⊎_elim (here x) (λ m. subst (λ a. a < 1) (sym (get_or-set_other xs h x 0 0 (λ f. omega arith))) (w.words x m)) (last_or_below x h l);
}
  where
    here : (x : ℕ) → x ≡ h → get_or (set xs h 0) x 0 < 1
    here x f = subst (λ a. a < 1) (sym (ap (λ k. get_or (set xs h 0) k 0) f ∙ get_or-set_same xs h 0 0 (omega (arith, w.size)))) (omega arith)

pub cleared_done : (p count h : ℕ) (xs : List ℕ) → h ≤ count → count ≤ h → WordsBelow p h xs → WordsBelow p count xs
cleared_done p count h xs l l' w = subst (λ k. WordsBelow p k xs) (omega arith) w

-- one more digit

pub collected_none : (p s : ℕ) (xs codes : List ℕ) → Collected p 0 s xs codes codes
collected_none p s xs codes = record { same_length = refl; words = λ h l. absurd (omega arith); rest = λ h l. refl }

module _ (p count s h : ℕ) (xs codes₀ codes : List ℕ) (less : h < count) (k : Collected p h s xs codes₀ codes) where
  pub collected_old : WordsBelow 256 count codes₀ → get_or codes h 0 < 256
  collected_old w = subst (λ a. a < 256) (sym (k.rest h (Nat.le_refl h))) (w.words h less)

  pub collected_turn : (b r : ℕ) → count ≤ 32768 → length codes₀ ≡ 32768 → b ≡ (get_or xs h 0 + s) % p → r ≡ get_or codes h 0 * p + b
      → Collected p (h + 1) s xs codes₀ (set codes h r)
  collected_turn b r room size e f = record {
    same_length = length-set codes h r ∙ k.same_length;
    words = λ x l. ⊎_elim (here x) (λ m. get_or-set_other codes h x r 0 (λ g. omega arith) ∙ k.words x m) (last_or_below x h l);
    rest = λ x l. get_or-set_other codes h x r 0 (λ g. omega arith) ∙ k.rest x (omega arith);
  }
    where
      here : (x : ℕ) → x ≡ h → get_or (set codes h r) x 0 ≡ get_or codes₀ x 0 * p + (get_or xs x 0 + s) % p
      here x g =
          ap (λ i. get_or (set codes h r) i 0) g ∙ get_or-set_same codes h r 0 (omega (arith, k.same_length)) ∙ f
          ∙ ap₂ (λ a c. a * p + c) (k.rest h (Nat.le_refl h)) e ∙ ap (λ i. get_or codes₀ i 0 * p + (get_or xs i 0 + s) % p) (sym g)

pub collected_done : (p count s h : ℕ) (xs codes₀ codes : List ℕ) → h ≤ count → count ≤ h → Collected p h s xs codes₀ codes → Collected p count s xs codes₀ codes
collected_done p count s h xs codes₀ codes l l' k = subst (λ i. Collected p i s xs codes₀ codes) (omega arith) k

-- digit after digit

module _ {p m : ℕ} {d : List ℕ} (big : 2 ≤ p) (wd : Words p (suc m) d) where
  -- no digit
  begun : (k count : ℕ) (codes : List ℕ) → count ≡ p ^ k → WordsBelow 1 count codes → Lows p d k (suc m) codes
  unfolding code
  begun k count codes e w = record {
    size = w.size;
    words = λ h l.
        let zero : get_or codes h 0 ≡ 0 = omega (arith, w.words h (rw e l)) in
        zero ∙ sym (ap (λ i. code p (drop i (lows p d k h))) (sym (words_length (lows_words big wd k h))) ∙ ap (code p) (drop-length (lows p d k h)));
  }

  -- the number of the digits from j on is below p^n
  few : (k j : ℕ) (codes : List ℕ) → p ^ suc m ≤ 256 → Lows p d k j codes → (h : ℕ) → h < p ^ k → get_or codes h 0 < 256
  few k j codes small w h l =
      let below : code p (drop j (lows p d k h)) < p ^ (suc m - j) = code_below (drop_words (lows_words big wd k h) j) in
      let most : p ^ (suc m - j) ≤ p ^ suc m = Nat.pow-le-pow_right (omega arith) (omega arith) in
      omega (arith, w.words h l)

  -- digit i of lower words
  digit : (k h i : ℕ) → i < suc m → get_or (lows p d k h) i 0 ≡ (get_or (times p d k h) i 0 + get_or (multiple p d d k) i 0) % p
  unfolding lows
  digit k h i l = sum_word (multiple_words big wd wd k) (times_words big wd k h) i l ∙ ap (λ a. a % p) (omega arith)

  one_more : (k i count s : ℕ) (xs old new : List ℕ) → i < suc m → count ≡ p ^ k → s ≡ get_or (multiple p d d k) i 0 → Plane p d k i xs
      → Lows p d k (suc i) old → Collected p count s xs old new → Lows p d k i new
  unfolding code
  one_more k i count s xs old new place e f plane w c = record {
    size = c.same_length ∙ w.size;
    words = λ h l.
        let u : List ℕ = lows p d k h in
        c.words h (rw e l)
        ∙ ap₂ (λ a b. a * p + b % p) (w.words h l) (ap₂ ◌+◌ (plane.words h l) f)
        ∙ ap (λ b. code p (drop (suc i) u) * p + b) (sym (digit k h i place))
        ∙ omega arith
        ∙ ap (code p) (sym (drop-cons u i 0 (rw (words_length (lows_words big wd k h)) place)));
  }

module _ (p n k : ℕ) (t : List ℕ) (big : 2 ≤ p) (some : 1 ≤ n) (h : Holds p n t) where
  pub lows_begun : (count : ℕ) (codes : List ℕ) → count ≡ p ^ k → WordsBelow 1 count codes → Lows p (take n t) k n codes
  lows_begun count codes = by_degree n some h.words
    where
      by_degree : (n : ℕ) → 1 ≤ n → {d : List ℕ} → Words p n d → count ≡ p ^ k → WordsBelow 1 count codes → Lows p d k n codes
      by_degree zero some w = absurd (omega arith)
      by_degree (suc m) some w = begun big w k count codes

  pub lows_below : (j count : ℕ) (codes : List ℕ) → n ≤ k → p ^ (n + k) ≤ 65536 → count ≡ p ^ k → Lows p (take n t) k j codes → WordsBelow 256 count codes
  lows_below j count codes le most e w = record { size = w.size; words = λ x l. by_degree n some h.words (half_most p (n + k) big most n (omega arith)) w x (rw e at l) }
    where
      by_degree : (n : ℕ) → 1 ≤ n → {d : List ℕ} → Words p n d → p ^ n ≤ 256 → Lows p d k j codes → (x : ℕ) → x < p ^ k → get_or codes x 0 < 256
      by_degree zero some w = absurd (omega arith)
      by_degree (suc m) some w = few big w k j codes

  -- word j − 1 of X^k·D
  pub start_below : (j s q : ℕ) → 0 < j → j ≤ n → s ≡ get_or (multiple p (take n t) (take n t) k) (j - 1) 0 → q ≡ p → s < q
  start_below j s q pos le e f = subst (λ x. s < x) (sym f) (subst (λ a. a < p) (sym e) (words_at (multiple_words big h.words h.words k) (j - 1) (omega arith)))

  pub lows_turn : (j count s q : ℕ) (xs old new : List ℕ) → 0 < j → j ≤ n → count ≡ p ^ k → s ≡ get_or (multiple p (take n t) (take n t) k) (j - 1) 0 → q ≡ p
      → Plane p (take n t) k (j - 1) xs → Lows p (take n t) k j old → Collected q count s xs old new → Lows p (take n t) k (j - 1) new
  lows_turn j count s q xs old new pos le e f g plane w c =
      let up : suc (j - 1) ≡ j = omega arith in
      by_degree n some h.words (omega arith) f plane (subst (λ i. Lows p (take n t) k i old) (sym up) w) (subst (λ q. Collected q count s xs old new) g c)
    where
      by_degree : (n : ℕ) → 1 ≤ n → {d : List ℕ} → Words p n d → j - 1 < n → s ≡ get_or (multiple p d d k) (j - 1) 0 → Plane p d k (j - 1) xs → Lows p d k (suc (j - 1)) old
          → Collected p count s xs old new → Lows p d k (j - 1) new
      by_degree zero some w place f plane l c = absurd (omega arith)
      by_degree (suc m) some w place f plane l c = one_more big w k (j - 1) count s xs old new place e f plane l c

pub digit_plane : (p n k j count q : ℕ) (t xs : List ℕ) → Plane p (take n t) k (j - 1) xs → q ≡ p → count ≡ p ^ k → 0 < j → j ≤ n → Holds p n t → 2 ≤ p → WordsBelow q count xs
digit_plane p n k j count q t xs plane f e pos le h big = plane_below p n (j - 1) t big (omega arith) (omega arith) h k count q xs f e plane

pub lows_done : (p k j : ℕ) (d codes : List ℕ) → j ≤ 0 → Lows p d k j codes → Lows p d k 0 codes
lows_done p k j d codes l w = subst (λ i. Lows p d k i codes) (omega arith) w

-- the sizes

pub lows_few : (p n k : ℕ) → 2 ≤ p → 1 ≤ n → p ^ (n + k) ≤ 65536 → p ^ k ≤ 32768
lows_few p n k big some few = lower_most p (n + k) big few k (omega arith)

pub count_few : (p n k count : ℕ) → 2 ≤ p → 1 ≤ n → p ^ (n + k) ≤ 65536 → count ≡ p ^ k → count ≤ 32768
count_few p n k count big some few e = rw e (lows_few p n k big some few)

pub prime_few : (p n k : ℕ) → 2 ≤ p → 1 ≤ n → n ≤ k → p ^ (n + k) ≤ 65536 → p ≤ 256
prime_few p n k big some le few = prime_most p (n + k) big few (omega arith)

pub prime_short : (p n k : ℕ) → 2 ≤ p → 1 ≤ n → n ≤ k → p ^ (n + k) ≤ 65536 → p < 65536
prime_short p n k big some le few = omega (arith, prime_few p n k big some le few)

pub same_few : (p q n k : ℕ) → q ≡ p → 2 ≤ p → 1 ≤ n → n ≤ k → p ^ (n + k) ≤ 65536 → q ≤ 256
same_few p q n k e big some le few = rw e (prime_few p n k big some le few)
