-- Powers of a residue on arrays: 1, X, and the power that comes from the square of the power to half the exponent.
use mathlib.Core.Path.{◌≡◌, refl, sym, ap, ap₂, ◌∙◌}
use mathlib.Core.List.{List, [], ◌∷◌}
use Prim.Native.Nat.{ℕ, zero, suc, ◌+◌, ◌-◌, ◌*◌, ◌/◌, ◌%◌, ◌^◌, ◌≤◌}
use native.Mathlib.Nat as Nat
use native.Mathlib.Omega.{arith}
use lib.ListN.{get_or, take, set, replicate}
use lib.Seq.{get_or-take}
use mir.Syntax.{w64}
use mir.Val.{Fits}
use Rattle.algebra.proofs.RingLaws as RingLaws
use Rattle.array.specs.Words.{Words, none, more}
use Rattle.quotient.specs.Residue.{sum, scale, shift, top, times_x, constant, product, power, residue_of_x}
use Rattle.quotient.proofs.Sums.{sum-zero, scale_modulus}
use Rattle.quotient.proofs.Operations.{product_words, power_words}
use Rattle.array.proofs.Words.{words_length, zeros_words}
use Rattle.quotient.proofs.Ring.{residue_ring, mul_residue, power_is}
use Rattle.array.specs.Array.{padded, Holds}
use Rattle.array.proofs.Padded.{padded_zeros, holds_word, holds_is, front_is}

pub constant_array : (n c : ℕ) → 1 ≤ n → n ≤ 16 → set (replicate 16 0) 0 c ≡ padded (constant n c)
unfolding constant padded
constant_array zero c h l = absurd (omega arith)
constant_array (suc n) c h l = ap (λ l. set l 0 c) (padded_zeros (suc n) l)

-- X modulo T, of degree 1 and of degree at least 2

shift_zeros : (c n : ℕ) → shift c (replicate (suc n) 0) ≡ c ∷ replicate n 0
unfolding shift
shift_zeros c zero = refl
shift_zeros c (suc n) = ap (◌∷◌ c) (shift_zeros 0 n)

top_zeros : (c n : ℕ) → top c (replicate (suc n) 0) ≡ 0
unfolding top
top_zeros c zero = refl
top_zeros c (suc n) = top_zeros 0 n

x_of_degree_one : {p : ℕ} {t : List ℕ} → Words p 1 t → residue_of_x p t ≡ (p - 1) * get_or t 0 0 % p ∷ []
unfolding residue_of_x times_x sum scale shift top constant
x_of_degree_one (more h none) = simp (Nat.zero-add, Nat.mod-mod)

x_of_higher_degree : {p n : ℕ} {t : List ℕ} → 2 ≤ p → Words p (suc (suc n)) t → residue_of_x p t ≡ 0 ∷ 1 ∷ replicate n 0
unfolding residue_of_x times_x constant shift top
x_of_higher_degree {p} {n} {t} big w =
    rw (words_length w, shift_zeros 1 n, top_zeros 1 n, Nat.sub-zero p, scale_modulus w) (sum-zero (more (omega arith) (more big (zeros_words n (omega arith)))))

pub x_linear : (p n : ℕ) (t : List ℕ) → n ≡ 1 → Holds p n t → set (replicate 16 0) 0 ((p - 1) * get_or t 0 0 % p) ≡ padded (residue_of_x p (take n t))
unfolding padded
x_linear p zero t e x = absurd (omega arith)
x_linear p (suc zero) t e x =
    ap (λ a. padded ((p - 1) * a % p ∷ [])) (sym (get_or-take 1 t 0 0 (omega arith))) ∙ ap padded (sym (x_of_degree_one x.words))
x_linear p (suc (suc n)) t e x = absurd (omega arith)

pub x_higher : (p n : ℕ) (t : List ℕ) → 2 ≤ p → 1 ≤ n → n ≤ 16 → (n ≡ 1 → ⊥) → Holds p n t → set (replicate 16 0) 1 1 ≡ padded (residue_of_x p (take n t))
unfolding padded
x_higher p zero t big h l f x = absurd (omega arith)
x_higher p (suc zero) t big h l f x = absurd (f refl)
x_higher p (suc (suc n)) t big h l f x =
    ap (λ l. set l 1 1) (padded_zeros (suc (suc n)) l) ∙ ap padded (sym (x_of_higher_degree big x.words))

pub x_fits : (p n : ℕ) (t : List ℕ) → p ≤ 2 ^ 20 → 1 ≤ n → Holds p n t → Fits w64 ((p - 1) * get_or t 0 0)
x_fits p n t b h x =
    let f : p - 1 ≤ 2 ^ 20 = omega arith in
    let g : get_or t 0 0 ≤ 2 ^ 20 = omega (arith, holds_word x 0 h) in
    omega (arith, Nat.mul-le-mul f g)

-- the laws of exponents
module _ {p n : ℕ} {t : List ℕ} (big : 2 ≤ p) (wt : Words p n t) {u : List ℕ} (wu : Words p n u) where
  pub power-one : power p t u 1 ≡ u
  power-one = power_is big wt (u, wu) 1 ∙ ap (λ a. a.0) (RingLaws.power-one (residue_ring big wt) (u, wu))

  power_sum : (j k : ℕ) → power p t u (j + k) ≡ product p t (power p t u j) (power p t u k)
  unfolding residue_ring mul_residue
  power_sum j k =
      power_is big wt (u, wu) (j + k)
      ∙ ap (λ a. a.0) (RingLaws.power-add (residue_ring big wt) (u, wu) j k)
      ∙ ap₂ (product p t) (sym (power_is big wt (u, wu) j)) (sym (power_is big wt (u, wu) k))

  pub power_even : (k : ℕ) → k % 2 ≡ 0 → product p t (power p t u (k / 2)) (power p t u (k / 2)) ≡ power p t u k
  power_even k e =
      let f : k / 2 + k / 2 ≡ k = omega arith in
      sym (power_sum (k / 2) (k / 2)) ∙ ap (power p t u) f

  pub power_odd : (k : ℕ) → (k % 2 ≡ 0 → ⊥) → product p t u (product p t (power p t u (k / 2)) (power p t u (k / 2))) ≡ power p t u k
  unfolding power
  power_odd k e =
      let f : suc (k / 2 + k / 2) ≡ k = omega arith in
      ap (product p t u) (sym (power_sum (k / 2) (k / 2))) ∙ ap (power p t u) f

-- the same of arrays that hold t and the powers of u

pub power_none : (p n k : ℕ) (t u r : List ℕ) → k ≡ 0 → Holds p n t → r ≡ padded (constant n 1) → r ≡ padded (power p (take n t) u k)
unfolding power
power_none p n k t u r z x e =
    e ∙ ap padded (ap (λ m. constant m 1) (sym (words_length x.words)) ∙ ap (power p (take n t) u) (sym z))

pub power_starts : (p n k : ℕ) (t u w : List ℕ) → k ≡ 0 → 1 ≤ n → n ≤ 16 → Holds p n t → w ≡ replicate 16 0 → set w 0 1 ≡ padded (power p (take n t) u k)
power_starts p n k t u w z h l x e = power_none p n k t u (set w 0 1) z x (ap (λ v. set v 0 1) e ∙ constant_array n 1 h l)

pub power_self : (p n k : ℕ) (t u : List ℕ) → k ≡ 1 → 2 ≤ p → Holds p n t → Holds p n u → u ≡ padded (power p (take n t) (take n u) k)
power_self p n k t u e big x y = y.zeros ∙ ap padded (sym (power-one big x.words y.words) ∙ ap (power p (take n t) (take n u)) (sym e))

pub power_holds : (p n k : ℕ) (t u h : List ℕ) → h ≡ padded (power p (take n t) u k) → 2 ≤ p → Holds p n t → Words p n u → Holds p n h
power_holds p n k t u h e big x y = holds_is e (power_words big x.words y k)

pub square_holds : (p n k : ℕ) (t u h s : List ℕ) → s ≡ padded (product p (take n t) (take n h) (take n h)) → h ≡ padded (power p (take n t) (take n u) k)
    → 2 ≤ p → Holds p n t → Holds p n u → Holds p n s
square_holds p n k t u h s f e big x y = holds_is f (product_words big x.words (take n h) (power_holds p n k t (take n u) h e big x y.words).words)

pub power_even_array : (p n k : ℕ) (t u h s : List ℕ) → s ≡ padded (product p (take n t) (take n h) (take n h)) → h ≡ padded (power p (take n t) u (k / 2))
    → 2 ≤ p → Holds p n t → Words p n u → k % 2 ≡ 0 → s ≡ padded (power p (take n t) u k)
power_even_array p n k t u h s f e big x y z =
    let i : take n h ≡ power p (take n t) u (k / 2) = front_is e (power_words big x.words y (k / 2)) in
    f ∙ ap padded (ap₂ (product p (take n t)) i i ∙ power_even big x.words y k z)

pub power_odd_array : (p n k : ℕ) (t u h s r : List ℕ) → r ≡ padded (product p (take n t) u (take n s)) → s ≡ padded (product p (take n t) (take n h) (take n h))
    → h ≡ padded (power p (take n t) u (k / 2)) → 2 ≤ p → Holds p n t → Words p n u → (k % 2 ≡ 0 → ⊥) → r ≡ padded (power p (take n t) u k)
power_odd_array p n k t u h s r g f e big x y z =
    let i : take n h ≡ power p (take n t) u (k / 2) = front_is e (power_words big x.words y (k / 2)) in
    let j : take n s ≡ product p (take n t) (take n h) (take n h) = front_is f (product_words big x.words (take n h) (power_holds p n (k / 2) t u h e big x y).words) in
    g ∙ ap padded (ap (product p (take n t) u) (j ∙ ap₂ (product p (take n t)) i i) ∙ power_odd big x.words y k z)
