-- A step of Horner's rule with delayed reduction, w ↦ X·w + c·v, in which only the top word of w is reduced.
--   term q c a t v w k   entry k after the step: the word below it (a below the lowest), plus q·t and c·v there
-- The entries agree modulo p with those of the definition.
use mathlib.Core.Path.{◌≡◌, refl, sym, ap, ap₂, ◌∙◌}
use mathlib.Core.List.{List, [], ◌∷◌}
use Prim.Native.Nat.{ℕ, zero, suc, ◌+◌, ◌-◌, ◌*◌, ◌%◌, ◌≤◌, ◌<◌}
use native.Mathlib.Nat as Nat
use native.Mathlib.Numerals.{add-one}
use native.Mathlib.Omega.{arith}
use lib.ListN.{length, get_or, take, drop}
use lib.Seq.{drop-cons, get_or-take, length-take-le}
use Rattle.algebra.proofs.Modulo.{mod-mul-mod, add-mod_cancel}
use Rattle.quotient.specs.Residue.{sum, scale, shift, top, times_x, product}
use Rattle.residue.specs.Delayed.{reduced}
use Rattle.array.proofs.Painted.{table}

unfoldable pub term : ℕ → ℕ → ℕ → List ℕ → List ℕ → List ℕ → ℕ → ℕ
term q c a t v w k = get_or (a ∷ w) k 0 + q * get_or t k 0 + c * get_or v k 0

-- the sum of one entry, reduced once or at each operation
entry_mod : (p a b c : ℕ) → (a + b + c) % p ≡ (c % p + (a % p + b % p) % p) % p
entry_mod p a b c = simp (Nat.mod-add-mod, Nat.add-mod-mod) (ap (λ x. x % p) (omega arith))

-- all entries: modulo p they are those of c·v + X·w, with a in the place of the lowest word
table-mod : (p q c a n : ℕ) (t v w : List ℕ) → n ≤ length t → n ≤ length v → n ≤ length w
    → reduced p (table (term q c a t v w) n)
    ≡ sum p (scale p c (take n v)) (sum p (shift (a % p) (reduced p (take n w))) (scale p q (take n t)))
unfolding reduced table term sum scale shift
table-mod p q c a zero t v w f g h = refl
table-mod p q c a (suc n) [] v w f g h = absurd (omega arith)
table-mod p q c a (suc n) (x ∷ t) [] w f g h = absurd (omega arith)
table-mod p q c a (suc n) (x ∷ t) (y ∷ v) [] f g h = absurd (omega arith)
table-mod p q c a (suc n) (x ∷ t) (y ∷ v) (z ∷ w) f g h =
    ap₂ ◌∷◌ (entry_mod p a (q * x) (c * y)) (table-mod p q c z n t v w (omega arith) (omega arith) (omega arith))

-- the word that falls out at the top
top-reduced : (p a n : ℕ) (w : List ℕ) → n < length w → top a (reduced p (take (suc n) w)) ≡ get_or w n 0 % p
unfolding top reduced
top-reduced p a n [] h = absurd (omega arith)
top-reduced p a zero (x ∷ w) h = refl
top-reduced p a (suc n) (x ∷ w) h = top-reduced p (x % p) n w (omega arith)

-- only the factor modulo p matters
scale_same : (p q r : ℕ) (t : List ℕ) → q % p ≡ r % p → scale p q t ≡ scale p r t
unfolding scale
scale_same p q r [] e = refl
scale_same p q r (a ∷ t) e = ap₂ ◌∷◌ (sym (mod-mul-mod q p a) ∙ ap (λ x. x * a % p) e ∙ mod-mul-mod r p a) (scale_same p q r t e)

-- q and p - top are both the opposite of the top word
opposite_top : (p q n : ℕ) (w : List ℕ) → 0 < p → 0 < n → n ≤ length w → (q + get_or w (n - 1) 0) % p ≡ 0 → q % p ≡ (p - top 0 (reduced p (take n w))) % p
opposite_top p q zero w b h l e = absurd (omega arith)
opposite_top p q (suc n) w b h l e =
    let last : suc n - 1 ≡ n = omega arith in
    let x : ℕ = get_or w n 0 in
    add-mod_cancel q (p - x % p) x p b
    (ap (λ k. (q + get_or w k 0) % p) (sym last) ∙ e
    ∙ sym (Nat.mod_self p) ∙ ap (λ y. y % p) (sym (Nat.sub-add_cancel (Nat.le_of_lt (Nat.mod-lt x b)))) ∙ Nat.add-mod-mod (p - x % p) x p)
    ∙ ap (λ y. (p - y) % p) (sym (top-reduced p 0 n w l))

-- c·v + X·w, as the definition has it
pub step_mod : (p q c n : ℕ) (t v w : List ℕ) → 0 < p → 0 < n → n ≤ length t → n ≤ length v → n ≤ length w → (q + get_or w (n - 1) 0) % p ≡ 0
    → reduced p (table (term q c 0 t v w) n) ≡ sum p (scale p c (take n v)) (times_x p (take n t) (reduced p (take n w)))
unfolding times_x
step_mod p q c n t v w b h l m k e =
    table-mod p q c 0 n t v w l m k
    ∙ ap₂ (λ a s. sum p (scale p c (take n v)) (sum p (shift a (reduced p (take n w))) s)) (Nat.zero-mod p)
    (scale_same p q (p - top 0 (reduced p (take n w))) (take n t) (opposite_top p q n w b h k e))

-- the product by the words from i on, from that by the words from i + 1 on
pub product_at : (p n i : ℕ) (t u v : List ℕ) → i < n → n ≤ length u
    → product p t (drop i (take n u)) v ≡ sum p (scale p (get_or u i 0) v) (times_x p t (product p t (drop (i + 1) (take n u)) v))
unfolding product
product_at p n i t u v l h =
    ap (λ x. product p t x v) (drop-cons (take n u) i 0 (rw (length-take-le n u h) l))
    ∙ ap₂ (λ a k. sum p (scale p a v) (times_x p t (product p t (drop k (take n u)) v))) (get_or-take n u i 0 l) (sym (add-one i))
