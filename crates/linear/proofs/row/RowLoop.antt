-- The loops of the two row operations: a turn writes one column more, and at the end a row operation is done.
use mathlib.Core.Path.{◌≡◌, refl, ap, ap₂, subst, ◌∙◌}
use mathlib.Core.List.{List}
use Prim.Native.Nat.{ℕ, ◌+◌, ◌*◌, ◌%◌, ◌≤◌, ◌<◌}
use native.Mathlib.Nat.{mod-mod}
use native.Mathlib.Omega.{arith}
use lib.ListN.{get_or, set}
use Rattle.linear.proofs.Congruence.{product_congruent}
use Rattle.linear.proofs.row.Write.{Written, written_turn, written_next}
use Rattle.array.specs.Array.{entry}
use Rattle.linear.specs.Elimination.{Reduced, RowStep}
use Rattle.linear.proofs.row.RowStep.{added, scaled, added_step, scaled_step}

-- A turn of each loop, and what the loop leaves.
pub added_turn : (p f n c x y k w : ℕ) (m m' : List ℕ) → Written (added p f m x y) x c k m m' → n ≤ 16 → x < n → k < n
    → w ≡ (entry m' x k + f * entry m' y k) % p → Written (added p f m x y) x c (k + 1) m (set m' (16 * x + k) w)
unfolding added
added_turn p f n c x y k w m m' W small hx hk e =
    let same = written_next (added p f m x y) x c k m m' W (omega arith) in
    written_turn (added p f m x y) x c k w m m' W (omega arith) (e ∙ ap₂ (λ s t. (s + f * t) % p) (same x) (same y))

pub added_end : (p f n c x y k w : ℕ) (m b m' : List ℕ) → 2 ≤ p → n ≤ 16 → c < n → x < n → y < n → c ≤ y → (x ≡ y → ⊥) → Reduced p n c m b
    → (c ≤ n → k ≤ n) → n ≤ k → Written (added p f m x y) x c k m m' → w ≡ (get_or b x 0 + f * get_or b y 0) % p
    → RowStep p n c x ((entry m x c + f * entry m y c) % p) m b m' (set b x w)
added_end p f n c x y k w m b m' big small column row row' from differ R l g W e =
    let W' : Written (added p f m x y) x c n m m' = subst (λ z. Written (added p f m x y) x c z m m') (omega (arith, l (omega arith))) W in
    added_step p f n c x y w m b m' W' (omega arith) small column row row' from differ R e

pub scaled_turn : (p a n c k w : ℕ) (m m' : List ℕ) → Written (scaled p a m c) c c k m m' → n ≤ 16 → c < n → k < n
    → w ≡ (0 + a * entry m' c k) % p → Written (scaled p a m c) c c (k + 1) m (set m' (16 * c + k) w)
unfolding scaled
scaled_turn p a n c k w m m' W small hc hk e =
    let same = written_next (scaled p a m c) c c k m m' W (omega arith) in
    written_turn (scaled p a m c) c c k w m m' W (omega arith) (e ∙ ap (λ s. (0 + a * s) % p) (same c) ∙ ap (λ s. s % p) (omega arith))

-- The factor a is the number i that was handed over, modulo p, so that it has the same product with the pivot e.
factor_product : (p i a e : ℕ) → a ≡ i % p → (i * e) % p ≡ 1 → (a * e) % p ≡ 1
factor_product p i a e h one = product_congruent p a i e e (ap (λ x. x % p) h ∙ mod-mod i p) refl ∙ one

pub scaled_end : (p i a n c k w : ℕ) (m b m' : List ℕ) → 2 ≤ p → n ≤ 16 → c < n → (i * entry m c c) % p ≡ 1 → a ≡ i % p → Reduced p n c m b
    → (c ≤ n → k ≤ n) → n ≤ k → Written (scaled p a m c) c c k m m' → w ≡ (0 + a * get_or b c 0) % p → RowStep p n c c 1 m b m' (set b c w)
scaled_end p i a n c k w m b m' big small column one factor R l g W e =
    let W' : Written (scaled p a m c) c c n m m' = subst (λ q. Written (scaled p a m c) c c q m m') (omega (arith, l (omega arith))) W in
    scaled_step p a n c w m b m' W' (omega arith) small column (factor_product p i a (entry m c c) factor one) R e
