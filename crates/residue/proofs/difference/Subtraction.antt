-- The loop of `subtract`: the words of u − v one after another.
--   minus_word p u v k   word k of u − v
use mathlib.Core.Path.{◌≡◌, refl, sym, ap, ap₂, ◌∙◌}
use mathlib.Core.List.{List, [], ◌∷◌}
use Prim.Native.Nat.{ℕ, zero, suc, ◌+◌, ◌-◌, ◌*◌, ◌%◌, ◌≤◌, ◌<◌}
use native.Mathlib.Nat.{add-mod-mod, add-mul-mod_self_left}
use native.Mathlib.Omega.{arith}
use lib.ListN.{length, get_or, take, set, replicate}
use Rattle.array.specs.Array.{padded, Holds}
use Rattle.array.specs.Words.{Words, more}
use Rattle.array.proofs.Padded.{array_fits, painted-table}
use Rattle.array.proofs.Painted.{painted, table, painted_turn}
use Rattle.quotient.specs.Residue.{sum, scale}

unfoldable pub minus_word : ℕ → List ℕ → List ℕ → ℕ → ℕ
minus_word p u v k = (get_or u k 0 + (p - get_or v k 0)) % p

-- a − b = a + (p − 1)·b, with p = q + 1
minus_at : (q a b : ℕ) → b < suc q → (a + (suc q - b)) % suc q ≡ (a + q * b % suc q) % suc q
minus_at q a zero h =
    ap (λ x. x % suc q) once ∙ add-mul-mod_self_left a (suc q) 1 ∙ sym (add-mod-mod a (q * 0) (suc q) ∙ ap (λ x. x % suc q) none)
  where
    once : a + (suc q - 0) ≡ a + suc q * 1
    once = omega arith

    none : a + q * 0 ≡ a
    none = omega arith
minus_at q a (suc b) h = sym (add-mod-mod a (q * suc b) (suc q) ∙ ap (λ x. x % suc q) step ∙ add-mul-mod_self_left (a + (suc q - suc b)) (suc q) b)
  where
    step : a + q * suc b ≡ a + (suc q - suc b) + suc q * b
    step = omega arith

minus_word_lem : (p a b : ℕ) → b < p → (a + (p - b)) % p ≡ (a + (p - 1) * b % p) % p
minus_word_lem zero a b h = absurd (omega arith)
minus_word_lem (suc q) a b h = let before : q ≡ suc q - 1 = omega arith in minus_at q a b h ∙ ap (λ m. (a + m * b % suc q) % suc q) before

table_minus : (p n : ℕ) (u v : List ℕ) → n ≤ length u → n ≤ length v → Words p n (take n v) → table (minus_word p u v) n ≡ sum p (take n u) (scale p (p - 1) (take n v))
unfolding table minus_word sum scale
table_minus p zero u v hu hv w = refl
table_minus p (suc n) [] v hu hv w = absurd (omega arith)
table_minus p (suc n) (a ∷ u) [] hu hv w = absurd (omega arith)
table_minus p (suc n) (a ∷ u) (b ∷ v) hu hv (more h w) = ap₂ ◌∷◌ (minus_word_lem p a b h) (table_minus p n u v (omega arith) (omega arith) w)

pub minus_turn : (p i r : ℕ) (u v w w' : List ℕ) → r ≡ (get_or u i 0 + (p - get_or v i 0)) % p → w' ≡ painted w (minus_word p u v) i → set w' i r ≡ painted w (minus_word p u v) (i + 1)
unfolding minus_word
minus_turn p i r u v w w' f e = painted_turn (minus_word p u v) i r w w' f e

pub minus_done : (p n i : ℕ) (u v w : List ℕ) → n ≤ 16 → Holds p n u → Holds p n v → i ≤ n → n ≤ i → w ≡ painted (replicate 16 0) (minus_word p u v) i
    → w ≡ padded (sum p (take n u) (scale p (p - 1) (take n v)))
minus_done p n i u v w short hu hv l l' e =
    painted-table (minus_word p u v) n i w short l l' e
    ∙ ap padded (table_minus p n u v (array_fits n u short hu.zeros) (array_fits n v short hv.zeros) hv.words)
