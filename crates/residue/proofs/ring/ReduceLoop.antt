-- The words of an array reduced modulo p, one after another.
use mathlib.Core.Path.{◌≡◌, ap, ap₂, ◌∙◌}
use mathlib.Core.List.{List}
use Prim.Native.Nat.{ℕ, ◌+◌, ◌*◌, ◌%◌, ◌≤◌, ◌<◌}
use native.Mathlib.Omega.{arith}
use lib.ListN.{get_or, take, set}
use Rattle.array.specs.Array.{padded}
use Rattle.residue.specs.Delayed.{reduced, Delayed}
use Rattle.array.proofs.Painted.{painted, painted_next, painted_above}
use Rattle.array.proofs.Padded.{array_fits, painted_array}
use Rattle.residue.proofs.Step.{delayed_word}
use Rattle.residue.proofs.Remainders.{remainder, table-remainder}

pub reduce_turn : (p j a : ℕ) (w w' : List ℕ) → w' ≡ painted w (remainder p w) j → a ≡ get_or w' j 0 % p → set w' j a ≡ painted w (remainder p w) (j + 1)
unfolding remainder
reduce_turn p j a w w' e f =
    ap₂ (λ l x. set l j x) e (f ∙ ap (λ l. get_or l j 0 % p) e ∙ ap (λ x. x % p) (painted_above w (remainder p w) j j (omega arith))) ∙ painted_next w (remainder p w) j

pub reduce_asks : (p n j : ℕ) (s w w' : List ℕ) → Delayed p n 17 s w → n ≤ 16 → w' ≡ painted w (remainder p w) j → j < n → get_or w' j 0 ≤ 64 * (p * p)
reduce_asks p n j s w w' d h e l =
    omega (arith, ap (λ l. get_or l j 0) e ∙ painted_above w (remainder p w) j j (omega arith), delayed_word d h j l)

pub reduce_done : (p n j : ℕ) (s w w' : List ℕ) → n ≤ 16 → Delayed p n 17 s w → j ≤ n → n ≤ j → w' ≡ painted w (remainder p w) j
    → w' ≡ padded (reduced p (take n w))
reduce_done p n j s w w' h d l l' e =
    let same : j ≡ n = omega arith in
    e ∙ ap (painted w (remainder p w)) same ∙ painted_array n (remainder p w) w h d.zeros ∙ ap padded (table-remainder p n w (array_fits n w h d.zeros))
