-- The loop over the pairs of words of u: the product of the words from 2·k on, as the next two steps and the end want it.
use mathlib.Core.Path.{◌≡◌, ap, subst, ◌∙◌}
use mathlib.Core.List.{List}
use Prim.Native.Nat.{ℕ, ◌+◌, ◌-◌, ◌*◌, ◌≤◌, ◌<◌}
use native.Mathlib.Omega.{arith}
use lib.ListN.{get_or, take, drop}
use Rattle.quotient.specs.Residue.{product}
use Rattle.residue.specs.Delayed.{joined, Halves}

module _ (p n k h : ℕ) (t u v e o : List ℕ) where
  pub pairs_next : 0 < k → Halves p n (n - 2 * k) (2 * k) (product p (take n t) (drop (2 * k) (take n u)) (take n v)) e o
      → Halves p n (n - (2 * (k - 1) + 2)) (2 * (k - 1) + 2) (product p (take n t) (drop (2 * (k - 1) + 2) (take n u)) (take n v)) e o
  pairs_next pos H =
      let same : 2 * k ≡ 2 * (k - 1) + 2 = omega arith in
      subst (λ i. Halves p n (n - i) i (product p (take n t) (drop i (take n u)) (take n v)) e o) same H

  pub pairs_top : 0 < k → h ≡ get_or (joined n (2 * k) e o) (n - 1) 0 → h ≡ get_or (joined n (2 * (k - 1) + 2) e o) (n - 1) 0
  pairs_top pos f =
      let same : 2 * k ≡ 2 * (k - 1) + 2 = omega arith in
      f ∙ ap (λ i. get_or (joined n i e o) (n - 1) 0) same

  pub pairs_done : k ≤ 0 → Halves p n (n - 2 * k) (2 * k) (product p (take n t) (drop (2 * k) (take n u)) (take n v)) e o
      → Halves p n n 0 (product p (take n t) (take n u) (take n v)) e o
  pairs_done l H =
      let zero' : 2 * k ≡ 0 = omega arith in
      let all : n - 0 ≡ n = omega arith in
      subst (λ m. Halves p n m 0 (product p (take n t) (take n u) (take n v)) e o) all
      (subst (λ i. Halves p n (n - i) i (product p (take n t) (drop i (take n u)) (take n v)) e o) zero' H)

  pub pairs_end : k ≤ 0 → h ≡ get_or (joined n (2 * k) e o) (n - 1) 0 → h ≡ get_or (joined n 0 e o) (n - 1) 0
  pairs_end l f =
      let zero' : 2 * k ≡ 0 = omega arith in
      f ∙ ap (λ i. get_or (joined n i e o) (n - 1) 0) zero'
