-- Lists one after the other: where each has n words, list k is the n words from word k·n on.
use mathlib.Core.Path.{◌≡◌, refl, sym, ap, ◌∙◌}
use mathlib.Core.List.{List, [], ◌∷◌, ◌++◌, append_assoc, flatten}
use Prim.Native.Nat.{ℕ, zero, suc, ◌+◌, ◌*◌, ◌<◌}
use native.Mathlib.Nat.{zero-mul}
use native.Mathlib.Omega.{arith}
use lib.ListN.{length, take, drop, get_or}
use lib.Seq.{take_at, drop-append-add}
use Rattle.algebra.specs.Lists.{All}

pub flatten-append : (us vs : List (List ℕ)) → flatten (us ++ vs) ≡ flatten us ++ flatten vs
unfolding flatten
flatten-append [] vs = refl
flatten-append (u ∷ us) vs = ap (λ l. u ++ l) (flatten-append us vs) ∙ sym (append_assoc u (flatten us) (flatten vs))

module _ (n : ℕ) where
  pub flatten_part : (us : List (List ℕ)) → All (λ u. length u ≡ n) us → (k : ℕ) → k < length us → take n (drop (k * n) (flatten us)) ≡ get_or us k []
  unfolding flatten
  flatten_part [] h k l = absurd (omega arith)
  flatten_part (u ∷ us) h zero l = ap (λ i. take n (drop i (u ++ flatten us))) (zero-mul n) ∙ take_at u (flatten us) n h.0
  flatten_part (u ∷ us) h (suc k) l =
      let place : suc k * n ≡ length u + k * n = omega (arith, h.0) in
      ap (take n) (ap (λ i. drop i (u ++ flatten us)) place ∙ drop-append-add u (flatten us) (k * n)) ∙ flatten_part us h.1 k (omega arith)
