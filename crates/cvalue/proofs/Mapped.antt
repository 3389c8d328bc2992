-- The images of the first elements of a list, and z after them, 512 elements in all: a loop that writes the image of element i in its turn i.
use mathlib.Core.Path.{◌≡◌, refl, sym, ap, ap₂, ◌∙◌}
use mathlib.Core.List.{List, [], ◌∷◌, ◌++◌, map, map-append}
use Prim.Native.Nat.{ℕ, suc, ◌+◌, ◌-◌, ◌≤◌, ◌<◌}
use native.Mathlib.Numerals.{add-one}
use native.Mathlib.Omega.{arith}
use lib.ListN.{length, get_or, take, set, replicate, length-map, length-append}
use lib.Seq.{take-suc, length-take-le, set_at, append_snoc}
use Rattle.ledger.specs.Ledger.{most_records}
use Rattle.ledger.proofs.Records.{Before, before_there, before_all}
use Rattle.cvalue.specs.Values.{up_to}

-- one element more
pub up_to_next : {A : Type 0} (z : A) (xs : List A) (x : A) → length xs < most_records → set (up_to most_records z xs) (length xs) x ≡ up_to most_records z (xs ++ (x ∷ []))
unfolding up_to
up_to_next z xs x h =
    let left : most_records - length xs ≡ suc (most_records - (length xs + 1)) = omega arith in
    let fill : most_records - (length xs + 1) ≡ most_records - length (xs ++ (x ∷ [])) = omega (arith, length-append xs (x ∷ [])) in
    ap (λ k. set (xs ++ replicate k z) (length xs) x) left
    ∙ set_at xs z (replicate (most_records - (length xs + 1)) z) x (length xs) refl
    ∙ sym (append_snoc xs x (replicate (most_records - (length xs + 1)) z))
    ∙ ap (λ k. (xs ++ (x ∷ [])) ++ replicate k z) fill

module _ {A B : Type 0} (f : A → B) (a : A) (z : B) (xs : List A) where
  pub mapped_none : replicate most_records z ≡ up_to most_records z (map f (take 0 xs))
  unfolding up_to
  mapped_none = refl

  module _ (count i : ℕ) (h : Before xs count i) (w : List B) (e : w ≡ up_to most_records z (map f (take i xs))) where
    pub mapped_next : i < count → (b : B) → b ≡ f (get_or xs i a) → set w i b ≡ up_to most_records z (map f (take (i + 1) xs))
    mapped_next more b g =
        let there : i < length xs = before_there xs count i h more in
        let ys : List B = map f (take i xs) in
        let long : length ys ≡ i = length-map (take i xs) f ∙ length-take-le i xs (omega arith) in
        let next : ys ++ (b ∷ []) ≡ map f (take (i + 1) xs) =
        ap (λ y. ys ++ (y ∷ [])) g ∙ sym (map-append f (take i xs) (get_or xs i a ∷ [])) ∙ ap (map f) (sym (take-suc xs i a there)) ∙ ap (λ j. map f (take j xs)) (sym (add-one i)) in
        ap₂ (λ l k. set l k b) e (sym long) ∙ up_to_next z ys b (omega (arith, long, h.few)) ∙ ap (up_to most_records z) next

    pub mapped_all : count ≤ i → w ≡ up_to most_records z (map f (take count xs))
    mapped_all end = e ∙ ap (λ l. up_to most_records z (map f l)) (before_all xs count i h end)
