-- What it means that 3 and 4 do not apply to lists (document 01, "Caused by what was sent").
--   words_of, words_below          a list of n words below p is one of length n whose words are below p
--   lengths_given, given_lengths   3 does not apply exactly to lists of length n
--   below_given, given_below       4 does not apply exactly to lists of words below p
--   words_given, given_words       both, to lists of n words below p
use mathlib.Core.Path.{◌≡◌, refl, ap, ap₂, subst}
use mathlib.Core.Bool.{true, false, not, ◌&&◌, and-eq-true_iff}
use mathlib.Core.List.{List, [], ◌∷◌}
use Prim.Native.Nat.{ℕ}
use lib.Dec.{ltb, eqb}
use lib.ListN.{length}
use borrow.Author.Tests.{ltb-true, lt-ltb, eqb-true, eq-eqb, not-false}
use Rattle.algebra.specs.Lists.{All, all}
use Rattle.algebra.proofs.Lists.{all_member, member_all}
use Rattle.algebra.proofs.Search.{member_of_all, all_of_members}
use Rattle.array.specs.Words.{all_below, Words, none, more}
use Rattle.refusal.specs.Refusal.{bad_length, bad_word}

-- one list

pub words_of : (p n : ℕ) (xs : List ℕ) → length xs ≡ n → all_below p xs ≡ true → Words p n xs
unfolding all_below all
words_of p n [] e h = subst (λ k. Words p k []) e none
words_of p n (a ∷ xs) e h =
    let parts = (and-eq-true_iff (ltb a p) (all_below p xs)).0 h in
    subst (λ k. Words p k (a ∷ xs)) e (more (ltb-true a p parts.0) (words_of p (length xs) xs refl parts.1))

pub words_below : {p n : ℕ} {xs : List ℕ} → Words p n xs → all_below p xs ≡ true
unfolding all_below all
words_below none = refl
words_below {p} (more {a = a} h w) = ap₂ ◌&&◌ (lt-ltb a p h) (words_below w)

-- a list of lists

pub lengths_given : (n : ℕ) (xss : List (List ℕ)) → bad_length n xss ≡ false → All (λ xs. length xs ≡ n) xss
unfolding bad_length
lengths_given n xss h = member_all (λ xs. length xs ≡ n) xss (λ xs m. eqb-true (length xs) n (member_of_all (λ ys. eqb (length ys) n) xss (not-false _ h) xs m))

pub given_lengths : (n : ℕ) (xss : List (List ℕ)) → All (λ xs. length xs ≡ n) xss → bad_length n xss ≡ false
unfolding bad_length
given_lengths n xss h = ap not (all_of_members (λ ys. eqb (length ys) n) xss (λ xs m. eq-eqb (length xs) n (all_member (λ ys. length ys ≡ n) xss h xs m)))

pub below_given : (p : ℕ) (yss : List (List ℕ)) → bad_word p yss ≡ false → All (λ ys. all_below p ys ≡ true) yss
unfolding bad_word
below_given p yss h = member_all (λ ys. all_below p ys ≡ true) yss (member_of_all (all_below p) yss (not-false _ h))

pub given_below : (p : ℕ) (yss : List (List ℕ)) → All (λ ys. all_below p ys ≡ true) yss → bad_word p yss ≡ false
unfolding bad_word
given_below p yss h = ap not (all_of_members (all_below p) yss (all_member (λ ys. all_below p ys ≡ true) yss h))

pub words_given : (p n : ℕ) (xss : List (List ℕ)) → bad_length n xss ≡ false → bad_word p xss ≡ false → All (Words p n) xss
words_given p n xss h k =
    member_all (Words p n) xss
    (λ xs m. words_of p n xs (all_member (λ ys. length ys ≡ n) xss (lengths_given n xss h) xs m) (all_member (λ ys. all_below p ys ≡ true) xss (below_given p xss k) xs m))

pub given_words : (p n : ℕ) (xss : List (List ℕ)) → All (Words p n) xss → bad_word p xss ≡ false
given_words p n xss h = given_below p xss (member_all (λ ys. all_below p ys ≡ true) xss (λ xs m. words_below (all_member (Words p n) xss h xs m)))
