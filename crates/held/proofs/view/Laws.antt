-- What a value counts as, by the tests of the code: each law has a test's outcome and what is valid then.
use Rattle.std.specs.List.{All}
use Rattle.std.proofs.Common.{Bor, IsTrue, ◌↔◌}
use mathlib.Core.Path.{◌≡◌, refl, sym, ◌∙◌}
use mathlib.Core.Bool.{Bool, true, false, not, ◌&&◌, and-true, and_assoc, not-not}
use mathlib.Core.List.{List, [], ◌∷◌}
use Prim.Native.Nat.{ℕ, ◌≤◌}
use Rattle.algebra.specs.Lists.{all}
use Rattle.array.specs.Words.{all_below}
use Rattle.modular.specs.Prime.{is_prime}
use Rattle.refusal.specs.Refusal.{is_degree, bad_prime, bad_degree, bad_word, largest_degree}
use Rattle.refusal.proofs.Order.{degree_given}
use Rattle.refusal.proofs.Tests.{words_tested}
use Rattle.held.specs.Held.{valid, valid_as, valid_held, t1_of, t2_of, s_of, r_of, view}
use Rattle.held.specs.ViewState.{view_state}
use Rattle.held.specs.declared.Held.{Held}
use Rattle.held.specs.declared.State.TheVariants.{Empty, Loaded, Paired}
use Rattle.held.proofs.Contents.{valid_state, invalid_view}
use Rattle.held.proofs.Valid.{valid_degree}

-- the first words of two arrays
pub below_both : (p : ℕ) (xs ys : Bor (List ℕ)) (r : Bool) {u v : List ℕ} → xs.now ≡ u → ys.now ≡ v
    → (IsTrue r ↔ All (λ x. all_below p x.now ≡ true) (xs ∷ ys ∷ [])) → r ≡ not (bad_word p (u ∷ v ∷ []))
below_both p xs ys r e f h = rw (← e, ← f, words_tested p (xs ∷ ys ∷ []) r h, not-not r)

-- two models
module _ (p n : ℕ) (prime : Bool) (e : prime ≡ is_prime p) where
  pub not_prime : (xss : List (List ℕ)) → prime ≡ false → false ≡ valid p n xss
  unfolding valid bad_prime
  not_prime xss h = rw (← e, h)

  module _ (h : prime ≡ true) (degree : Bool) (f : degree ≡ is_degree n) where
    pub no_degree : (xss : List (List ℕ)) → degree ≡ false → false ≡ valid p n xss
    unfolding valid bad_prime bad_degree
    no_degree xss g = rw (← e, h, ← f, g)

    pub words_decide : (b : Bool) (xss : List (List ℕ)) → degree ≡ true → b ≡ not (bad_word p xss) → b ≡ valid p n xss
    unfolding valid bad_prime bad_degree
    words_decide b xss g d = rw (← e, h, ← f, g) d

pub degree_fits : (n : ℕ) (degree : Bool) → degree ≡ is_degree n → degree ≡ true → n ≤ largest_degree
unfolding bad_degree
degree_fits n degree f g = (degree_given n (rw (← f, g) refl)).1

-- a pair too
module _ (p n : ℕ) (w : Bool) (a b : List ℕ) (e : w ≡ valid p n (a ∷ b ∷ [])) where
  valid_four : (c d : List ℕ) → valid p n (a ∷ b ∷ c ∷ d ∷ []) ≡ valid p n (a ∷ b ∷ []) && not (bad_word p (c ∷ d ∷ []))
  unfolding valid bad_word all
  valid_four c d = simp (not-not, and-true, and_assoc)

  pub models_fail : (c d : List ℕ) → w ≡ false → w ≡ valid p n (a ∷ b ∷ c ∷ d ∷ [])
  models_fail c d h = rw (valid_four c d, ← e, h) refl

  pub models_fit : w ≡ true → n ≤ largest_degree
  models_fit h = valid_degree p n (a ∷ b ∷ []) (sym e ∙ h)

  pub pair_decides : (r : Bool) (c d : List ℕ) → w ≡ true → r ≡ not (bad_word p (c ∷ d ∷ [])) → r ≡ valid p n (a ∷ b ∷ c ∷ d ∷ [])
  pair_decides r c d h f = rw (valid_four c d, ← e, h) f

-- the value
module _ (x : Held) where
  pub valid_empty : x.state ≡ Empty → true ≡ valid_held x
  unfolding valid_held valid_as
  valid_empty e = rw e

  pub valid_loaded : x.state ≡ Loaded → (b : Bool) → b ≡ valid x.p x.n (t1_of x ∷ t2_of x ∷ []) → b ≡ valid_held x
  unfolding valid_held valid_as
  valid_loaded e b f = rw e f

  pub valid_paired : x.state ≡ Paired → (b : Bool) → b ≡ valid x.p x.n (t1_of x ∷ t2_of x ∷ s_of x ∷ r_of x ∷ []) → b ≡ valid_held x
  unfolding valid_held valid_as
  valid_paired e b f = rw e f

  module _ (b : Bool) (e : b ≡ valid_held x) where
    pub counts_itself : b ≡ true → x.state ≡ view_state (view x)
    counts_itself h = valid_state x (sym e ∙ h)

    pub counts_new : b ≡ false → Empty ≡ view_state (view x)
    unfolding view_state
    counts_new h = rw (invalid_view x (sym e ∙ h))
