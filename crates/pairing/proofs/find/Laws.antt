-- The answer of `find_pair`: to two models and lists of n words 1 to 4 do not apply, and where the number is 0 the lists hold the finder's
-- pair, which the checker accepts.
use mathlib.Core.Path.{◌≡◌, refl, sym, ap, subst₂, ◌∙◌}
use mathlib.Core.List.{List}
use Prim.Native.Nat.{ℕ}
use lib.ListN.{length, take}
use Rattle.refusal.specs.Models.{Models, Given}
use Rattle.refusal.specs.Refusal.{written}
use Rattle.pair.proofs.Theorem.{checker_theorem}
use Rattle.finder.specs.Finder.{find_s, find_r, refuse_find, find_number, find_output_s, find_output_r}
use Rattle.finder.proofs.Findable.{find_models}
use Rattle.finder.proofs.Theorem.{accepted_pair}
use Rattle.held.specs.Held.{zeros, paired_held}
use Rattle.held.proofs.Valid.{front_length}
use Rattle.held.specs.declared.Held.{Held}

-- the lists lent to the finder are the first n words of arrays
pub fronts : {p n : ℕ} {t1 t2 : List ℕ} → Models p n t1 t2 → (length (take n zeros) ≡ n) × (length (take n zeros) ≡ n)
fronts {n = n} m = let e = front_length n zeros refl m.degree.1 in (e, e)

module _ (p n k : ℕ) (t1 t2 lent_s lent_r : List ℕ) (models : Models p n t1 t2) (lengths : (length lent_s ≡ n) × (length lent_r ≡ n))
    (e : k ≡ find_number p n t1 t2 lent_s lent_r) where
  pub found_number : k ≡ refuse_find p n t1 t2
  found_number = e ∙ find_models p n t1 t2 models lent_s lent_r lengths.0 lengths.1

  module _ (h : k ≡ 0) (s r : List ℕ) (es : s ≡ find_output_s p n t1 t2 lent_s lent_r) (er : r ≡ find_output_r p n t1 t2 lent_s lent_r) where
    s_is : s ≡ find_s p n t1 t2
    unfolding find_output_s
    s_is = es ∙ ap (λ j. written j (find_s p n t1 t2) lent_s) (sym e ∙ h)

    r_is : r ≡ find_r p n t1 t2
    unfolding find_output_r
    r_is = er ∙ ap (λ j. written j (find_r p n t1 t2) lent_r) (sym e ∙ h)

    pub found_given : Given p n t1 t2 s r
    found_given =
        subst₂ (Given p n t1 t2) (sym s_is) (sym r_is)
        ((checker_theorem p n t1 t2 (find_s p n t1 t2) (find_r p n t1 t2)).0 (accepted_pair p n t1 t2 models (sym found_number ∙ h))).0

    pub found_paired : (y : Held) → y ≡ paired_held p n t1 t2 s r → y ≡ paired_held p n t1 t2 (find_s p n t1 t2) (find_r p n t1 t2)
    found_paired y f = rw (s_is, r_is) at f
