-- The second method on arrays: the rounds of two moduli without proper divisors give their α.
use mathlib.Core.Path.{◌≡◌, sym, ap, ◌∙◌}
use mathlib.Core.List.{List}
use Prim.Native.Nat.{ℕ, ◌^◌, ◌≤◌}
use Rattle.array.specs.Array.{padded}
use Rattle.tower.specs.Generator.{GeneratorFound}
use Rattle.finder.specs.Construct.{Size, Choices}
use Rattle.finder.proofs.Towers.{generator_second}

module _ (p n k : ℕ) (t1 t2 : List ℕ) (h : Size p n) where
  pub rounds_choices : (x y : List ℕ) → GeneratorFound p n t1 k x → GeneratorFound p n t2 k y → 1 ≤ k → n ≡ p ^ k → Choices p n t1 t2 x y
  rounds_choices x y first second low size =
      record {
        irreducible1 = first.irreducible;
        irreducible2 = second.irreducible;
        alpha1_is = first.alpha_is ∙ ap padded (sym (generator_second p n t1 h.prime.0 k low size));
        alpha2_is = second.alpha_is ∙ ap padded (sym (generator_second p n t2 h.prime.0 k low size));
      }
