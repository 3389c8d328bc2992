-- The first method on arrays: two moduli with an eigenvector have no proper divisors, so that both have a scaling whose n-th power is a, and the one with the smallest factor is α.
use mathlib.Core.Path.{◌≡◌, sym, ap, ap₂, subst, ◌∙◌}
use mathlib.Core.List.{List}
use Prim.Native.Nat.{ℕ, ◌<◌}
use lib.ListN.{take}
use Rattle.array.specs.Array.{padded, Holds}
use Rattle.quotient.specs.Residue.{scale}
use Rattle.roots.specs.Roots.{zeta, radicand, root_of_ratio, Admissible, OrderModulo, Radicand}
use Rattle.roots.proofs.Radicands.{radicands_solvable}
use Rattle.roots.proofs.Zeta as Zeta
use Rattle.galois.specs.Eigenvector.{alpha}
use Rattle.galois.proofs.KernelDecides.{EigenvectorLaws, eigenvector_laws}
use Rattle.frobenius.specs.Kernel.{EigenvectorFound}
use Rattle.finder.specs.Construct.{Choices}
use Rattle.finder.specs.Finder.{generator}
use Rattle.finder.proofs.Eigenvectors.{generator_first}

-- ζ

module _ (p n : ℕ) (h : Admissible p n) where
  zeta_order : OrderModulo p n (zeta p n)
  zeta_order = (Zeta.zeta_is p n h.prime h.low h.high h.divides).2

  laws : EigenvectorLaws p n
  laws = eigenvector_laws p h.prime n h.low

  pub zeta_has_order : (z : ℕ) → z ≡ zeta p n → OrderModulo p n z
  zeta_has_order z e = subst (OrderModulo p n) (sym e) zeta_order

-- an eigenvector that was found

module _ (p n z : ℕ) (t : List ℕ) (h : Admissible p n) (zeta_is : z ≡ zeta p n) (small : z < p) (ht : Holds p n t) (v : List ℕ) (b : ℕ)
    (answer : EigenvectorFound p n (take n t) z v b) where
  pub found_holds : Holds p n v
  found_holds = answer.holds

  -- its n-th power has the power ζ
  pub found_radicand : Radicand p n z b
  found_radicand =
      let found = answer.normalised in
      (laws p n h).radicand_of h.divides (take n t) ht.words z small (zeta_has_order p n h z zeta_is) (take n v) found.eigenvector b found.power_is

  -- its scaling is α
  scaling_is : (a : ℕ) → a ≡ radicand p n z → Radicand p n z a → (x : List ℕ) → x ≡ padded (scale p (root_of_ratio p n a b) (take n v)) → x ≡ padded (generator p n (take n t))
  scaling_is a ea ra x ex =
      ex ∙ ap padded (sym ((laws p n h).alpha_of (take n t) ht.words z (zeta_has_order p n h z zeta_is) (take n v) b (answer.normalised) a (root_of_ratio p n a b)
      (radicands_solvable p n z a b h ra found_radicand).smallest)
      ∙ ap₂ (alpha p n (take n t)) zeta_is (ea ∙ ap (radicand p n) zeta_is) ∙ sym (generator_first p n (take n t) h.divides))

pub choices : (p n z : ℕ) (t1 t2 : List ℕ) → Admissible p n → z ≡ zeta p n → z < p → Holds p n t1 → Holds p n t2 → (v1 v2 : List ℕ) (b1 b2 : ℕ)
    → EigenvectorFound p n (take n t1) z v1 b1 → EigenvectorFound p n (take n t2) z v2 b2 → (a : ℕ) → a ≡ radicand p n z → Radicand p n z a
    → (x y : List ℕ) → x ≡ padded (scale p (root_of_ratio p n a b1) (take n v1)) → y ≡ padded (scale p (root_of_ratio p n a b2) (take n v2))
    → Choices p n (take n t1) (take n t2) x y
choices p n z t1 t2 h zeta_is small h1 h2 v1 v2 b1 b2 answer1 answer2 a ea ra x y ex ey =
    record {
      irreducible1 = answer1.irreducible;
      irreducible2 = answer2.irreducible;
      alpha1_is = scaling_is p n z t1 h zeta_is small h1 v1 b1 answer1 a ea ra x ex;
      alpha2_is = scaling_is p n z t2 h zeta_is small h2 v2 b2 answer2 a ea ra y ey;
    }
