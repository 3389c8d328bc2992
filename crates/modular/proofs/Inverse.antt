-- The inverse by search, `inverse p a`, is the only inverse of a below p, and a prime p has it for 0 < a < p.
-- Of two numbers b and c with a·b = a·c = 1 each is b·a·c.
use mathlib.Core.Path.{◌≡◌, refl, sym, ap, ◌∙◌}
use mathlib.Core.Bool.{Bool, true, false}
use mathlib.Core.List.{List, [], ◌∷◌}
use mathlib.Core.Logic.{◌⊎◌, inl, inr, ⊎_elim}
use Prim.Native.Nat.{ℕ, ◌-◌, ◌*◌, ◌%◌, ◌≤◌, ◌<◌}
use native.Mathlib.Nat.{mod-eq_of_lt, mul-mod_left, eq-or-lt_of_le}
use native.Mathlib.Omega.{arith}
use lib.Dec.{eqb}
use borrow.Author.Tests.{eq-eqb, eqb-true}
use Rattle.algebra.specs.Lists.{Member, first, range}
use Rattle.algebra.specs.Prime.{Prime}
use Rattle.algebra.proofs.Euclid.{inverse_exists}
use Rattle.algebra.proofs.Modulo.{mul-mod-mod, mod-mul-mod}
use Rattle.algebra.proofs.Search.{first_unique, first_default, first_pass, first_fail, range_member, range_bounds}
use Rattle.modular.specs.Inverse.{inverse}

-- y = y·(a·r) = (a·y)·r = r
unit_unique : (p a r y : ℕ) → r < p → y < p → (a * r) % p ≡ 1 → (a * y) % p ≡ 1 → y ≡ r
unit_unique p a r y hr hy er ey =
    let left : (y * (a * r)) % p ≡ y = sym (mul-mod-mod y (a * r) p) ∙ ap (λ x. (y * x) % p) er ∙ ap (λ x. x % p) times_one ∙ mod-eq_of_lt hy in
    let right : (a * y * r) % p ≡ r = sym (mod-mul-mod (a * y) p r) ∙ ap (λ x. (x * r) % p) ey ∙ ap (λ x. x % p) one_times ∙ mod-eq_of_lt hr in
    sym left ∙ ap (λ x. x % p) regroup ∙ right
  where
    times_one : y * 1 ≡ y
    times_one = omega arith

    one_times : 1 * r ≡ r
    one_times = omega arith

    regroup : y * (a * r) ≡ a * y * r
    regroup = omega arith

pub unit_below : (p a r : ℕ) → r ≤ p → (a * r) % p ≡ 1 → r < p
unit_below p a r h e =
    ⊎_elim
    (λ s. absurd (let z : ◌≡◌ {A = ℕ} 0 1 = sym (mul-mod_left a p) ∙ ap (λ x. (a * x) % p) (sym s) ∙ e in omega arith))
    (λ l. l)
    (eq-or-lt_of_le h)

pub inverse_unique : (p a r : ℕ) → r < p → (a * r) % p ≡ 1 → r ≡ inverse p a
unfolding inverse
inverse_unique p a r h e =
    sym
    (first_unique (λ b. eqb ((a * b) % p) 1) 0 (range 0 p) r (range_member 0 p r (omega arith) (omega arith)) (eq-eqb ((a * r) % p) 1 e)
    (λ y m t. unit_unique p a r y h (omega (arith, range_bounds 0 p y m)) e (eqb-true ((a * y) % p) 1 t)))

-- what is found stands in the list, or nothing is
first_cases : {A : Type 0} (test : A → Bool) (d : A) (xs : List A) → Member (first test d xs) xs ⊎ (first test d xs ≡ d)
first_cases test d [] = inr (first_default test d [] (λ x m. absurd m))
first_cases test d (x ∷ xs) = go (test x) refl (first_cases test d xs)
  where
    go : (b : Bool) → test x ≡ b → Member (first test d xs) xs ⊎ (first test d xs ≡ d) → Member (first test d (x ∷ xs)) (x ∷ xs) ⊎ (first test d (x ∷ xs) ≡ d)
    go true e rest = inl (inl (first_pass test d x xs e))
    go false e rest =
        let l : Member (first test d (x ∷ xs)) xs ⊎ (first test d (x ∷ xs) ≡ d) = rw (first_fail test d x xs e) rest in ⊎_elim (λ m. inl (inr m)) inr l

pub inverse_bound : (p a : ℕ) → 0 < p → inverse p a < p
unfolding inverse
inverse_bound p a h =
    ⊎_elim
    (λ m. omega (arith, range_bounds 0 p (inverse p a) m))
    (λ e. rw e h)
    (first_cases (λ b. eqb ((a * b) % p) 1) 0 (range 0 p))

pub inverse_product : (p a : ℕ) → Prime p → 0 < a → a < p → (a * inverse p a) % p ≡ 1
inverse_product p a prime positive small = let b = inverse_exists p a prime positive small in rw (← inverse_unique p a b.0 b.1 b.2) b.2

-- Of t and p − t, of which one is an inverse of a, the product m = a·t tells which.
module _ (p a t m : ℕ) (product : m ≡ (a * t) % p) where
  pub inverse_plus : t < p → m ≡ 1 → t ≡ inverse p a
  inverse_plus h e = inverse_unique p a t h (sym product ∙ e)

  module _ (n : m ≡ 1 → ⊥) (unit : ((a * t) % p ≡ 1) ⊎ ((a * (p - t)) % p ≡ 1)) where
    minus_unit : (a * (p - t)) % p ≡ 1
    minus_unit = ⊎_elim (λ u. absurd (n (product ∙ u))) (λ u. u) unit

    pub minus_below : p - t < p
    minus_below = unit_below p a (p - t) (omega arith) minus_unit

    pub inverse_minus : p - t ≡ inverse p a
    inverse_minus = inverse_unique p a (p - t) minus_below minus_unit
