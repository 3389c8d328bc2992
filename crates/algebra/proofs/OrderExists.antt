-- A field with N elements other than 0 has an element of order n for every n ≤ 16 that divides N. At least n elements satisfy u^n = 1; at
-- most n/q of them satisfy u^(n/q) = 1, and the n/q for the primes q that divide n add up to less than n, so some z satisfies none of
-- these. Every m with 0 < m < n has a multiple that is one of the n/q modulo n, so z^m = 1 would give z^(n/q) = 1. The sum and the
-- multiples are one computed test, run for n = 1 to 16.
--   maximal_divisors n   the n/q for the primes q ≤ 13 that divide n
--   total es             the sum of the numbers es
--   suffices n es        0 < e for each e of es, their sum is below n, and every m with 0 < m < n has a multiple that is one of them modulo n
use mathlib.Core.Path.{◌≡◌, refl, sym, ap, ◌∙◌}
use mathlib.Core.Bool.{Bool, true, false, ◌&&◌, not, true≢false, false≢true}
use mathlib.Core.List.{List, [], ◌∷◌}
use mathlib.Core.Logic.{inl, inr, ⊎_elim}
use Prim.Native.Nat.{ℕ, ◌+◌, ◌-◌, ◌*◌, ◌/◌, ◌%◌, ◌≤◌, ◌<◌}
use native.Mathlib.Nat.{le_trans}
use native.Mathlib.Omega.{arith}
use lib.ListN.{length}
use lib.Dec.{ltb, eqb}
use borrow.Author.Tests.{ltb-true, ne_eqb, not-true}
use Rattle.algebra.specs.Lists.{Member, Distinct, all, range}
use Rattle.algebra.specs.Ring.{CommutativeRing, Field, power}
use Rattle.algebra.proofs.Lists.{some_member, all_member}
use Rattle.algebra.proofs.Counting.{Parted, part}
use Rattle.algebra.proofs.Search.{member_of_all, all_of_members, range_member}
use Rattle.algebra.proofs.RingLaws.{power-mul, power_of_one}
use Rattle.algebra.proofs.Units.{Units}
use Rattle.algebra.proofs.PowerRoots.{power_roots, power_roots_at_most}
use Rattle.algebra.proofs.Order.{HasOrder, power-mod}

total : List ℕ → ℕ
total [] = 0
total (e ∷ es) = e + total es

quotients : ℕ → List ℕ → List ℕ
quotients n [] = []
quotients n (q ∷ qs) = elim (eqb (n % q) 0) [ true ↦ n / q ∷ quotients n qs | false ↦ quotients n qs ]

maximal_divisors : ℕ → List ℕ
maximal_divisors n = quotients n (2 ∷ 3 ∷ 5 ∷ 7 ∷ 11 ∷ 13 ∷ [])

-- no multiple of m is one of es modulo n
misses : ℕ → List ℕ → ℕ → Bool
misses n es m = all (λ j. all (λ e. not (eqb ((m * j) % n) e)) es) (range 0 n)

suffices : ℕ → List ℕ → Bool
suffices n es = all (ltb 0) es && (ltb (total es) n && all (λ m. not (misses n es m)) (range 1 (n - 1)))

suffices_to_sixteen : all (λ n. suffices n (maximal_divisors n)) (range 1 16) ≡ true
unfolding all range suffices misses total maximal_divisors quotients
suffices_to_sixteen = refl

both : (a b : Bool) → (a && b) ≡ true → (a ≡ true) × (b ≡ true)
both true b e = (refl, e)
both false b e = absurd (false≢true e)

-- what the test says
record Sufficient (n : ℕ) (es : List ℕ) : Type 0 where
  positive : (e : ℕ) → Member e es → 0 < e
  small : total es < n
  reached : (m : ℕ) → 0 < m → m < n → misses n es m ≡ true → ⊥

sufficient : (n : ℕ) (es : List ℕ) → suffices n es ≡ true → Sufficient n es
unfolding suffices
sufficient n es h =
    let (positive, rest) = both (all (ltb 0) es) (ltb (total es) n && all (λ m. not (misses n es m)) (range 1 (n - 1))) h in
    let (small, reached) = both (ltb (total es) n) (all (λ m. not (misses n es m)) (range 1 (n - 1))) rest in
    record {
      positive = λ e l. ltb-true 0 e (member_of_all (ltb 0) es positive e l);
      small = ltb-true (total es) n small;
      reached = λ m pos lt miss.
          let hit : not (misses n es m) ≡ true = member_of_all (λ k. not (misses n es k)) (range 1 (n - 1)) reached m (range_member 1 (n - 1) m pos (omega arith)) in
          true≢false (sym miss ∙ not-true (misses n es m) hit);
    }

-- z^k = 1 makes every z^e = 1 where e is a multiple of k modulo n
missed : {A : Type 0} (R : CommutativeRing A) (z : A) (n : ℕ) (es : List ℕ) → power R z n ≡ R.one
    → ((e : ℕ) → Member e es → power R z e ≡ R.one → ⊥) → (k : ℕ) → power R z k ≡ R.one → misses n es k ≡ true
unfolding misses
missed R z n es period avoids k unit =
    let multiple : (j : ℕ) → power R z ((k * j) % n) ≡ R.one = λ j. sym (power-mod R z n period (k * j)) ∙ power-mul R z k j ∙ ap (λ t. power R t j) unit ∙ power_of_one R j in
    let differs : (j e : ℕ) → Member e es → not (eqb ((k * j) % n) e) ≡ true = λ j e l. ap not (ne_eqb ((k * j) % n) e (λ h. avoids e l (ap (power R z) (sym h) ∙ multiple j))) in
    all_of_members _ (range 0 n) (λ j m. all_of_members (λ e. not (eqb ((k * j) % n) e)) es (differs j))

module _ {A : Type 0} (F : Field A) where
  open F use {ring as R}
  open R use {one as 𝟏}

  -- more elements than the exponents es add up to: for one of them no power with an exponent of es is 1
  avoid : (es : List ℕ) → ((e : ℕ) → Member e es → 0 < e) → (ys : List A) → Distinct ys → total es < length ys
      → (z : A) × Member z ys × ((e : ℕ) → Member e es → power R z e ≡ 𝟏 → ⊥)
  unfolding total
  avoid [] positive ys d lt = let (z, l) = some_member ys (omega arith) in (z, l, λ e none. absurd none)
  avoid (e ∷ es) positive ys d lt =
      let r : Parted (λ u. power R u e ≡ 𝟏) ys = part (λ u. power R u e ≡ 𝟏) (λ u. F.discrete (power R u e) 𝟏) ys in
      let few : length r.passing.elements ≤ e = power_roots_at_most F e 𝟏 r.passing.elements (positive e (inl refl)) (r.passing.distinct d) r.passing.each in
      let (z, l, k) = avoid es (λ f m. positive f (inr m)) r.failing.elements (r.failing.distinct d) (omega (arith, r.lengths)) in
      (z, r.failing.within z l, λ f. ⊎_elim (λ same h. all_member _ r.failing.elements r.failing.each z l (ap (power R z) (sym same) ∙ h)) (k f))

  module _ (us : List A) (units : Units F us) (n : ℕ) where
    order_from : (es : List ℕ) → Sufficient n es → (m : ℕ) → length us ≡ n * m → (z : A) × HasOrder R z n
    order_from es s m count =
        let (rs, many) = power_roots F us units n m count 𝟏 (power_of_one R m) in
        let (z, l, avoids) = avoid es s.positive rs.elements (rs.distinct units.distinct) (le_trans s.small many) in
        let period : power R z n ≡ 𝟏 = all_member _ rs.elements rs.each z l in
        (z, record { period = period; least = λ k pos lt e. s.reached k pos lt (missed R z n es period avoids k e) })

    pub order_exists : 0 < n → n ≤ 16 → (m : ℕ) → length us ≡ n * m → (z : A) × HasOrder R z n
    order_exists pos le m count =
        let passes : suffices n (maximal_divisors n) ≡ true =
        member_of_all (λ k. suffices k (maximal_divisors k)) (range 1 16) suffices_to_sixteen n (range_member 1 16 n pos (omega arith)) in
        order_from (maximal_divisors n) (sufficient n (maximal_divisors n) passes) m count
