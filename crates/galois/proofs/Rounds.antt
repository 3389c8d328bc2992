-- The rounds of Algorithm 4.1 in a model T of degree n = p^k, on lists. They are rounds in the ring of the residues modulo T, so that k of them show that T has no proper divisor:
-- modulo a divisor D of degree d without proper divisors u^(p^d) = u for every residue u, but α has p^k conjugates. Conversely they exist if T has none, since the trace of a
-- is 0 in every round; each α is determined by its a; and after k rounds the powers of α are independent, and the α of two models satisfy one relation.
use mathlib.Core.Path.{◌≡◌, refl, sym, ap, ap₂, subst, ◌∙◌}
use mathlib.Core.List.{List}
use Prim.Native.Nat.{ℕ, zero, suc, ◌+◌, ◌-◌, ◌*◌, ◌^◌, ◌<◌}
use native.Mathlib.Nat.{add-zero, le_dest, pow-suc}
use native.Mathlib.Omega.{arith}
use lib.Pow.{pow-add}
use Rattle.algebra.specs.Prime.{Prime}
use Rattle.algebra.specs.Ring.{CommutativeRing, Field, numeral}
use Rattle.algebra.specs.Ring as Ring
use Rattle.algebra.proofs.Period.{period_distinct}
use Rattle.array.specs.Words.{Words}
use Rattle.quotient.specs.Divisor.{HasDivisor}
use Rattle.quotient.specs.Residue.{Residue, product}
use Rattle.quotient.proofs.Divisor.{reduction_homomorphism}
use Rattle.quotient.proofs.Field.{residue_field, power_of_size}
use Rattle.quotient.proofs.Operations.{residue_path, constant_words, product_words, power_words}
use Rattle.quotient.proofs.Reduction.{characteristic, reduce, one_is, add_is, mul_is}
use Rattle.quotient.proofs.Ring.{residue_ring, power_is}
use Rattle.quotient.proofs.Substitution.{Homomorphism, homomorphism_power}
use Rattle.galois.specs.Express.{Independent}
use Rattle.galois.specs.Tower.{artin_schreier, raised, rounds, ArtinSchreier, Rounds}
use Rattle.galois.proofs.ArtinSchreier.{solution_unique, artin_schreier_is}
use Rattle.galois.proofs.CommonRelation.{common_relation}
use Rattle.galois.proofs.Generators.{Related}
use Rattle.galois.proofs.Irreducible.{conjugates_independent}
use Rattle.galois.proofs.NoDivisor.{without_divisor}
use Rattle.galois.proofs.Tower.{Tower, tower_fixed, tower_moves, tower_trace}
use Rattle.galois.proofs.Traces.{trace}

-- a homomorphism takes rounds to rounds
tower_image : {A B : Type 0} {R : CommutativeRing A} {S : CommutativeRing B} {f : A → B} → Homomorphism R S f → (p k : ℕ) (a α : A) → Tower R p k a α → Tower S p k (f a) (f α)
tower_image {f = f} h p zero a α (ea, eα) = (ap f ea ∙ h.one, ap f eα ∙ h.one)
tower_image {S = S} {f = f} h p (suc k) a α (b, β, t, ea, e) = (
  f b,
  f β,
  tower_image h p k b β t,
  ap f ea ∙ h.mul b _ ∙ ap (S.mul (f b)) (homomorphism_power h β (p - 1)),
  sym (homomorphism_power h α p) ∙ ap f e ∙ h.add α a,
)

module _ {p n : ℕ} {t : List ℕ} (prime : Prime p) (wt : Words p (suc n) t) where
  abbrev K : CommutativeRing (Residue p (suc n))
  K = residue_ring prime.0 wt

  raised_words : (a : List ℕ) {α : List ℕ} → Words p (suc n) α → Words p (suc n) (raised p t a α)
  unfolding raised
  raised_words a wα = product_words prime.0 wt a (power_words prime.0 wt wα (p - 1))

  raised_is : (a α : Residue p (suc n)) → raised p t a.0 α.0 ≡ (K.mul a (Ring.power K α (p - 1))).0
  unfolding raised
  raised_is a α = ap (product p t a.0) (power_is prime.0 wt α (p - 1)) ∙ sym (mul_is prime.0 wt a (Ring.power K α (p - 1)))

  rounds_words : (k : ℕ) (a α : List ℕ) → Rounds p (suc n) t k a α → Words p (suc n) a × Words p (suc n) α
  rounds_words zero a α (ea, eα) = (subst (Words p (suc n)) (sym ea) (constant_words (suc n) prime.0), subst (Words p (suc n)) (sym eα) (constant_words (suc n) prime.0))
  rounds_words (suc k) a α (b, β, h, ea, s) = (subst (Words p (suc n)) (sym ea) (raised_words b (rounds_words k b β h).1), s.words)

  rounds_tower : (k : ℕ) (a α : List ℕ) (h : Rounds p (suc n) t k a α) (wa : Words p (suc n) a) (wα : Words p (suc n) α) → Tower K p k (a, wa) (α, wα)
  rounds_tower zero a α (ea, eα) wa wα = (residue_path (ea ∙ sym (one_is prime.0 wt)), residue_path (eα ∙ sym (one_is prime.0 wt)))
  rounds_tower (suc k) a α (b, β, h, ea, s) wa wα =
      let (wb, wβ) = rounds_words k b β h in (
        (b, wb),
        (β, wβ),
        rounds_tower k b β h wb wβ,
        residue_path (ea ∙ raised_is (b, wb) (β, wβ)),
        residue_path (sym (power_is prime.0 wt (α, wα) p) ∙ s.equation ∙ sym (add_is prime.0 wt (α, wα) (a, wa))),
      )

  -- k rounds where n = p^k: modulo a divisor of a smaller degree α would have too few conjugates
  pub rounds_irreducible : (k : ℕ) (a α : List ℕ) → suc n ≡ p ^ suc k → Rounds p (suc n) t (suc k) a α → HasDivisor p t → ⊥
  unfolding residue_field
  rounds_irreducible k a α size h =
      let (wa, wα) = rounds_words (suc k) a α h in
      without_divisor prime.0 wt (λ m d wd less divides none.
      tower_moves (residue_field prime wd none) p prime (characteristic prime.0 wd) k (reduce prime.0 wd a) (reduce prime.0 wd α)
      (tower_image (reduction_homomorphism prime.0 wd wt divides) p (suc k) (a, wa) (α, wα) (rounds_tower (suc k) a α h wa wα))
      (suc m) (omega arith) (omega arith) (power_of_size prime wd none (reduce prime.0 wd α)))

  module _ (irreducible : HasDivisor p t → ⊥) where
    abbrev F : Field (Residue p (suc n))
    F = residue_field prime wt irreducible

    abbrev vanishes : numeral K p ≡ K.zero
    vanishes = characteristic prime.0 wt

    pub rounds_unique : (k : ℕ) (a α a' α' : List ℕ) → Rounds p (suc n) t k a α → Rounds p (suc n) t k a' α' → (a ≡ a') × (α ≡ α')
    rounds_unique zero a α a' α' (ea, eα) (ea', eα') = (ea ∙ sym ea', eα ∙ sym eα')
    rounds_unique (suc k) a α a' α' (b, β, h, ea, s) (b', β', h', ea', s') =
        let (eb, eβ) = rounds_unique k b β b' β' h h' in
        let same : a ≡ a' = ea ∙ ap₂ (raised p t) eb eβ ∙ sym ea' in
        (same, solution_unique prime wt irreducible s (subst (λ w. ArtinSchreier p (suc n) t w α') (sym same) s'))

    -- the a of the next round has the trace 0
    next_trace : (k r : ℕ) → suc n ≡ p ^ (suc k + r) → (a α : Residue p (suc n)) → Tower K p k a α → trace K p (suc n) (K.mul a (Ring.power K α (p - 1))) ≡ K.zero
    unfolding residue_field
    next_trace k r size a α h =
        let parts : suc n ≡ p ^ k * (p * p ^ r) = size ∙ pow-add p (suc k) r ∙ ap (λ x. x * p ^ r) (pow-suc p k) ∙ regroup (p ^ k) (p ^ r) in
        ap (λ m. trace K p m (K.mul a (Ring.power K α (p - 1)))) parts ∙ tower_trace F p prime vanishes k a α h (p ^ r)
      where
        regroup : (x y : ℕ) → x * p * y ≡ x * (p * y)
        regroup x y = omega arith

    -- k rounds of the search are k rounds, where n = p^(k + r)
    pub rounds_are : (k r : ℕ) → suc n ≡ p ^ (k + r) → Rounds p (suc n) t k (rounds p (suc n) t k).0 (rounds p (suc n) t k).1
    unfolding rounds
    rounds_are zero r size = (refl, refl)
    rounds_are (suc k) r size =
        let more : k + suc r ≡ suc k + r = omega arith in
        let h = rounds_are k (suc r) (size ∙ ap (λ e. p ^ e) (sym more)) in
        let b : List ℕ = (rounds p (suc n) t k).0 in
        let β : List ℕ = (rounds p (suc n) t k).1 in
        let (wb, wβ) = rounds_words k b β h in
        let w : Residue p (suc n) = K.mul (b, wb) (Ring.power K (β, wβ) (p - 1)) in (
          b,
          β,
          h,
          refl,
          subst (λ x. ArtinSchreier p (suc n) t x (artin_schreier p (suc n) t x)) (sym (raised_is (b, wb) (β, wβ)))
              (artin_schreier_is prime wt irreducible w (next_trace k r size (b, wb) (β, wβ) (rounds_tower k b β h wb wβ))),
        )

    -- what follows j < k rounds has a solution
    pub round_solvable : (j k : ℕ) → j < k → suc n ≡ p ^ k → (a α : List ℕ) → Rounds p (suc n) t j a α → (v : List ℕ) × ArtinSchreier p (suc n) t (raised p t a α) v
    round_solvable j k less size a α h =
        let (r, e) = le_dest less in
        let (b, β, g, eb, s) = rounds_are (suc j) r (size ∙ ap (λ i. p ^ i) (sym e)) in
        let (ea, eα) = rounds_unique j b β a α g h in
        (_, subst (λ x. ArtinSchreier p (suc n) t x (rounds p (suc n) t (suc j)).1) (eb ∙ ap₂ (raised p t) ea eα) s)

    -- k rounds are those of the search
    pub rounds_found : (k : ℕ) → suc n ≡ p ^ k → (a α : List ℕ) → Rounds p (suc n) t k a α → α ≡ (rounds p (suc n) t k).1
    rounds_found k size a α h = (rounds_unique k a α _ _ h (rounds_are k 0 (size ∙ ap (λ i. p ^ i) (sym (add-zero k))))).1

    rounds_independent : (k : ℕ) (a α : List ℕ) → suc n ≡ p ^ suc k → Rounds p (suc n) t (suc k) a α → Independent p (suc n) t α
    unfolding residue_field
    rounds_independent k a α size h =
        let (wa, wα) = rounds_words (suc k) a α h in
        let tower = rounds_tower (suc k) a α h wa wα in
        conjugates_independent prime wt irreducible (α, wα)
        (period_distinct K p (α, wα) (suc n) (ap (λ m. Ring.power K (α, wα) (p ^ m)) size ∙ tower_fixed F p prime vanishes k (a, wa) (α, wα) tower)
        (λ d pos less. tower_moves F p prime vanishes k (a, wa) (α, wα) tower d pos (subst (λ m. d < m) size less)))

-- the α of two models satisfy one relation
module _ {p n : ℕ} {t1 t2 : List ℕ} (prime : Prime p) (w1 : Words p (suc n) t1) (w2 : Words p (suc n) t2) (irreducible1 : HasDivisor p t1 → ⊥) (irreducible2 : HasDivisor p t2 → ⊥) where
  pub rounds_related : (k : ℕ) → suc n ≡ p ^ suc k → (a1 α1 a2 α2 : List ℕ) → Rounds p (suc n) t1 (suc k) a1 α1 → Rounds p (suc n) t2 (suc k) a2 α2 → Related p (suc n) t1 t2 α1 α2
  rounds_related k size a1 α1 a2 α2 h1 h2 =
      let (wa1, wα1) = rounds_words prime w1 (suc k) a1 α1 h1 in
      let (wa2, wα2) = rounds_words prime w2 (suc k) a2 α2 h2 in
      let independent1 : Independent p (suc n) t1 α1 = rounds_independent prime w1 irreducible1 k a1 α1 size h1 in
      let (q, wq, root1, root2) =
      common_relation prime w1 w2 (suc k) size (a1, wa1) (α1, wα1) (a2, wa2) (α2, wα2) (rounds_tower prime w1 (suc k) a1 α1 h1 wa1 wα1) (rounds_tower prime w2 (suc k) a2 α2 h2 wa2 wα2)
      independent1 in
      record {
        q = q;
        q_words = wq;
        first = record { words = wα1; root = root1; independent = independent1 };
        second = record { words = wα2; root = root2; independent = rounds_independent prime w2 irreducible2 k a2 α2 size h2 };
      }
