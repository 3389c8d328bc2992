-- The multiples of degree m of one polynomial D after the other, those of degree n in the order of their codes. Where D is not marked its multiples are struck out. Where it is, it has a
-- divisor of lower degree, of which the multiples of D are multiples too, so they are struck out already.
use mathlib.Core.Path.{◌≡◌, refl, sym, ap, ◌∙◌}
use mathlib.Core.Bool.{Bool, true, false}
use mathlib.Core.List.{List}
use mathlib.Core.Logic.{◌⊎◌, inl, inr}
use Prim.Native.Nat.{ℕ, zero, suc, ◌+◌, ◌^◌, ◌≤◌, ◌<◌}
use native.Mathlib.Decide.{dec_lt}
use native.Mathlib.Omega.{arith}
use lib.ListN.{length, get_or}
use Rattle.array.specs.Digits.{digits, code}
use Rattle.array.specs.Words.{Words}
use Rattle.array.proofs.Digits.{digits_words, digits-length, digits-code, code_below}
use Rattle.quotient.specs.Divisor.{Divides, HasDivisor}
use Rattle.quotient.specs.DivisorTest.{divides_test, has_divisor}
use Rattle.quotient.proofs.Decision.{test_divides, divides_test_lem, test_has_divisor}
use Rattle.quotient.proofs.Divisor.{divides_transitive}
use Rattle.sieve.specs.Clauses.{StruckBy, struck, bit, Sieved, Progress}

-- the two laws of the test, for a D of any degree n above 0

test_true : (p n m : ℕ) (d t : List ℕ) → 2 ≤ p → 0 < n → Words p n d → Words p m t → divides_test p d t ≡ true → Divides p d t
test_true p zero m d t big positive wd wt e = absurd (omega arith)
test_true p (suc n) m d t big positive wd wt e = test_divides big wd wt e

true_test : (p n m : ℕ) (d t : List ℕ) → 2 ≤ p → 0 < n → Words p n d → Words p m t → Divides p d t → divides_test p d t ≡ true
true_test p zero m d t big positive wd wt h = absurd (omega arith)
true_test p (suc n) m d t big positive wd wt h = divides_test_lem big wd wt h

divisor_divides : (p n : ℕ) (d c t : List ℕ) → 2 ≤ p → 0 < n → Words p n d → Divides p d c → Divides p c t → Divides p d t
divisor_divides p zero d c t big positive wd h k = absurd (omega arith)
divisor_divides p (suc n) d c t big positive wd h k = divides_transitive big wd c t h k

struck-one : (b : Bool) (x : ℕ) → x ≡ 1 → struck b x ≡ 1
unfolding struck
struck-one true x e = refl
struck-one false x e = e

struck-true : (b : Bool) (x : ℕ) → b ≡ true → struck b x ≡ 1
unfolding struck
struck-true b x e = rw e

module _ (p n m c : ℕ) (marks : List ℕ) (big : 2 ≤ p) (low : 1 ≤ n) (half : n + n ≤ m) (h : Progress p m n c marks) where
  abbrev D : List ℕ
  D = digits p n c

  wd : Words p n D
  wd = digits_words p n c (omega arith)

  words : (i : ℕ) → Words p m (digits p m i)
  words i = digits_words p m i (omega arith)

  -- the polynomials up to D are those before it and D itself
  up_to : (e : ℕ) (u : List ℕ) → Words p e u → (e < n) ⊎ ((e ≡ n) × (code p u < c + 1)) → Dec (code p u < c)
      → ((e < n) ⊎ ((e ≡ n) × (code p u < c))) ⊎ (u ≡ D)
  up_to e u wu (inl l) d = inl (inl l)
  up_to e u wu (inr (same, l)) (yes l') = inl (inr (same, l'))
  up_to e u wu (inr (same, l)) (no l') =
      let here : code p u ≡ c = omega arith in
      let wu' : Words p n u = rw same at wu in
      inr (sym (digits-code wu') ∙ ap (digits p n) here)

  -- D is not marked
  module _ (new : List ℕ) (s : StruckBy p D m marks new) where
    sound_struck : (i : ℕ) → i < p ^ m → (b : Bool) → divides_test p D (digits p m i) ≡ b
        → (get_or new (p ^ m + i) 0 ≡ 0) ⊎ ((get_or new (p ^ m + i) 0 ≡ 1) × HasDivisor p (digits p m i))
    unfolding struck
    sound_struck i l true e =
        let size : length (digits p m i) ≡ m = digits-length p m i in
        inr (s.inside i l ∙ rw e, (n, low, omega arith, D, wd, test_true p n m D (digits p m i) big low wd (words i) e))
    sound_struck i l false e =
        let same : get_or new (p ^ m + i) 0 ≡ get_or marks (p ^ m + i) 0 = s.inside i l ∙ rw e in
        rw same (h.sound i l)

    complete_struck : (i e : ℕ) (u : List ℕ) → i < p ^ m → 0 < e → Words p e u → Divides p u (digits p m i)
        → ((e < n) ⊎ ((e ≡ n) × (code p u < c))) ⊎ (u ≡ D) → get_or new (p ^ m + i) 0 ≡ 1
    complete_struck i e u l positive wu d (inl before) = s.inside i l ∙ struck-one _ _ (h.complete i e u l positive before wu d)
    complete_struck i e u l positive wu d (inr same) =
        s.inside i l ∙ struck-true _ _ (true_test p n m D (digits p m i) big low wd (words i) (rw same at d))

    pub progress_struck : Progress p m n (c + 1) new
    progress_struck =
        record {
          room = s.same_length ∙ h.room;
          sound = λ i l. sound_struck i l (divides_test p D (digits p m i)) refl;
          complete = λ i e u l positive before wu d. complete_struck i e u l positive wu d (up_to e u wu before (dec_lt (code p u) c));
        }

  -- D is marked
  module _ (here : c < p ^ n) (sieved : Sieved p n marks) (marked : get_or marks (p ^ n + c) 0 ≡ 0 → ⊥) where
    by_test : (b : Bool) → has_divisor p D ≡ b → HasDivisor p D
    unfolding bit
    by_test true e = test_has_divisor big wd e
    by_test false e = absurd (marked (sieved.words c here ∙ ap bit e))

    complete_skipped : (i e : ℕ) (u : List ℕ) → i < p ^ m → 0 < e → Words p e u → Divides p u (digits p m i)
        → ((e < n) ⊎ ((e ≡ n) × (code p u < c))) ⊎ (u ≡ D) → get_or marks (p ^ m + i) 0 ≡ 1
    complete_skipped i e u l positive wu d (inl before) = h.complete i e u l positive before wu d
    complete_skipped i e u l positive wu d (inr same) =
        let (k, k_positive, lower, v, wv, divides) = by_test (has_divisor p D) refl in
        let d' : Divides p D (digits p m i) = rw same at d in
        let lower' : k < n = rw (digits-length p n c) at lower in
        h.complete i k v l k_positive (inl lower') wv (divisor_divides p k v D (digits p m i) big k_positive wv divides d')

    pub progress_skipped : Progress p m n (c + 1) marks
    progress_skipped =
        record {
          room = h.room;
          sound = h.sound;
          complete = λ i e u l positive before wu d. complete_skipped i e u l positive wu d (up_to e u wu before (dec_lt (code p u) c));
        }

  -- all D of degree n are passed
  pub progress_end : p ^ n ≤ c → Progress p m (n + 1) 0 marks
  progress_end end =
      record { room = h.room; sound = h.sound; complete = λ i e u l positive before wu d. h.complete i e u l positive (passed e u wu before (dec_lt e n)) wu d }
    where
      passed : (e : ℕ) (u : List ℕ) → Words p e u → (e < n + 1) ⊎ ((e ≡ n + 1) × (code p u < 0)) → Dec (e < n) → (e < n) ⊎ ((e ≡ n) × (code p u < c))
      passed e u wu before (yes l) = inl l
      passed e u wu (inr (same, l)) (no l') = absurd (omega arith)
      passed e u wu (inl l) (no l') =
          let same : e ≡ n = omega arith in
          let wu' : Words p n u = rw same at wu in
          inr (same, omega (arith, code_below wu'))
