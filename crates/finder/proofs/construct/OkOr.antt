-- What `o.ok_or(e)?` says of o.
use Rattle.std.proofs.Common.{◌≡◌, refl, sym, Option, None, Some, Ok, Err, MatchOption, MatchResult}
use Rattle.std.specs.Option.{ok_or}
use Rattle.std.proofs.lemmas.Result.{MatchResult-at_ok, MatchResult-at_err}

module _ {A E : Type 0} (P : Type 0) (Q : A → Type 0) (o : Option A) (e : E) where
  by_cases : MatchOption o P Q → MatchResult (ok_or o e) Q (λ d. P × (d ≡ e))
  by_cases h = elim o as (λ o. MatchOption o P Q → MatchResult (ok_or o e) Q (λ d. P × (d ≡ e))) [ None ↦ (λ h. (h, refl)) | Some x ↦ (λ h. h) ] h

  pub some_of : (x : A) → Ok x ≡ ok_or o e → MatchOption o P Q → Q x
  some_of x is h = MatchResult-at_ok Q (λ d. P × (d ≡ e)) x (sym is) (by_cases h)

  pub none_of : (d : E) → Err d ≡ ok_or o e → MatchOption o P Q → P × (d ≡ e)
  none_of d is h = MatchResult-at_err Q (λ d. P × (d ≡ e)) d (sym is) (by_cases h)
