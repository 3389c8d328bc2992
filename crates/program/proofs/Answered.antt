-- The bytes that the program reads answer for all that the reader has: they are all, or its first 167.
use Rattle.std.proofs.Common.{◌≡◌, sym, ap, ◌∙◌, subst, ℕ, ◌≤◌, ◌⊎◌, inl, inr, List, ◌++◌, length, take, Some, None, IfSome, Result, Ok, Err, OnOk, OnErr, take_at, append-nil, length-take-le}
use Rattle.std.specs.declared.option.Option.{Option}
use Rattle.std.specs.Io.KnownBytes.{Appends, Consumes, IsAtEnd}
use Rattle.answer.specs.Answer.{answer_text}
use Rattle.answer.proofs.LongInput.{long_input}

-- n bytes of the card were read: 167, or all that there were
pub answered : (had left held holds : Option (List ℕ)) (n : ℕ) (card : List ℕ) → n ≤ length card → Consumes had left (take n card) → (n ≡ 167) ⊎ IsAtEnd left
    → Appends held holds (answer_text (take n card)) → IfSome had (λ bytes. Appends held holds (answer_text bytes))
answered None left held holds n card within consumed whole appended = tt
answered (Some bytes) None held holds n card within consumed whole appended = absurd consumed
answered (Some bytes) (Some rest) held holds n card within consumed (inl full) appended =
    let first : take 167 bytes ≡ take n card = ap (take 167) consumed ∙ take_at (take n card) rest 167 (length-take-le n card within ∙ full) in
    subst (Appends held holds) (ap answer_text (sym first) ∙ long_input bytes) appended
answered (Some bytes) (Some rest) held holds n card within consumed (inr ended) appended =
    let same : take n card ≡ bytes = sym (consumed ∙ ap (λ l. take n card ++ l) ended ∙ append-nil (take n card)) in
    subst (Appends held holds) (ap answer_text same) appended

-- what follows from a fact on Ok holds on Ok
pub on_ok : {T E P Q : Type 0} (r : Result T E) → (P → Q) → OnOk r P → OnOk r Q
on_ok (Ok x) f h = f h
on_ok (Err x) f h = tt

-- and on an error likewise
pub on_err : {T E P Q : Type 0} (r : Result T E) → (P → Q) → OnErr r P → OnErr r Q
on_err (Ok x) f h = tt
on_err (Err x) f h = f h
