-- `substitute`: where no refusal applies, the modulus and the arrays hold the lists, and the result fits the list lent.
use Rattle.arithmetic.proofs.Answers.{prime_range, degree_range, first_words, second_short, third_short, output_short, second_holds, third_holds, substitute_stores, substitute_stored}
use Rattle.arithmetic.proofs.call.substitute.Goals as goal

pub load-modulus-requires : goal.load-modulus-requires
load-modulus-requires c =
    let e = c.in_ok-sent.ensures in
    record { prime = prime_range _ _ _ _ _ e; degree = degree_range _ _ _ _ _ e; words = first_words _ _ _ _ _ e }

pub load-requires : goal.load-requires
load-requires c = second_short _ _ _ _ _ _ c.in_ok-sent.ensures

pub load-requires-2 : goal.load-requires-2
load-requires-2 c = third_short _ _ _ _ _ _ c.in_ok-sent.ensures

pub substitute-requires : goal.substitute-requires
substitute-requires c = rw (c.load-modulus.ensures.0, c.load-modulus.ensures.1) (second_holds _ _ _ _ _ _ c.in_ok-sent.ensures _ c.load.ensures, third_holds _ _ _ _ _ _ c.in_ok-sent.ensures _ c.load-2.ensures)

pub store-requires : goal.store-requires
store-requires c = (output_short _ _ _ _ _ c.in_ok-sent.ensures, substitute_stores _ _ _ _ _ _ c.in_ok-sent.ensures _ _ _ _ c.load-modulus.ensures.2 c.load.ensures c.load-2.ensures (rw (c.load-modulus.ensures.0, c.load-modulus.ensures.1) at c.substitute.ensures))

pub returns-clause-out_after : goal.returns-clause-out_after
returns-clause-out_after c = substitute_stored _ _ _ _ _ _ c.in_ok-sent.ensures _ _ _ _ c.load-modulus.ensures.2 c.load.ensures c.load-2.ensures (rw (c.load-modulus.ensures.0, c.load-modulus.ensures.1) at c.substitute.ensures) _ c.store.ensures
