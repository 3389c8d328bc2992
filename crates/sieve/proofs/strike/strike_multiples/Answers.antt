-- D is loaded, the lower words of its multiples are worked out, and the multiples are struck out.
use Rattle.std.proofs.Common.{rules}
use Rattle.sieve.proofs.strike.Blocks.{modulus_small, size_fits, count_fits, divisor_holds, base_bound, count_bound, blocks_inside, codes_below, multiples_struck}
use Rattle.sieve.proofs.strike.strike_multiples.Goals as goal

pub power-count-requires : goal.power-count-requires
power-count-requires c = (search rules, search count_fits)

pub new-requires : goal.new-requires
new-requires c = (search rules, search modulus_small)

pub new-t-requires-clause-below : goal.new-t-requires-clause-below
new-t-requires-clause-below c = search divisor_holds

pub power-requires-2 : goal.power-requires-2
power-requires-2 c = (search rules, search size_fits)

pub strike-requires-clause-places : goal.strike-requires-clause-places
strike-requires-clause-places c = (search base_bound, search blocks_inside, search count_bound, search rules)

pub strike-requires-clause-words_below : goal.strike-requires-clause-words_below
strike-requires-clause-words_below c =
    let s = c.requires.sizes in
    codes_below _ _ _ s.0 s.1 s.2 s.4 _ _ _ c.power.ensures c.power-2.ensures c.power-count.ensures _ _ _ _ c.new.ensures c.lower_words.ensures
    (rw (c.new-t.ensures.0, c.new-t.ensures.1, c.new-t.ensures.2) at c.lows.ensures.lows)

pub returns-clause-struck_by : goal.returns-clause-struck_by
returns-clause-struck_by c =
    let s = c.requires.sizes in
    multiples_struck _ _ _ s.0 s.1 s.2 s.4 _ _ _ c.power.ensures c.power-2.ensures c.power-count.ensures _ _ _ _ c.new.ensures c.lower_words.ensures
    (rw (c.new-t.ensures.0, c.new-t.ensures.1, c.new-t.ensures.2) at c.lows.ensures.lows) _ _ c.strike.ensures
