use Rattle.std.proofs.Common.{rules}
use Rattle.sieve.proofs.lows.Codes.{lows_begun, lows_below, start_below, lows_turn, lows_few, count_few, prime_few, prime_short, same_few, digit_plane}
use Rattle.sieve.proofs.lows.lows.Goals as goal

pub clear-requires : goal.clear-requires
clear-requires c = (search count_few, search rules)

pub loop-j-init : goal.loop-j-init
loop-j-init c = (search rules, search lows_begun)

pub plane-s-requires-clause-sizes : goal.plane-s-requires-clause-sizes
plane-s-requires-clause-sizes c = (search prime_few, search rules, search lows_few)

pub narrow-requires : goal.narrow-requires
narrow-requires c = search prime_short

pub collect-requires-clause-sizes : goal.collect-requires-clause-sizes
collect-requires-clause-sizes c = (search rules, search same_few, search start_below, search count_few, search rules)

pub collect-requires-clause-words_below : goal.collect-requires-clause-words_below
collect-requires-clause-words_below c = (search digit_plane, search lows_below)

pub loop-j-preserved : goal.loop-j-preserved
loop-j-preserved c = (search rules, search lows_turn)
