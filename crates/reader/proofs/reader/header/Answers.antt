-- `reader::header`: the fields of the layout that the card is in.
use Rattle.std.proofs.Common.{rules}
use Rattle.card.proofs.Header.{prime_place, degree_place, kind_place, prime_read, degree_read, kind_read}
use Rattle.reader.proofs.reader.header.Goals as goal

pub field-p-requires : goal.field-p-requires
field-p-requires c = (search rules, search prime_place, search rules)

pub field-n-requires : goal.field-n-requires
field-n-requires c = (search rules, search degree_place, search rules)

pub field-kind-requires : goal.field-kind-requires
field-kind-requires c = (search rules, search kind_place, search rules)

pub returns-clause-prime : goal.returns-clause-prime
returns-clause-prime c = (search prime_read, search rules)

pub returns-clause-degree : goal.returns-clause-degree
returns-clause-degree c = (search degree_read, search rules, search rules)

pub returns-clause-kind : goal.returns-clause-kind
returns-clause-kind c = search kind_read
