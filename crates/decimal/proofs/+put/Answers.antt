-- `put` meets its contract: the digits of a tenth, then the last one. The measure is the number.
use Rattle.decimal.proofs.Stores.{stored_one, stored_digits}
use Rattle.decimal.proofs.+put.Goals as goal

pub returns-then-n-lt10-clause-stored : goal.returns-then-n-lt10-clause-stored
returns-then-n-lt10-clause-stored t c = (stored_one c.ranges.n.fits c.if-n-lt10.true c.put_byte.ensures).0

pub returns-else-n-lt10-clause-stored : goal.returns-else-n-lt10-clause-stored
returns-else-n-lt10-clause-stored t c = (stored_digits c.ranges.n.fits c.if-n-lt10.false c.put-next.ensures.stored c.put_byte-else-n-lt10.ensures).0

pub returns-else-n-lt10-clause-upper_bound : goal.returns-else-n-lt10-clause-upper_bound
returns-else-n-lt10-clause-upper_bound t c = (stored_digits c.ranges.n.fits c.if-n-lt10.false c.put-next.ensures.stored c.put_byte-else-n-lt10.ensures).1
