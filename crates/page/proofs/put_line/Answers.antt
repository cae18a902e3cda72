-- `put_line` meets its contract: the characters, then the line feed.
use Rattle.decimal.proofs.Stores.{stored_then}
use Rattle.page.proofs.put_line.Goals as goal

pub returns : goal.returns
returns c = stored_then c.put_all-next.ensures c.put_byte.ensures
