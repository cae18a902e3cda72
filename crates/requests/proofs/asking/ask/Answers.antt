-- `ask` meets its contract.
use Prim.Native.Nat.{◌+◌}
use native.Mathlib.Omega.{arith}
use Rattle.tables.proofs.LinkLaws.{link_inside, link_small}
use Rattle.requests.proofs.AskingLaws.{asked_sent}
use Rattle.requests.proofs.asking.ask.Goals as goal

pub of-sending-requires : goal.of-sending-requires
of-sending-requires c = let L = c.requires.0 in (
  L.servers,
  omega (arith, c.row_bit-bit.ensures, link_inside _ c.args.links c.args.links.n c.args.t L (c.args.links.n + c.args.p) c.requires.1, L.writer),
  omega (arith, c.row_bit-bit.ensures, link_small _ c.args.links c.args.links.n c.args.t L (c.args.links.n + c.args.p) c.requires.1),
)

pub returns : goal.returns
returns c = asked_sent _ c.args.links c.args.links.n c.args.t c.args.p _ (rw (c.row_bit-bit.ensures, c.from.ensures) at c.of-sending.ensures) _ _ c.post.ensures
