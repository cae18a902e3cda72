-- `sending::to_servers` meets its contract: the delays to the servers lie in the plan.
use native.Mathlib.Omega.{arith}
use Rattle.tables.proofs.LinkLaws.{link_small, link_inside}
use Rattle.sending.proofs.to_servers.Goals as goal

pub of-requires : goal.of-requires
of-requires c = let f = c.args.from in
    let L = c.requires.linked in (
      L.servers,
      omega (arith, c.row_bit-bit.ensures, link_inside _ f.links f.links.n f.t L f.i (omega (arith, c.requires.sender, L.writer)), L.writer),
      omega (arith, c.row_bit-bit.ensures, link_small _ f.links f.links.n f.t L f.i (omega (arith, c.requires.sender, L.writer))),
    )
