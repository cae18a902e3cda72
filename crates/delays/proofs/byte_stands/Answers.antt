-- `byte_stands` meets its contract.
use native.Mathlib.Omega.{arith}
use Rattle.delays.proofs.Pairs.{byte_stands}
use Rattle.delays.proofs.byte_stands.Goals as goal

pub returns : goal.returns
returns c = let a = c.args in byte_stands a.need a.delta a.x (omega arith) (omega arith) (omega arith)
