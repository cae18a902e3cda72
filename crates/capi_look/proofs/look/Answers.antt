-- `look` meets its contract: the code of what Look returns, and the bytes that both leave.
use mathlib.Core.Path.{ap}
use Rattle.results.specs.Look.{Looked}
use Rattle.codes.specs.Codes.{coded_in}
use Rattle.codes.proofs.ThreeBytes.{look_three}
use Rattle.capi_look.proofs.look.Goals as goal

pub of_look-requires : goal.of_look-requires
of_look-requires c = rw (ap (λ (x : Looked). x.places) c.look.ensures) (look_three _ _ _ _ _)

pub returns : goal.returns
returns c = let e = c.of_look.ensures in
    rw (e.0, e.1) (ap (coded_in _) c.look.ensures)
