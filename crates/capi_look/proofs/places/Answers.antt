-- `places` meets its contract: beside a refusal every place is empty.
use mathlib.Core.Path.{refl}
use Rattle.results.specs.Look.{places_of}
use Rattle.capi_look.proofs.places.Goals as goal

pub returns-in-Err : goal.returns-in-Err
unfolding places_of
returns-in-Err c = rw c.in-Err.is refl
