-- `of_look` meets its contract: the pairs beside the result are stored, and a refusal is passed on with the buffer as it was.
use mathlib.Core.Path.{refl}
use native.Mathlib.Omega.{arith}
use Rattle.results.specs.Look.{places_of}
use Rattle.results.specs.Numbered.{shown_in}
use Rattle.capi_look.proofs.of_look.Goals as goal

pub put_pairs-shown-requires : goal.put_pairs-shown-requires
put_pairs-shown-requires c = rw c.places.ensures c.requires

pub overflow_mul-result : goal.overflow_mul-result
overflow_mul-result c = record { fits = omega (arith, c.put_pairs-shown.ensures.0) }

pub overflow_add-result : goal.overflow_add-result
overflow_add-result c = record { fits = omega (arith, c.put_pairs-shown.ensures.0, c.of_condition.ensures.1) }

pub returns-in-Ok : goal.returns-in-Ok
returns-in-Ok c = let e = rw (c.places.ensures, c.in-Ok.is) at c.put_pairs-shown.ensures in
    rw (c.in-Ok.is, c.of_condition.ensures.0, e.1) (refl, e.2)

pub returns-in-Err : goal.returns-in-Err
unfolding places_of shown_in
returns-in-Err c = let e = rw (c.places.ensures, c.in-Err.is) at c.put_pairs-shown.ensures in
    rw (c.in-Err.is, c.refusal.ensures) (refl, e.2)
