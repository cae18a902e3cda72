-- What Look shows of a server as the engine keeps it: its condition, and the pairs of its store.
use Rattle.std.specs.Prelude.{cond, List, [], ◌∷◌, eqb}
use Rattle.register.specs.Server.{Status, faulty, cured, correct}
use Rattle.limits.specs.Limits.{no_pair}
use Rattle.calendar.specs.declared.Stamped.{Stamped as Kept}
use Rattle.results.specs.declared.look.Condition.{Condition}
use Rattle.results.specs.declared.look.Condition.TheVariants as C
use Rattle.results.specs.Look.{Stamped}

-- the pairs of a store, before its first empty place
unfoldable pub stored_in : List Kept → List Stamped
stored_in [] = []
stored_in (p ∷ ps) = cond (eqb p.number no_pair) [] (record { value = p.value; number = p.number } ∷ stored_in ps)

-- a server's status as Look gives it
abbrev pub seen_of : Status → Condition
seen_of faulty = C.Faulty
seen_of (cured since) = C.Cured
seen_of correct = C.Correct
