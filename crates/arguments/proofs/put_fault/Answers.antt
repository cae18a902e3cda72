-- `put_fault` meets its contract, fault by fault.
use mathlib.Core.Path.{sym, ap}
use Rattle.decimal.proofs.Stores.{stored_then, stored_as}
use Rattle.arguments.specs.declared.Fault.{Fault}
use Rattle.arguments.specs.Arguments.{fault_of}
use Rattle.arguments.proofs.put_fault.Goals as goal

pub returns-in-UnknownOption : goal.returns-in-UnknownOption
unfolding fault_of
returns-in-UnknownOption c = stored_as (sym (ap (λ (f : Fault). fault_of f c.args.word.now) c.in-UnknownOption.is)) (stored_then c.put_all-at.ensures c.put_shown.ensures)

pub returns-in-TooMany : goal.returns-in-TooMany
unfolding fault_of
returns-in-TooMany c = stored_as (sym (ap (λ (f : Fault). fault_of f c.args.word.now) c.in-TooMany.is)) c.put_all.ensures
