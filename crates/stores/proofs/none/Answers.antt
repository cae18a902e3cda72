-- `store::none` meets its contract: no place has a pair.
use Rattle.std.proofs.Common.{◌≡◌, List, ℕ, zero, suc, refl, ap, arith}
use mathlib.Core.Logic.{inl, inr}
use lib.ListN.{replicate}
use Rattle.calendar.specs.declared.Stamped.{Stamped}
use Rattle.limits.specs.Limits.{no_pair}
use Rattle.plan.specs.Packed.{store_depth}
use Rattle.stores.specs.Stores.{keys, Valued}
use Rattle.stores.proofs.none.Goals as goal

abbrev no_stamp : Stamped
no_stamp = record { number = no_pair; value = 0 }

worthless : (n : ℕ) (values : List ℕ) → Valued values (replicate n no_stamp)
worthless zero values p h = absurd h
worthless (suc n) values p (inl e) = λ l. let z : p.number ≡ no_pair = ap (λ (x : Stamped). x.number) e in absurd (omega arith)
worthless (suc n) values p (inr h) = worthless n values p h

pub returns : goal.returns
unfolding keys
returns c = (refl, worthless store_depth)
