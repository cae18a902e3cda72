-- `is_kept` meets its contract: the library's test of all bytes is that of the definition.
use mathlib.Core.Path.{◌≡◌, sym}
use mathlib.Core.Bool.{Bool, true, false}
use mathlib.Core.List.{List}
use Prim.Native.Nat.{ℕ, ◌<◌}
use native.Mathlib.Omega.{arith}
use lib.ListN.{length, get_or}
use borrow.Author.Rules.{rules}
use borrow.Author.Tests.{tests, eq-eqb, ne_eqb}
use Rattle.std.specs.Bool.{MatchBool}
use Rattle.std.specs.List.{AllWithin, HoldsAt}
use Rattle.std.proofs.lemmas.Iterator.{cases_from_all, YieldsList-from_slice}
use Rattle.plan.proofs.Laws.{all_from, all_stop}
use Rattle.report.specs.Lent.{filler, are_kept}
use Rattle.report.proofs.lent.is_kept.Goals as goal

-- a test that each byte passes, or one that some byte fails
decided : (bytes : List ℕ) (r : Bool) → MatchBool r (AllWithin (λ x. x ≡ filler) bytes 0 (length bytes)) ((k : ℕ) × (k < length bytes) × HoldsAt (λ x. x ≡ filler → ⊥) bytes k)
    → r ≡ are_kept bytes
unfolding are_kept
decided bytes true all = sym (all_from _ (length bytes) (λ i l. eq-eqb (get_or bytes i 0) filler (all i 0 (omega arith) l)))
decided bytes false (k, l, other) = sym (all_stop _ k (length bytes) l (ne_eqb (get_or bytes k 0) filler (other 0)))

pub returns : goal.returns
returns c = decided c.args.bytes.now c.all.result
    (cases_from_all _ _ _ (λ x. x ≡ filler) (λ x. x ≡ filler → ⊥) c.all.ensures.ran (YieldsList-from_slice c.args.bytes.now (cc)) (λ x q k. search (rules, tests)) (λ x q k. search (rules, tests)))
