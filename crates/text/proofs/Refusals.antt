-- Check refuses by a number from 1 to 8.
-- It stands on Check as a chain of tests.
use mathlib.Core.Path.{◌≡◌, sym, ◌∙◌}
use mathlib.Core.List.{List}
use Prim.Native.Nat.{ℕ, ◌≤◌}
use lib.Dec.{lit≤}
use lib.ListN.{length}
use Rattle.plan.specs.{Packed.plan_of, Check.refused, Check.check_of}
use Rattle.plan.proofs.Chain.{refusal_by, check_parts}

pub refusal_low : (w : ℕ) (s : List ℕ) (n : ℕ) → check_of w s ≡ refused n → n ≤ 8
refusal_low w s n e =
    refusal_by (λ (k : ℕ). k ≤ 8) _ (length (plan_of w s).reads) n
    (lit≤ tt, (lit≤ tt, (lit≤ tt, (lit≤ tt, (lit≤ tt, (lit≤ tt, (lit≤ tt, (lit≤ tt, tt))))))))
    (sym (check_parts w s) ∙ e)
