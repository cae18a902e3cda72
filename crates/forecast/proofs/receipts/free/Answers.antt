-- `free` meets its contract: one bit of the placement.
use mathlib.Core.Path.{◌≡◌, refl, ◌∙◌}
use mathlib.Core.Bool.{not}
use Prim.Native.Nat.{ℕ, zero, suc, ◌-◌, ◌/◌, ◌%◌, ◌^◌, ◌<◌}
use native.Mathlib.Omega.{arith}
use lib.Dec.{eqb}
use Rattle.register.specs.Lists.{one_if}
use Rattle.limits.specs.Limits.{most_servers}
use Rattle.limits.proofs.Bits.{bit_test}
use borrow.Author.Rules.{rules}
use Rattle.forecast.proofs.receipts.free.Goals as goal

-- 1 for a digit that is 0
taken : (x : ℕ) → 1 - x % 2 ≡ one_if (not (eqb (x % 2) 1))
taken x = go (x % 2) (omega arith)
  where
    go : (d : ℕ) → d < 2 → 1 - d ≡ one_if (not (eqb d 1))
    go zero l = refl
    go (suc zero) l = refl
    go (suc (suc d)) l = absurd (omega arith)

pub returns : goal.returns
returns c = (taken (c.args.placement / 2 ^ (most_servers - 1 - c.args.b)) ∙ rw (bit_test (most_servers - 1 - c.args.b) c.args.placement), search rules)
