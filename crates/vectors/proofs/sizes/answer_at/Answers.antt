-- `answer_at` meets its contract: no answer has more than six bytes.
use mathlib.Core.Path.{ap}
use Prim.Native.Nat.{ℕ, ◌*◌}
use native.Mathlib.Nat.{mul-le-mul, lt_of_le_of_lt}
use borrow.Author.Rules.{rules}
use Rattle.vectors.proofs.sizes.answer_at.Goals as goal

pub overflow_mul-result : goal.overflow_mul-result
overflow_mul-result c = record { fits = lt_of_le_of_lt (mul-le-mul {n₂ = 6} {m₂ = 65536} (search rules) (search rules)) (search rules) }

pub returns : goal.returns
returns c = (mul-le-mul {n₂ = 6} {m₂ = 65536} (search rules) (search rules), ap (λ (n : ℕ). n * c.args.i) c.answer_bytes.ensures.1)
