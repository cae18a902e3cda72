-- `looks` is safe and ends: i runs up to the number of looks.
use native.Mathlib.Nat.{mul-le-mul, lt_of_le_of_lt}
use borrow.Author.Rules.{rules}
use Rattle.vectors.proofs.looks.Goals as goal

pub overflow_mul-all : goal.overflow_mul-all
overflow_mul-all g c = record { fits = lt_of_le_of_lt (mul-le-mul {n₂ = 255} {m₂ = 255} (search rules) (search rules)) (search rules) }
