-- What the tests of a plan's header return, as the definitions have it.
use Rattle.std.specs.Prelude.{◌≡◌, List, ℕ, Result, Ok, Err}
use Rattle.plan.specs.declared.Refusal.{Refusal}
use Rattle.plan.specs.declared.header.Shape.{Shape}
use Rattle.plan.specs.{Check.refused, Check.result, CheckParts.check_header, Numbered.refusal_number, Shape.shape}

-- the plan's header, with the bits of a value that it was read with, or the refusal
abbrev pub IsHeaded : ℕ → List ℕ → Result Shape Refusal → Type 0
IsHeaded w s (Ok h) = (check_header w s ≡ result (shape h)) × (h.width ≡ w)
IsHeaded w s (Err why) = check_header w s ≡ refused (refusal_number why)
