-- What was read lies within the buffer, and what comes after each read.
use Rattle.std.specs.declared.ops.ControlFlow.{ControlFlow}
use Rattle.std.specs.declared.ops.ControlFlow.TheVariants.{Break, Continue}
use Rattle.std.specs.Prelude.{◌≡◌, List, ℕ, zero, suc, ◌+◌, ◌≤◌, length, take, Result, Ok, Err}
use Rattle.std.specs.declared.io.Error.{Error}

-- `&bytes[..n]` is in bounds and has n bytes.
abbrev pub IsPrefixLen : ℕ → List ℕ → Type 0
IsPrefixLen n bytes = (n ≤ length bytes) × (n ≡ length (take n bytes))

abbrev pub Within : Result ℕ Error → List ℕ → Type 0
Within (Ok n) bytes = IsPrefixLen n bytes
Within (Err e) bytes = Unit {0}

-- What a read that is handed so many bytes may answer: that it failed, or how many bytes it moved, no more than those.
abbrev pub Moved : ℕ → Result ℕ Error → Type 0
Moved n (Ok k) = k ≤ n
Moved n (Err e) = Unit {0}

-- After a read that answered so much, so many bytes being there before it: it failed, 0 is the input's end, and every other number counts
-- more bytes.
abbrev pub next_of : Result ℕ Error → ℕ → Result (ControlFlow ℕ ℕ) Error
next_of (Err e) done = Err e
next_of (Ok zero) done = Ok (Break done)
next_of (Ok (suc k)) done = Ok (Continue (done + suc k))
