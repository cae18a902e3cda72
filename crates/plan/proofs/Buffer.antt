-- What an operation that fills a lent buffer returns is what its tests say. It stands on the definition.
use mathlib.Core.Path.{◌≡◌, refl}
use mathlib.Core.List.{List, ◌++◌}
use Prim.Native.Nat.{ℕ}
use lib.ListN.{drop}
use Rattle.plan.specs.Check.{Outcome, refused, result}
use Rattle.plan.specs.Buffer.{into_buffer}

pub into_outcome : (s out : List ℕ) (x : Outcome ℕ) → (into_buffer s out x).outcome ≡ x
unfolding into_buffer
into_outcome s out (refused number) = refl
into_outcome s out (result m) = refl

-- a refusal leaves the buffer, and a result has the bytes before those past them
pub into_refused : {number : ℕ} (s out : List ℕ) (x : Outcome ℕ) → refused number ≡ x → record { outcome = refused number; out = out } ≡ into_buffer s out x
unfolding into_buffer
into_refused s out x e = rw (← e)

pub into_result : {m : ℕ} (s out : List ℕ) (x : Outcome ℕ) → result m ≡ x → record { outcome = result m; out = s ++ drop m out } ≡ into_buffer s out x
unfolding into_buffer
into_result s out x e = rw (← e)
