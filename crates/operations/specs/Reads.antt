-- The table of open reads, as the code fills it.
use Rattle.std.specs.Prelude.{◌≡◌, Bool, false, not, ◌&&◌, ◌||◌, List, ℕ, ◌+◌, ◌*◌, ◌<◌, leb, ltb, eqb, get_or}
use Rattle.register.specs.Lists.{any_up_to}
use Rattle.plan.specs.Header.{Header}
use Rattle.plan.specs.Parts as Parts
use Rattle.plan.specs.Parts.{operation_of}

-- a span of ticks, `from` up to and without `to`, of reader x: is tick t of reader y in it
unfoldable pub spans : ℕ → ℕ → ℕ → ℕ → ℕ → Bool
spans from to x y t = eqb x y && (leb from t && ltb t to)

-- the table l, places 128 x + tick, is k with that span marked
abbrev pub Marked : List Bool → List Bool → ℕ → ℕ → ℕ → Type 0
Marked l k x from to = (y t : ℕ) → t < 128 → get_or l (128 * y + t) false ≡ spans from to x y t || get_or k (128 * y + t) false

-- has reader x a read open in tick t, among the first i operations
unfoldable pub open_among : ℕ → List ℕ → Header → ℕ → ℕ → ℕ → Bool
open_among w s h i x t =
    any_up_to i (λ j.
    let o : Parts.Operation = operation_of w s h j in not (eqb o.party 0) && spans o.at (o.at + 2 * h.delta) o.party x t)

-- a table that says so at places 128 x + t
abbrev pub Opened : ℕ → List ℕ → Header → ℕ → List Bool → Type 0
Opened w s h i l = (x t : ℕ) → t < 128 → get_or l (128 * x + t) false ≡ open_among w s h i x t
