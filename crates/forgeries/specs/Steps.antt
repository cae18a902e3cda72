-- What a forgery must meet by itself, as the code finds it.
use Rattle.std.specs.Prelude.{◌≡◌, Bool, false, not, ◌&&◌, ◌||◌, List, ℕ, ◌+◌, ◌*◌, ◌-◌, ◌/◌, ◌%◌, leb, ltb, eqb, get_or, drop}
use Rattle.register.specs.Plan.{Forgery}
use Rattle.plan.specs.Header.{Header, operation_at}
use Rattle.plan.specs.Packed.{plan_of}
use Rattle.plan.specs.Check.{read_open}

-- is the tick below the plan's, and the sender faulty then
abbrev pub is_sent : ℕ → List ℕ → Header → ℕ → ℕ → Bool
is_sent w s h at from = ltb at h.ticks && (plan_of w s).placed (at / h.period) from

-- is the receiver another server, or a reader with an open read in the table
abbrev pub is_received : ℕ → List Bool → ℕ → ℕ → ℕ → Bool
is_received n table at from to = (ltb to n && not (eqb to from)) || (leb n to && get_or table (128 * (to - n) + at) false)

-- the part of a forgery's test that looks at no other forgery
abbrev pub forged_alone : ℕ → List ℕ → Header → Forgery → Bool
forged_alone w s h g = is_sent w s h g.at g.from && ((ltb g.to h.n && not (eqb g.to g.from)) || read_open w s h g)

-- the bytes from the one that holds the first bit of the forgeries, and where that bit is in it
pub record ForgedPart (w : ℕ) (s : List ℕ) (h : Header) (part : List ℕ) (offset : ℕ) : Type 0 where
  pub bytes : part ≡ drop (operation_at w h h.operations / 8) s
  pub first : offset ≡ operation_at w h h.operations % 8
