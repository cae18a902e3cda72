-- The rows of a server in the table: those of another server stay, and a new period turns its votes.
use mathlib.Core.Path.{◌≡◌, fun_ext}
use mathlib.Core.Bool.{Bool, true, false, cond}
use mathlib.Core.Logic.{inl, inr}
use mathlib.Core.List.{List}
use Prim.Native.Nat.{ℕ, ◌+◌, ◌≤◌, ◌<◌}
use native.Mathlib.Nat.{add_assoc}
use native.Mathlib.Omega.{arith}
use lib.Dec.{ltb}
use borrow.Author.Tests.{ltb-true}
use Rattle.register.specs.Server.{Status}
use Rattle.calendar.proofs.Laws.{under}
use Rattle.tallies.specs.Tallies.{recent_at, of_server, row_of_sets, no_votes, Aged, SameOthers}
use Rattle.tallies.proofs.TallyLaws.{same_row, zero_row, apart, apart_recent}
use Rattle.serving.specs.declared.Server.{Server}
use Rattle.serving.specs.Stored.{Plain, server}
use Rattle.serving.specs.Stages.{turned}

-- of a server's parts only its votes stand in the table
pub votes_eq : (st : Status) (kept : List ℕ) (pend : ℕ → Bool) (f g p q : ℕ → ℕ → Bool) → f ≡ g → p ≡ q
    → ◌≡◌ {A = Plain} (record { status = st; kept = kept; pending = pend; fresh = f; recent = p }) (record { status = st; kept = kept; pending = pend; fresh = g; recent = q })
votes_eq st kept pend f g p q e d = rw (e, d)

pub others_same : (sets r : List ℕ) (b k m : ℕ) (s : Server) → SameOthers sets r b → (k ≡ b → ⊥) → b < 16 → k < 16 → m ≤ 65 → server m r k s ≡ server m sets k s
others_same sets r b k m s O d hb hk hm =
    votes_eq _ _ _ _ _ _ _ (same_row m sets r (of_server k) hm (λ j l. O.rest (of_server k + j) (apart b k j d l) (inl (omega arith))))
    (same_row m sets r (recent_at + of_server k) hm (λ j l. O.rest (recent_at + of_server k + j) (inr (omega arith)) (apart_recent b k j d l)))

pub aged_server : (m : ℕ) (sets r : List ℕ) (n b : ℕ) (two : Bool) (s : Server) → Aged sets r (of_server n) two → n ≤ 16 → b < n → m ≤ 65
    → server m r b s ≡ turned two (server m sets b s)
aged_server m sets r n b two s A hn hb hm =
    votes_eq _ _ _ _ _ _ _ (zero_row m r (of_server b) hm (λ j l. A.fresh (of_server b + j) (omega arith))) (recent two A)
  where
    recent : (two : Bool) → Aged sets r (of_server n) two → row_of_sets m r (recent_at + of_server b) ≡ cond two (row_of_sets m sets (of_server b)) no_votes
    recent true A = fun_ext (λ j. fun_ext (λ i. under (ltb j m) _ _ (λ l. rw (add_assoc recent_at (of_server b) j, A.recent (of_server b + j) (omega (arith, ltb-true j m l, hb, hm))))))
    recent false A = zero_row m r (recent_at + of_server b) hm (λ j l. rw (add_assoc recent_at (of_server b) j) (A.recent (of_server b + j) (omega (arith, hb))))
