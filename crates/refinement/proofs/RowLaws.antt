-- The reads of one reader, and the servers' rows of the table.
use mathlib.Core.Path.{◌≡◌, fun_ext}
use mathlib.Core.Bool.{Bool, ◌&&◌}
use mathlib.Core.Logic.{◌⊎◌, inl, inr}
use mathlib.Core.List.{List}
use Prim.Native.Nat.{ℕ, ◌+◌, ◌≤◌, ◌<◌}
use native.Mathlib.Omega.{arith}
use native.Mathlib.Decide.{dec_le}
use lib.Dec.{eqb, leb, ltb, eqb→eq, eqb_refl, leb→le, le→leb, ltb→lt, lt→ltb, T_not}
use lib.ListN.{get_or}
use borrow.Author.Tests.{le-ltb}
use Rattle.register.specs.Lists.{any}
use Rattle.register.specs.Plan.{Plan, Read, read_end}
use Rattle.register.proofs.Logic.{and_l, and_r, and_i, test}
use Rattle.register.proofs.Lists.{any_in, in_any}
use Rattle.limits.specs.Limits.{most_servers, places}
use Rattle.serving.specs.declared.Server.{Server}
use Rattle.tallies.specs.Tallies.{recent_at, named_at, of_server, row_of_sets}
use Rattle.cluster.specs.Tick.{server_at}
use Rattle.refinement.specs.State.{Open, Idle}

-- a reader has an open read or none
pub open_or_idle : (P : Plan) (t x : ℕ) → ((r : Read) × Open P t r × (r.reader ≡ x)) ⊎ Idle P t x
open_or_idle P t x = elim (test (any isOpen P.reads)) [
  | inl h ↦ (let (r, i, y) = any_in isOpen P.reads h in
      inl (r, record { listed = i; begun = ltb→lt r.begun t (search (and_l, and_r)); lasts = leb→le t (read_end P r) (search (and_l, and_r)) }, eqb→eq r.reader x (search and_l)))
  | inr h ↦ inr (λ r i e b. elim (dec_le t (read_end P r)) [
    | no l ↦ omega arith
    | yes l ↦ absurd (T_not (any isOpen P.reads) h (in_any isOpen r P.reads i
        (and_i (eqb r.reader x) _ (rw e (eqb_refl x)) (and_i (ltb r.begun t) _ (lt→ltb r.begun t b) (le→leb t (read_end P r) l)))))
  ])
]
  where
    isOpen : Read → Bool
    isOpen r = eqb r.reader x && (ltb r.begun t && leb t (read_end P r))

-- the rows of server b lie before those of the readers
pub votes_stay : (m : ℕ) (sets then : List ℕ) (c : List Server) (b : ℕ) → m ≤ places → b < most_servers → ((k : ℕ) → k < named_at → get_or then k 0 ≡ get_or sets k 0)
    → server_at m then c b ≡ server_at m sets c b
votes_stay m sets then c b few l same = rw (row (of_server b) (omega arith), row (recent_at + of_server b) (omega arith))
  where
    row : (at : ℕ) → at + places ≤ named_at → row_of_sets m then at ≡ row_of_sets m sets at
    row at h = fun_ext (λ j. fun_ext (λ i. elim (dec_le m j) [ yes d ↦ rw (le-ltb j m d) | no d ↦ rw (same (at + j) (omega arith)) ]))
