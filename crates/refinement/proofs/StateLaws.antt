-- A tick of the engine is a tick of the cluster: State before tick t and what the tick is fed give State before tick t + 1, and at the start State
-- holds. It stands on VoteLaws, ReaderLaws and serving's laws of settled servers; the bound on n is not used.
use mathlib.Core.Path.{◌≡◌, refl, sym, ap, ◌∙◌, subst}
use mathlib.Core.Bool.{Bool, false, ◌&&◌, ◌||◌, and-false}
use mathlib.Core.List.{List, [], ◌∷◌}
use Prim.Native.Nat.{ℕ, suc, ◌+◌, ◌-◌, ◌≤◌, ◌<◌}
use native.Mathlib.Omega.{arith}
use lib.{Dec.ltb, ListN.get_or}
use borrow.Author.Tests.{le-ltb}
use Rattle.register.specs as register-specs
use Rattle.register.specs.{Lists.In, Plan.Plan, Plan.Read, Plan.read_end, Plan.echo_quorum, Plan.reply_quorum}
use Rattle.register.proofs as register-laws
use Rattle.calendar.specs.Layout.{rows, row_of, sender}
use Rattle.limits.specs.Limits.{places}
use Rattle.calendar.specs.View.{Spanned, Empty}
use Rattle.calendar.proofs.Spans.{empty_spanned}
use Rattle.serving.specs.{declared.Server.Server, Settled.Settled}
use Rattle.tallies.specs.Tallies.{of_reader, holds}
use Rattle.serving.proofs.Settled.{stages_settled, unvoted_settled}
use Rattle.cluster.specs as cluster-specs
use Rattle.cluster.specs.declared.Cluster.{Cluster}
use Rattle.tables.specs.Known.{Knows}
use Rattle.cluster.specs.Inputs.{Fits}
use Rattle.cluster.specs.Tick.{Fed, Ticked, Started, first_server, server_at}
use Rattle.refinement.specs.{Way.forged_as, Way.vote_way, State.Open, State.Idle, State.State}
use Rattle.refinement.proofs.{WayLaws.none_any, RowLaws.votes_stay, VoteLaws.new_server, VoteLaws.new_votes}
use Rattle.refinement.proofs.ReaderLaws.{Begins, Forges, noted_end as reader-noted, hears_next, idle_now, way_next, none_next}

-- the servers are settled, so that a tick may leave alone those that nothing reaches
pub calm : (P : Plan) (F : Fed) {g : ℕ → ℕ} → Fits P g F.t F.plan F.rules F.m F.links F.arrivals F.movement → (c : Cluster) (sets : List ℕ)
    → State P g F.m F.t c sets F.work → cluster-specs.Tick.Calm F sets c.servers
calm P F fit c sets S b l = rw (fit.echo, fit.reply) (S.settled b (omega (arith, fit.n)))

module _ (P : Plan) (G : register-laws.Good.Good P) (F : Fed) {g : ℕ → ℕ} (fit : Fits P g F.t F.plan F.rules F.m F.links F.arrivals F.movement)
    (K : Knows P g F.m) (c : Cluster) (r : List Server) (sets then work : List ℕ) (fed : Ticked F c.ends c.servers r sets then work F.rules.n)
    (S : State P g F.m F.t c sets F.work) where
  D : Ticked F c.ends c.servers r sets then work P.n
  D = subst (λ (n : ℕ). Ticked F c.ends c.servers r sets then work n) fit.n fed

  -- a read that ends in this tick: its reader has noted what the definitions say
  pub noted_end : (q : Read) → In q P.reads → F.t ≡ read_end P q → (j i : ℕ) → j < F.m
      → holds then (of_reader (q.reader - 1) + j) i ≡ (ltb i P.n && register-specs.Server.has (register-specs.Reading.noted_by P q) (g j) i)
  noted_end = reader-noted P G F fit K c r sets then work D S

  module _ (after last : List ℕ) (B : Begins P F.m F.t c.ends after then last) where
    -- once the reads of this tick have begun: the ends of the readers
    pub end_open : (q : Read) → Open P (suc F.t) q → get_or after (q.reader - 1) 0 ≡ read_end P q
    end_open = (hears_next P G F fit K c r sets then work D S after last B).end

    pub end_idle : (q : Read) → In q P.reads → Idle P (suc F.t) q.reader → get_or after (q.reader - 1) 0 ≤ F.t
    end_idle = idle_now P G F fit K c r sets then work D S after last B

  settled-next : (b : ℕ) → b < P.n → Settled F.m (echo_quorum P) (reply_quorum P) (server_at F.m then r b)
  settled-next b lb = rw (D.each b lb, ← fit.echo, ← fit.reply)
      (stages_settled F.m F.rules _ _ _ _ _ _ F.t (server_at F.m sets c.servers b) (omega (arith, fit.echo)) (omega (arith, fit.reply))
      (rw (fit.echo, fit.reply) (S.settled b lb)))

  -- a tick of the engine is a tick of the cluster
  pub next_state : (n : Cluster) (last work' : List ℕ) (f : ℕ → ℕ → ℕ → Bool) → n.servers ≡ r → Begins P F.m F.t c.ends n.ends then last
      → ((x j i : ℕ) → x < rows → j < places → sender work' x j i ≡ (sender work x j i || f x j i)) → Spanned work'
      → Forges P F.m F.t g f
      → State P g F.m (suc F.t) n last work'
  next_state n last work' f same B cells spans Y = record {
    servers = λ b lb. rw (stays b lb) (new_server P G F fit K c r sets then work D S b lb);
    settled = λ b lb. rw (stays b lb) (settled-next b lb);
    calendar = record {
      votes = λ s b j i a z lb h.
          new_votes P G F fit K c r sets then work D S s b (omega arith) (omega arith) lb j h i (sender work' (row_of s b) j i)
          (cells (row_of s b) j i (omega (arith, K.servers)) (omega (arith, K.few)) ∙ rw (Y.votes s b j i (omega arith) (omega arith) lb h));
      replies = way_next P G F fit K c r sets then work D S work' f cells Y;
      none = none_next P G F fit K c r sets then work D S work' f cells Y;
      spans = spans;
    };
    readers = hears_next P G F fit K c r sets then work D S n.ends last B;
  }
    where
      stays : (b : ℕ) → b < P.n → server_at F.m last n.servers b ≡ server_at F.m then r b
      stays b lb = rw same (votes_stay F.m then last r b K.few (omega (arith, K.servers)) B.votes)

-- ---- the start

pub first_state : (P : Plan) (g : ℕ → ℕ) (m : ℕ) → Knows P g m → {value : ℕ} (c : Cluster) (sets work : List ℕ) → Started value c → ((k : ℕ) → get_or sets k 0 ≡ 0) → Empty work
    → State P g m 0 c sets work
unfolding register-specs.Server.has register-specs.Lists.any register-specs.Lists.any_up_to register-laws.Trace.before vote_way
first_state P g m K c sets work S Z E = record {
  servers = λ b lb. rw (register-laws.Trace.before_zero P b lb, S.each b m sets (omega (arith, K.servers)) Z) (record {
    status = refl;
    kept = ap (λ (p : ℕ). p ∷ []) K.first.1;
    short = omega arith;
    fresh = λ j i h. nobody i;
    recent = λ j i h. nobody i;
    heard = λ r i a q. absurd (omega arith);
    unheard = λ r i a. refl;
    empty = λ y. absurd y;
  });
  settled = λ b lb. rw (S.each b m sets (omega (arith, K.servers)) Z)
      (unvoted_settled m (echo_quorum P) (reply_quorum P) (omega arith) (omega arith) first_server (omega arith) refl refl);
  calendar = record {
    votes = λ s b j i a z lb h.
        E.cells (row_of s b) j i (omega (arith, K.servers)) (omega (arith, K.few))
        ∙ rw (none_any (λ x. ltb x.at 0 && forged_as P s b (g j) i x) P.forged (λ x. rw (le-ltb x.at 0 (omega arith)))) (nobody i);
    replies = λ r o. absurd (omega (arith, o.begun));
    none = λ r l o s j i a z h. let k = K.readers r l in E.cells (row_of s (15 + r.reader)) j i (omega arith) (omega (arith, K.few));
    spans = empty_spanned work E;
  };
  readers = record {
    size = S.readers;
    end = λ r o. absurd (omega (arith, o.begun));
    named = λ r o. absurd (omega (arith, o.begun));
    idle = λ r l o. let k = K.readers r l in rw (S.idle (r.reader - 1) (omega arith)) (omega arith);
  };
}
  where
    nobody : (i : ℕ) → false ≡ (ltb i P.n && false)
    nobody i = sym (and-false (ltb i P.n))
