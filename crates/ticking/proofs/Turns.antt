-- A tick as the code has it: the readers hear, the servers go through their stages, reads end and begin, messages are forged.
-- It stands on Ticking and on the cluster's laws of the whole tick.
use mathlib.Core.{Path.◌≡◌, Path.refl, Path.sym, Path.ap, Path.◌∙◌, Path.subst, Bool.false, Bool.◌||◌, List.List}
use Prim.Native.Nat.{ℕ, suc, ◌+◌, ◌*◌, ◌-◌, ◌≤◌, ◌<◌}
use native.Mathlib.{Omega.arith, Numerals.add-one}
use lib.ListN.{length, get_or}
use Rattle.register.proofs.Logic.{neither}
use Rattle.plan.specs.Packed.{plan_of}
use Rattle.calendar.specs.View.{SamePast, Spanned, Posted}
use Rattle.serving.specs.declared.Server.{Server}
use Rattle.cluster.specs as cluster-specs
use Rattle.cluster.specs.Tick.{Heard, Calm, Ticked, Values, feed_of}
use Rattle.cluster.proofs.RowLaws.{sized_after}
use Rattle.refinement.proofs as refinement-laws
use Rattle.script.specs as script-specs
use Rattle.forging.specs as forging-specs
use Rattle.forging.specs.Forging.{SentIn, forges}
use Rattle.requests.{specs.Requests.SameBehind, specs.Requests.SameOutside, proofs.Requesting.behind_trans, proofs.Requesting.outside_trans, proofs.Requesting.past_behind, specs.Asking.WroteOn, proofs.AskingLaws.between_none}
use Rattle.reading.specs as reading-specs
use Rattle.reading.proofs.Cursors.{until_more, until_still, placed_none, begun_none, set_up_none}
use Rattle.ticking.specs as ticking-specs
use Rattle.ticking.proofs as ticking-laws
use Rattle.ticking.proofs.Ticking.{sized, calm, answers_are, state_next}

-- no read ends or begins in tick t: nothing is to be done
pub none_due : (s : List ℕ) (r : script-specs.declared.Script.Script) (t : ℕ) (q : reading-specs.declared.Reading.Reading) → reading-specs.Reading.Begun r q → (answers work sets : List ℕ)
    → reading-specs.Reading.is_before r.reads.begun r.reads.m q.begun (t + 1) || reading-specs.Reading.is_before r.reads.begun r.reads.m q.answered (t + 1 - 2 * r.rules.delta) ≡ false
    → reading-specs.Reading.WentOn s r t q q answers answers work work sets sets
none_due s r t q B answers work sets e =
    let n = neither _ _ e in
    record {
      ended = until_still r.reads.begun r.reads.m q.answered (t + 1 - 2 * r.rules.delta) B.answered n.1;
      began = until_still r.reads.begun r.reads.m q.begun (t + 1) B.begun n.0;
      answers = placed_none (script-specs.Script.width_in r) _ q.answered answers;
      ends = begun_none r.reads.reader (t + 2 * r.rules.delta) q.begun q.ends;
      table = set_up_none r.reads.reader q.begun sets;
      asked = between_none s r.links r.links.n t r.reads.reader q.begun work;
    }

-- ---- one tick

module _ (s work sets : List ℕ) (r : script-specs.declared.Script.Script) (p : ticking-specs.declared.Playing.Playing) (Q : ticking-specs.Ticked.Ready s work r) (below : p.tick < r.shape.ticks)
    (L : ticking-specs.Ticked.PlayedTo s work sets r p) where
  -- the cursors of its reads
  abbrev pub reads : reading-specs.declared.Reading.Reading
  reads = record { ends = p.cluster.ends; begun = p.begun; answered = p.answered }

  -- reads may end and begin
  pub can_go_on : reading-specs.Reading.Begun r reads
  can_go_on = record {
    table = ticking-laws.Tables.there s r Q.decoded 0 r.reads.m (omega arith) (omega arith);
    parties = λ i l. ticking-laws.Tables.readers_there s r Q.decoded i l;
    pairs = Q.decoded.scripted.writes.few;
    width = Q.decoded.scripted.narrow;
    narrow = Q.decoded.scripted.writes.small;
    begun = L.begun.few;
    answered = L.answered.few;
  }

  module _ (f : cluster-specs.declared.Feed.Feed) (F : script-specs.Inputs.FedBy s work r p.written p.cluster.ends p.tick f) where
    pub same_tick : f.t ≡ p.tick
    same_tick = ap (λ (x : cluster-specs.declared.Feed.Feed). x.t) F.same

    pub same_number : f.rules.n ≡ r.rules.n
    same_number = ap (λ (x : cluster-specs.declared.Feed.Feed). x.rules.n) F.same

    pub fed_sized : cluster-specs.Inputs.Tickable s work f.t f.rules f.m f.links
    fed_sized = sized s r Q.decoded work sets Q.kept Q.room p.tick below p.written p.cluster f F L.state L.requested L.written

    -- in a later stage: the calendar has changed, and no more
    pub later : (after : List ℕ) → SamePast work after → Spanned after → cluster-specs.Inputs.Tickable s after f.t f.rules f.m f.links
    later after P S = sized_after s work after f.t f.rules f.m f.links fed_sized P S

    pub fed_heard : (noted heard : List ℕ) → Heard work noted sets heard p.tick → Heard work noted sets heard f.t
    fed_heard noted heard H = subst (λ (x : ℕ). Heard work noted sets heard x) (sym same_tick) H

    -- the servers are settled after the readers have heard
    pub heard_calm : (noted heard : List ℕ) → Heard work noted sets heard p.tick → Calm (feed_of s noted f) heard p.cluster.servers
    heard_calm noted heard H b l =
        rw (refinement-laws.RowLaws.votes_stay f.m sets heard p.cluster.servers b fed_sized.pairs (omega (arith, fed_sized.servers)) H.votes)
        (calm s r Q.decoded work sets Q.kept Q.room p.tick below p.written p.cluster f F L.state L.requested L.written b l)

    module _ (servers : List Server) (then work₁ : List ℕ) (fed : Ticked (feed_of s work f) p.cluster.ends p.cluster.servers servers sets then work₁ f.rules.n)
        (valued : Values f.rules.n r.writes.known.values p.cluster.servers servers) (written : ℕ) (work₂ : List ℕ)
        (N : WroteOn s r.links r.links.n p.tick r.writes.begun r.writes.known.m p.written written work₁ work₂)
        (z : reading-specs.declared.Reading.Reading) (answers answers₁ work₃ last : List ℕ) (W : reading-specs.Reading.WentOn s r p.tick reads z answers answers₁ work₂ work₃ then last) where
      outside : SameOutside work₁ work₃
      outside = outside_trans work₁ work₂ work₃ N.outside W.asked.outside

      behind : SameBehind work work₃
      behind = behind_trans work work₁ work₃ (past_behind work work₁ fed.rest) outside.rest

      have-ended : reading-specs.Reading.Until r.reads.begun r.reads.m 0 (p.tick + 1 - 2 * r.rules.delta) z.answered
      have-ended =
          until_more r.reads.begun r.reads.m (p.tick - 2 * r.rules.delta) (p.tick + 1 - 2 * r.rules.delta) p.answered z.answered (omega arith) L.answered W.ended

      have-begun : reading-specs.Reading.Until r.reads.begun r.reads.m 0 (p.tick + 1) z.begun
      have-begun = until_more r.reads.begun r.reads.m p.tick (p.tick + 1) p.begun z.begun (omega arith) L.begun W.began

      pub forge_ready : (r.rules.n ≤ 16) × (p.tick < 128) × (forging-specs.Entries.entries_end ≤ length work₃) × SentIn work₃ r.starts p.tick
      forge_ready =
          ticking-laws.Posts.can_forge s r Q.decoded p.tick below work₃ (behind_trans Q.decoded.after work work₃ Q.kept behind) z.ends (omega (arith, Q.room, behind.size))

      -- the state after the tick
      abbrev next : ticking-specs.declared.Playing.Playing
      next = record { cluster = record { servers = servers; ends = z.ends }; written = written; begun = z.begun; answered = z.answered; tick = p.tick + 1 }

      pub went : (work₄ : List ℕ) → Posted work₃ work₄ (forges z.ends r.rules.n work₃ (get_or r.starts p.tick 0) (get_or r.starts (p.tick + 1) 0))
          → ticking-specs.Ticked.Went s work work₄ sets last answers answers₁ r p next
      went work₄ P =
          let D = Q.decoded in
          let up : p.begun ≤ z.begun = omega (arith, W.began.from) in
          record {
            kept = behind_trans work work₃ work₄ behind (past_behind work₃ work₄ P.rest);
            played = record {
              size = fed.servers ∙ L.size;
              table = W.table.size ∙ (fed.size ∙ L.table);
              state = rw (add-one p.tick) (state_next s r D work sets Q.kept Q.room p.tick below p.written p.cluster f F L.state L.requested L.written servers then work₁ fed work₃ last outside
                  p.begun z.begun L.begun have-begun up W.table next.cluster work₄ refl W.ends (rw W.ends at P));
              valued = λ b l. valued (λ i h. L.valued i (omega (arith, same_number))) b (omega (arith, same_number));
              requested = rw (add-one p.tick) (refinement-laws.RequestLaws.requested_past (plan_of (script-specs.Script.width_in r) s) (suc p.tick) work₃ work₄ P.rest (ticking-laws.Requests.requested_after s r D p.tick below p.written L.written p.begun z.begun L.begun have-begun up
                  written work₁ work₂ work₃ (refinement-laws.RequestLaws.requested_past (plan_of (script-specs.Script.width_in r) s) p.tick work work₁ fed.rest L.requested) N W.asked));
              written = rw (add-one p.tick) (ticking-laws.Requests.written_next s r D p.tick below p.written L.written written work₁ work₂ N);
              begun = have-begun;
              answered = have-ended;
            };
            ordered = omega (arith, W.ended.from);
            answers = W.answers ∙ answers_are s r D work sets Q.kept Q.room p.tick below p.written p.cluster f F L.state L.requested L.written servers then work₁ fed
                p.answered z.answered answers L.answered have-ended (omega (arith, W.ended.from));
          }
