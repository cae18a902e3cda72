-- What a script and its ticks are fed fits the plan: the laws that the crate above cites.
-- It stands on Knowing, Entries, where the parts of the plan stand, and the laws of requests.
use mathlib.Core.Path.{◌≡◌, refl, sym, ap, ◌∙◌}
use mathlib.Core.Bool.{Bool, true, false, not, cond}
use mathlib.Core.List.{List}
use Prim.Native.Nat.{ℕ, suc, ◌+◌, ◌*◌, ◌-◌, ◌≤◌, ◌<◌}
use native.Mathlib.Omega.{arith}
use lib.Dec.{eqb}
use lib.ListN.{length, get_or}
use borrow.Author.Tests.{lt-ltb, eq-eqb, ne_eqb}
use Rattle.register.specs as register-specs
use Rattle.plan.specs.Header.{header_of}
use Rattle.plan.specs as plan-specs
use Rattle.plan.specs.Packed.{plan_of}
use Rattle.plan.proofs as plan-laws
use Rattle.cluster.specs as cluster-specs
use Rattle.tables.specs as tables-specs
use Rattle.calendar.specs as calendar-specs
use Rattle.limits.specs as limits-specs
use Rattle.requests.specs.Requests.{SameBehind}
use Rattle.refinement.specs as refinement-specs
use Rattle.refinement.proofs.RequestLaws.{asked_now}
use Rattle.forging.specs as forging-specs
use Rattle.forging.proofs as forging-laws
use Rattle.script.specs as script-specs
use Rattle.script.proofs as script-laws
use Rattle.std.specs.Prelude.{Option, Some, None}
use Rattle.std.specs.Option.{is_some}
use Rattle.tables.proofs as tables-laws

brought : (c : Bool) (x : ℕ) → is_some (cond c (Some x) None) ≡ c
brought true x = refl
brought false x = refl

-- the entries stay as they are where only the calendar and the requests change
module _ (w : ℕ) (s after work values : List ℕ) (m : ℕ) (K : SameBehind after work) where
  byte-kept : (e k : ℕ) → forging-specs.Entries.entry_at work e k ≡ forging-specs.Entries.entry_at after e k
  byte-kept e k = K.behind (forging-specs.Entries.entries_at + 8 * e + k) (omega arith)

  pub entries_kept : ((e : ℕ) → e < (header_of w s).forgeries
      → forging-specs.Entries.Entry after e (tables-specs.Forged.message_of w s e) (tables-specs.Forged.message_delay w s e) (script-specs.Script.message_number w s values m e))
      → (e : ℕ) → e < (header_of w s).forgeries
      → forging-specs.Entries.Entry work e (tables-specs.Forged.message_of w s e) (tables-specs.Forged.message_delay w s e) (script-specs.Script.message_number w s values m e)
  entries_kept E e l = forging-laws.EntryLaws.entry_kept after work e _ _ _ (λ k h. byte-kept e k) (E e l)

  pub starts_kept : (starts : List ℕ) → forging-specs.Entries.Starts after (header_of w s).forgeries starts → forging-specs.Entries.Starts work (header_of w s).forgeries starts
  starts_kept starts S = record {
    each = λ u l. record {
      few = (S.each u l).few;
      below = λ i a h. rw (byte-kept i 0) ((S.each u l).below i a h);
      next = λ h. rw (byte-kept (get_or starts u 0) 0) ((S.each u l).next h);
    };
  }

module _ (s before after : List ℕ) (r : script-specs.declared.Script.Script) (A : plan-specs.Playable.Playable (script-specs.Script.width_in r) s)
    (R : script-specs.Script.Scripted s before after r) where
  -- the bits of a value
  abbrev w : ℕ
  w = script-specs.Script.width_in r

  pub script_knows : tables-specs.Known.Knows (plan_of w s) (tables-specs.Known.pair_at w r.writes.known) r.writes.known.m
  script_knows = script-laws.Knowing.knows w s A r.writes.known r.writes.begun R.writes

  module _ (t : ℕ) (below : t < (header_of w s).ticks) (work ends : List ℕ) (number : ℕ) (arrivals : cluster-specs.declared.Arrivals.Arrivals) (movement : Option ℕ)
      (comes : script-specs.Inputs.Arrive work number ends t (header_of w s).delta arrivals) (moves : script-specs.Inputs.Moves w s (header_of w s).period t movement)
      (requested : refinement-specs.Requests.Requested (plan_of w s) t work) (latest : script-specs.Inputs.LatestWrite r.writes.begun r.writes.known.m t number)
      (open-ends : (q : register-specs.Plan.Read) → refinement-specs.State.Open (plan_of w s) t q → get_or ends (q.reader - 1) 0 ≡ register-specs.Plan.read_end (plan_of w s) q) where
    live : (q : register-specs.Plan.Read) → register-specs.Lists.In q (plan_of w s).reads → q.begun < t → t ≤ register-specs.Plan.read_end (plan_of w s) q
        → limits-specs.Bits.bit q.reader arrivals.live ≡ not (eqb (register-specs.Plan.read_end (plan_of w s) q + 1) (t + 2 * (header_of w s).delta))
    unfolding script-specs.Inputs.live_at
    live q iq begun lasts =
        let (lo, hi) = script_knows.readers q iq in
        ap (λ (f : ℕ → Bool). f q.reader) comes.live
        ∙ rw (lt-ltb q.reader cluster-specs.Inputs.requesters (omega arith), lt-ltb 0 q.reader (omega arith), open-ends q (record { listed = iq; begun = begun; lasts = lasts }))

    pub script_fits : cluster-specs.Inputs.Fits (plan_of w s) (tables-specs.Known.pair_at w r.writes.known) t s r.rules r.writes.known.m r.links arrivals movement
    unfolding plan_of register-specs.Plan.is_move cluster-specs.Inputs.wrote_at cluster-specs.Inputs.asks_at
    script_fits = record {
      n = R.rules.n;
      servers = R.links.n;
      delta = R.rules.delta;
      two = R.rules.two;
      echo = R.rules.echo;
      reply = R.rules.reply;
      delays = λ i b li lb d. tables-laws.Placing.server_delay w s A r.links R.links t i b below li (omega arith) (λ z. d (sym z)) (λ z. omega arith);
      replies = λ i q li iq.
          let Q = plan-laws.AcceptReads.read_stands w s A q iq in (
            omega (arith, R.links.parties, Q.reader_hi),
            tables-laws.Placing.server_delay w s A r.links R.links t i ((header_of w s).n + q.reader) below li (omega (arith, Q.reader_hi)) (λ z. omega arith)
                (λ z. omega (arith, Q.reader_lo)),
          );
      moving = rw moves (brought _ _);
      faulty = λ e b l. rw (moves, e) (tables-laws.Placing.placed_bit w s A t b below l);
      wrote = λ b j lb lj.
          script-laws.Knowing.wrote_last w s A r.writes.known r.writes.begun R.writes t b number latest j lj
          ∙ rw (comes.requests.each 0 (omega arith), comes.last, requested.writes t b (omega arith) (omega arith) lb);
      asks = λ b q lb iq begun lasts.
          let (lo, hi) = script_knows.readers q iq in
          asked_now (plan_of w s) (plan-laws.AcceptGood.good w s A) t b q iq begun lasts
          ∙ rw (
            lt-ltb q.reader cluster-specs.Inputs.requesters (omega arith),
            lt-ltb 0 q.reader (omega arith),
            comes.requests.each q.reader (omega arith),
            requested.reads t q.reader b (omega arith) (omega arith) lo hi lb,
          );
      lasting = λ q iq begun lasts. live q iq (omega arith) lasts ∙ ap not (ne_eqb (register-specs.Plan.read_end (plan_of w s) q + 1) (t + 2 * (header_of w s).delta) (λ z. omega arith));
      began = λ q iq e.
          live q iq (omega arith) (omega (arith, (plan-laws.Accept.in_range w s A).delta_lo))
          ∙ ap not (eq-eqb (register-specs.Plan.read_end (plan_of w s) q + 1) (t + 2 * (header_of w s).delta) (omega arith));
    }

  pub script_sized : (work : List ℕ) (t : ℕ) → t < (header_of w s).ticks → forging-specs.Entries.entries_end ≤ length work → calendar-specs.View.Spanned work
      → cluster-specs.Inputs.Tickable s work t r.rules r.writes.known.m r.links
  script_sized work t below room spans =
      let H = plan-laws.Accept.in_range w s A in
      record {
        room = omega arith;
        spans = spans;
        tick = omega (arith, H.ticks_hi);
        servers = omega (arith, R.rules.n, H.n_hi);
        delta = omega (arith, R.rules.delta, H.delta_hi);
        pairs = R.writes.few;
        echo = omega (arith, R.rules.echo);
        reply = omega (arith, R.rules.reply);
        same = R.links.n ∙ sym R.rules.n;
        linked = tables-laws.Placing.table w s A r.links R.links R.narrow (suc t) below;
        delays = λ i q li lq d e.
            rw (tables-laws.Placing.server_delay w s A r.links R.links t i q below (rw R.rules.n at li) (rw R.links.parties at lq) d (rw R.rules.n at e))
            (plan-laws.AcceptGood.delay_range w s A t i q).0;
      }
