-- A tick of the code is a tick of the plan: what it is fed fits, the reads that end are answered as the definitions say, the reads that begin are
-- set up, and the forged messages are those of the tick. It stands on Tables, Posts, and on the laws of scripts, of answers and of the cluster's state.
use mathlib.Core.{Path.◌≡◌, Path.sym, Path.ap, Path.◌∙◌, Path.subst, Bool.Bool, List.List}
use Prim.Native.Nat.{ℕ, suc, ◌+◌, ◌*◌, ◌-◌, ◌≤◌, ◌<◌}
use native.Mathlib.{Omega.arith, Decide.dec_le}
use lib.ListN.{length, get_or}
use Rattle.register.specs.{Lists.In, Plan.Read, Plan.read_end}
use Rattle.plan.{specs.Header.header_of, specs.Packed.plan_of, proofs.AcceptGood.good}
use Rattle.calendar.{specs.View.Posted, proofs.Spans.posted_spanned}
use Rattle.limits.specs.Bits.{bit}
use Rattle.limits.proofs.Bits.{bit_zero}
use Rattle.requests.{specs.Requests.SameBehind, specs.Requests.SameOutside, proofs.Requesting.behind_trans, proofs.Requesting.past_behind, proofs.Requesting.outside_sender, proofs.Requesting.outside_spanned}
use Rattle.serving.specs.declared.Server.{Server}
use Rattle.tallies.specs.Tallies.{of_reader, holds}
use Rattle.refinement.specs.{State.State, Requests.Requested}
use Rattle.refinement.proofs as refinement-laws
use Rattle.cluster.specs as cluster-specs
use Rattle.tables.specs as tables-specs
use Rattle.cluster.specs.Tick.{Ticked, Calm, feed_of}
use Rattle.forging.specs.Entries.{entries_end}
use Rattle.script.{specs.declared.Script.Script, specs.Script.width_in, specs.Inputs.LatestWrite, proofs.Fitting.script_fits, proofs.Fitting.script_sized}
use Rattle.reading.proofs.Answered.{answered}
use Rattle.reading.specs.Reading.{Until, read_at, chosen_bytes, placed, begun_by, SetUp}
use Rattle.reading.proofs.Cursors.{placed_same, begun_size, begun_other, begun_there}
use Rattle.script.specs.Script.{Decoded}
use Rattle.script.specs.Inputs.{FedBy}
use Rattle.script.proofs as script-laws
use Rattle.ticking.specs.Ticked.{answer_part}
use Rattle.ticking.proofs as ticking-laws
use Rattle.ticking.proofs.Tables.{knows, delta_same, listed, in_table, reader_range, not_before}

module _ (s : List ℕ) (r : Script) (R : Decoded s r) where
  module _ (work sets : List ℕ) (K : SameBehind R.after work) (room : entries_end ≤ length work) (t : ℕ) (below : t < r.shape.ticks) (number : ℕ)
      (c : cluster-specs.declared.Cluster.Cluster) (f : cluster-specs.declared.Feed.Feed) (F : FedBy s work r number c.ends t f)
      (S : State (plan_of (width_in r) s) (tables-specs.Known.pair_at (width_in r) r.writes.known) r.writes.known.m t c sets work)
      (Q : Requested (plan_of (width_in r) s) t work) (latest : LatestWrite r.writes.begun r.writes.known.m t number) where
    under : t < (header_of (width_in r) s).ticks
    under = omega (arith, script-laws.Feeding.ticks_same s r R)

    -- what it is fed, field by field
    abbrev feed : cluster-specs.declared.Feed.Feed
    feed = record { t = t; rules = r.rules; m = r.writes.known.m; links = r.links; arrivals = f.arrivals; movement = f.movement }

    fits : cluster-specs.Inputs.Fits (plan_of (width_in r) s) (tables-specs.Known.pair_at (width_in r) r.writes.known) t s r.rules r.writes.known.m r.links f.arrivals f.movement
    fits =
        script_fits s R.before R.after r R.playable R.scripted t under work c.ends number f.arrivals f.movement
        (rw R.scripted.rules.delta at F.comes) (rw (script-laws.Feeding.period_same s r R) at F.moves) Q latest S.readers.end

    pub sized : cluster-specs.Inputs.Tickable s work f.t f.rules f.m f.links
    sized =
        subst (λ (x : cluster-specs.declared.Feed.Feed). cluster-specs.Inputs.Tickable s work x.t x.rules x.m x.links) (sym F.same)
        (script_sized s R.before R.after r R.playable R.scripted work t under room S.calendar.spans)

    -- the servers are settled
    pub calm : Calm (feed_of s work f) sets c.servers
    calm = subst (λ (x : cluster-specs.declared.Feed.Feed). Calm (feed_of s work x) sets c.servers) (sym F.same)
        (refinement-laws.StateLaws.calm (plan_of (width_in r) s) (feed_of s work feed) fits c sets S)

    module _ (d : List Server) (then work₁ : List ℕ) (fed : Ticked (feed_of s work f) c.ends c.servers d sets then work₁ f.rules.n) where
      ticked : Ticked (feed_of s work feed) c.ends c.servers d sets then work₁ r.rules.n
      ticked = subst (λ (x : cluster-specs.declared.Feed.Feed). Ticked (feed_of s work x) c.ends c.servers d sets then work₁ x.rules.n) F.same fed

      -- a read that ends in this tick is answered as the definitions say
      ends_now : (k k' i : ℕ) → Until r.reads.begun r.reads.m 0 (t - 2 * r.rules.delta) k → Until r.reads.begun r.reads.m 0 (t + 1 - 2 * r.rules.delta) k' → k ≤ i → i < k'
          → t ≡ read_end (plan_of (width_in r) s) (read_at r.reads i)
      ends_now k k' i U W a b =
          omega (arith, not_before s r R (t - 2 * r.rules.delta) k i U a (omega (arith, W.few)), W.below i (omega arith) b, (delta_same s r R))

      answer-same : (i : ℕ) → i < r.reads.m → t ≡ read_end (plan_of (width_in r) s) (read_at r.reads i)
          → chosen_bytes (width_in r) then r.reads r.writes.known r.rules.reply i ≡ answer_part (width_in r) s i
      answer-same i l e =
          let q = read_at r.reads i in
          let a = answered (plan_of (width_in r) s) (tables-specs.Known.pair_at (width_in r) r.writes.known) r.writes.known.m (good (width_in r) s R.playable) (knows s r R) q (λ j k. holds then (of_reader (get_or r.reads.reader i 0 - 1) + j) k)
          (refinement-laws.StateLaws.noted_end (plan_of (width_in r) s) (good (width_in r) s R.playable) (feed_of s work feed) fits (knows s r R) c d sets then work₁ ticked S q (listed s r R i l) e) in
          rw (R.scripted.reads.each i l, fits.reply, a)

      pub answers_are : (k k' : ℕ) (answers : List ℕ) → Until r.reads.begun r.reads.m 0 (t - 2 * r.rules.delta) k → Until r.reads.begun r.reads.m 0 (t + 1 - 2 * r.rules.delta) k' → k ≤ k'
          → placed (width_in r) (chosen_bytes (width_in r) then r.reads r.writes.known r.rules.reply) k (k' - k) answers ≡ placed (width_in r) (answer_part (width_in r) s) k (k' - k) answers
      answers_are k k' answers U W h =
          placed_same (width_in r) _ (answer_part (width_in r) s) k (k' - k) answers (λ i a b. answer-same i (omega (arith, W.few)) (ends_now k k' i U W a (omega arith)))

      -- ---- the reads that begin

      module _ (between last : List ℕ) (O : SameOutside work₁ between) (k k' : ℕ) (U : Until r.reads.begun r.reads.m 0 t k) (W : Until r.reads.begun r.reads.m 0 (t + 1) k') (h : k ≤ k')
          (B : SetUp r.reads.reader k (k' - k) then last) where
        abbrev after : List ℕ
        after = begun_by r.reads.reader (t + 2 * r.rules.delta) k (k' - k) c.ends

        begins-now : (i : ℕ) → k ≤ i → i < k + (k' - k) → get_or r.reads.begun i 0 ≡ t
        begins-now i a b = omega (arith, not_before s r R t k i U a (omega (arith, W.few)), W.below i (omega arith) (omega arith))

        -- a read that begins now is one of them
        among : (i : ℕ) → i < r.reads.m → get_or r.reads.begun i 0 ≡ t → (k ≤ i) × (i < k + (k' - k))
        among i l e = (
          elim (dec_le k i) [ yes a ↦ a | no a ↦ absurd (omega (arith, U.below i (omega arith) (omega arith))) ],
          elim (dec_le k' i) [ yes a ↦ absurd (omega (arith, not_before s r R (t + 1) k' i W a l)) | no a ↦ omega arith ],
        )

        -- its place in the table
        placed-in : (q : Read) → In q (plan_of (width_in r) s).reads → q.begun ≡ t → (i : ℕ) × (i < r.reads.m) × (k ≤ i) × (i < k + (k' - k)) × (q.reader ≡ get_or r.reads.reader i 0)
        placed-in q iq e =
            let (i, l, z) = (in_table s r R) q iq in
            let w = among i l (sym (ap (λ (y : Read). y.begun) z) ∙ e) in
            (i, l, w.0, w.1, ap (λ (y : Read). y.reader) z)

        -- no read of reader x begins
        others : (x : ℕ) → 1 ≤ x → ((q : Read) → In q (plan_of (width_in r) s).reads → q.reader ≡ x → q.begun ≡ t → ⊥) → (i : ℕ) → k ≤ i → i < k + (k' - k) → x - 1 ≡ get_or r.reads.reader i 0 - 1 → ⊥
        others x a none i lo hi z =
            none (read_at r.reads i) (listed s r R i (omega (arith, W.few))) (omega (arith, ((reader_range s r R) i (omega (arith, W.few))).0)) (begins-now i lo hi)

        begins : refinement-laws.ReaderLaws.Begins (plan_of (width_in r) s) r.writes.known.m t c.ends after then last
        begins = record {
          size = begun_size r.reads.reader (t + 2 * r.rules.delta) k c.ends (k' - k) ∙ S.readers.size;
          end = λ q iq e.
              let (i, l, lo, hi, z) = placed-in q iq e in
              begun_there r.reads.reader (t + 2 * r.rules.delta) k c.ends (q.reader - 1) (k' - k) i lo hi (ap (λ (y : ℕ). y - 1) z)
              (omega (arith, S.readers.size, z, ((reader_range s r R) i l).1)) ∙ omega (arith, (delta_same s r R));
          named = λ q iq e j i l.
              let (u, m, lo, hi, z) = placed-in q iq e in
              rw (z, B.none u lo hi j (omega (arith, (knows s r R).few))) (bit_zero i);
          rest = λ x a b none. (
            begun_other r.reads.reader (t + 2 * r.rules.delta) k c.ends (x - 1) (k' - k) (others x a none),
            λ j i l. ap (bit i) (B.rest (x - 1) (others x a none) j (omega (arith, (knows s r R).few))),
          );
          votes = B.votes;
        }

        pub again : SameBehind R.after between
        again = behind_trans R.after work between K (behind_trans work work₁ between (past_behind work work₁ fed.rest) O.rest)

        abbrev posts : ℕ → ℕ → ℕ → Bool
        posts = ticking-laws.Posts.posts s r R t below between again after

        forges-now : refinement-laws.ReaderLaws.Forges (plan_of (width_in r) s) r.writes.known.m t (tables-specs.Known.pair_at (width_in r) r.writes.known) posts
        forges-now = record {
          votes = λ u b j i a z lb lj. ticking-laws.Posts.server_posts s r R t below between again after u b j i a z lb lj;
          replies = λ q o u j i a z lj.
              let end = refinement-laws.StateLaws.end_open (plan_of (width_in r) s) (good (width_in r) s R.playable) (feed_of s work feed) fits (knows s r R) c d sets then work₁ ticked S after last begins q o in
              ticking-laws.Posts.reader_posts s r R t below between again after u j i q.reader a z ((knows s r R).readers q o.listed) lj ∙ rw end;
          none = λ q iq idle u j i a z lj.
              let end = refinement-laws.StateLaws.end_idle (plan_of (width_in r) s) (good (width_in r) s R.playable) (feed_of s work feed) fits (knows s r R) c d sets then work₁ ticked S after last begins q iq idle in
              ticking-laws.Posts.reader_none s r R t below between again after u j i q.reader a z ((knows s r R).readers q iq) lj (omega (arith, end));
        }

        -- ---- all together

        pub state_next : (n : cluster-specs.declared.Cluster.Cluster) (work₂ : List ℕ) → n.servers ≡ d → n.ends ≡ after → Posted between work₂ posts
            → State (plan_of (width_in r) s) (tables-specs.Known.pair_at (width_in r) r.writes.known) r.writes.known.m (suc t) n last work₂
        state_next n work₂ es er N =
            refinement-laws.StateLaws.next_state (plan_of (width_in r) s) (good (width_in r) s R.playable) (feed_of s work feed) fits (knows s r R) c d sets then work₁ ticked S n last work₂ posts es (rw er begins)
            (λ x j i l m. N.cells x j i l m ∙ rw (outside_sender work₁ between O x j i l m))
            (posted_spanned between work₂ posts N (outside_spanned work₁ between O fed.spans)) forges-now
