-- What arrives at the servers: at one that is faulty or not, and the loop over them, its start and a turn. Nothing that is sent in a tick arrives in it,
-- so a later server finds its row as it was. It stands on the calendar's laws of posting and clearing, and on IdleLaws.
use mathlib.Core.{Path.◌≡◌, Path.refl, Path.sym, Path.ap, Path.subst, Path.◌∙◌, Path.fun_ext, List.List}
use mathlib.Core.Bool.{Bool, false, true, not, ◌&&◌, ◌||◌, and-false, or_assoc, or-false, and-or_distrib_left}
use Prim.Native.Nat.{ℕ, ◌+◌, ◌/◌, ◌%◌, ◌≤◌, ◌<◌}
use native.Mathlib.{Omega.arith, Decide.dec_le, Decide.ℕ_discrete}
use lib.{Bits.bit_and, Dec.eqb, Dec.ltb, Dec.leb-zero, ListN.length, ListN.get_or, ListN.set, ListN.length-set, Seq.get_or-set_same, Seq.get_or-set_other, Seq.set-get_or}
use borrow.Author.Tests.{le-ltb, eq-eqb, ne_eqb, eqb-true}
use Rattle.register.specs.{Lists.member, Server.is_faulty}
use Rattle.limits.specs.Bits.{bit}
use Rattle.calendar.specs.View.{Spanned, Posted}
use Rattle.calendar.specs.Layout.{receivers, rows, row_of, high_of, sender}
use Rattle.limits.specs.Limits.{places}
use Rattle.calendar.proofs as calendar-laws
use Rattle.limits.proofs as limits-laws
use Rattle.calendar.proofs.Posting.{posted_eq, posted_trans, posted_none}
use Rattle.serving.specs.declared.Server.{Server}
use Rattle.serving.specs.declared.Turn.{Turn}
use Rattle.sending.specs.declared.Sender.{Sender}
use Rattle.serving.specs.declared as serving-structs
use Rattle.tallies.specs.Tallies.{SameOthers}
use Rattle.sending.specs.Sends.{Said, votes_for, sends_vote, sends_reply, sends}
use Rattle.serving.specs.Stored.{Both, server, status_of, absent}
use Rattle.stores.specs.Stores.{keys, Valued}
use Rattle.serving.specs.Stages.{silent, stage_one}
use Rattle.serving.specs.{Settled.Settled, Methods.DeliveredTo}
use Rattle.serving.proofs as serving-laws
use Rattle.tallies.proofs as tallies-laws
use Rattle.sending.proofs as sending-laws
use Rattle.cluster.specs.declared.Feed.{Feed}
use Rattle.cluster.specs.Inputs.{Tickable, is_asked, wrote_at, asks_at}
use Rattle.cluster.specs.Tick.{Fed, feed_of, TurnOf, Reached, Delivered, sender_at, server_at, first_of, sent_by, Calm}
use Rattle.cluster.proofs.RowLaws.{past_trans, Emptied, emptied_before, empty_row}
use Rattle.cluster.proofs.IdleLaws.{silent_sends, none_drops, idle_one, quiet_sends}
use Rattle.cluster.proofs.Asking.{none_wrote, none_asks}

-- ---- at one server

module _ (plan ends values : List ℕ) (turn : Turn) (from : Sender) (s : Server) (sets work : List ℕ) where
  -- a faulty one loses it
  pub reached_lost : is_faulty (status_of s.status) ≡ true → Reached plan ends values turn from s s sets sets work work
  unfolding stage_one
  reached_lost e = record {
    out = record { server = server turn.m sets turn.server s; said = silent };
    first = rw e refl;
    stage = refl;
    others = tallies-laws.TallyLaws.others_none sets turn.server;
    valued = λ v. v;
    posted = posted_none work _ (λ x j k l m. rw (silent_sends plan from ends x j m) (and-false (eqb k from.i)));
  }

  -- another one votes and replies
  module _ (d : serving-structs.stages.Delivered.Delivered) (then mid : List ℕ) (alive : is_faulty (status_of s.status) ≡ false) (D : DeliveredTo work values turn s d sets then)
      (voted : Posted work mid (λ x j k. eqb k from.i && sends_vote plan from (λ y. eqb y turn.wrote) x j)) where
    pub reached_now : (after : List ℕ) → Posted mid after (λ x j k. eqb k from.i && sends_reply plan from ends (λ y. bit y d.readers) (λ y. member y (keys d.server.kept)) x j)
        → Reached plan ends values turn from s d.server sets then work after
    unfolding stage_one
    reached_now after R = record {
      out = record { server = server turn.m then turn.server d.server; said = said };
      first = rw alive D.stage;
      stage = refl;
      others = D.others;
      valued = D.valued;
      posted = posted_eq work after _ _ (posted_trans work mid after _ _ voted R) (λ x j k l m.
          rw votes (sym (and-or_distrib_left (eqb k from.i) (sends_vote plan from (λ y. eqb y turn.wrote) x j) (sends_reply plan from ends said.readers (λ y. member y said.pairs) x j))));
    }
      where
        said : Said
        said = record { wrote = turn.wrote; echoed = false; readers = λ x. bit x d.readers; pairs = keys d.server.kept }

        votes : votes_for said ≡ (λ y. eqb y turn.wrote)
        votes = fun_ext (λ y. or-false (eqb y turn.wrote))

    pub reached_unread : d.readers ≡ 0 → Reached plan ends values turn from s d.server sets then work mid
    reached_unread e = reached_now mid (posted_none mid _ (λ x j k l m.
        rw (sending-laws.SendLaws.reply_none plan from ends (λ y. bit y d.readers) (λ y. member y (keys d.server.kept)) x j (λ y. rw e (limits-laws.Bits.bit_zero y)))
        (and-false (eqb k from.i))))

-- the feed of a later server: the workspace as the servers before it leave it
abbrev pub feed_at : Fed → List ℕ → Fed
feed_at F work = record {
  plan = F.plan;
  work = work;
  t = F.t;
  rules = F.rules;
  m = F.m;
  links = F.links;
  arrivals = F.arrivals;
  movement = F.movement;
}

-- server b has what arrives, and what it sends is posted; its row is not cleared yet
pub record Served (F : Fed) (ends values : List ℕ) (b : ℕ) (s q : Server) (sets then mid : List ℕ) : Type 0 where
  pub stage : server F.m then b q ≡ (first_of F b (server F.m sets b s)).server
  pub others : SameOthers sets then b
  pub valued : Valued values s.kept → Valued values q.kept
  pub posted : Posted F.work mid (λ x j k. eqb k b && sent_by F ends b (first_of F b (server F.m sets b s)).said x j)

-- one that something reaches
module _ (plan work : List ℕ) (feed : Feed) (ends values : List ℕ) (b : ℕ) (s q : Server) (sets then mid : List ℕ) where
  abbrev turn_to : ℕ → Turn
  turn_to asks = record {
    server = b;
    row = row_of feed.t b;
    wrote = wrote_at feed.arrivals.requests feed.arrivals.number b;
    asks = asks;
    live = feed.arrivals.live;
    m = feed.m;
    rules = feed.rules;
  }

  abbrev by : Sender
  by = sender_at feed.links feed.t b

  served-at : (asks : ℕ) → ◌≡◌ {A = ℕ → Bool} (λ x. bit x asks) (asks_at feed.arrivals.requests b) → Reached plan ends values (turn_to asks) by s q sets then work mid
      → Served (feed_of plan work feed) ends values b s q sets then mid
  served-at asks e R =
      let first : R.out ≡ first_of (feed_of plan work feed) b (server feed.m sets b s) = rw e at R.first in
      record {
        stage = R.stage ∙ ap (λ (o : Both). o.server) first;
        others = R.others;
        valued = R.valued;
        posted = subst (λ (o : Both). Posted work mid (λ x j k. eqb k b && sends plan by ends o.said x j)) first R.posted;
      }

  pub served_now : (turn : Turn) (from : Sender) → TurnOf feed b turn → from ≡ sender_at feed.links feed.t b
      → Reached plan ends values turn from s q sets then work mid → Served (feed_of plan work feed) ends values b s q sets then mid
  served_now turn from T e R = served-at turn.asks T.asks
      (subst (λ (y : Sender). Reached plan ends values (turn_to turn.asks) y s q sets then work mid) e
      (subst (λ (x : Turn). Reached plan ends values x from s q sets then work mid) T.turn R))

-- one that nothing reaches stays, and sends nothing
pub served_idle : (F : Fed) (ends values : List ℕ) (b : ℕ) (s : Server) (sets : List ℕ) → b < 16 → F.m ≤ places → Spanned F.work → high_of F.work (row_of F.t b) ≡ 0
    → is_asked F.arrivals.requests b ≡ false → bit_and s.pending F.arrivals.live ≡ s.pending
    → Settled F.m F.rules.echo F.rules.reply (server F.m sets b s) → Served F ends values b s s sets sets F.work
served_idle F ends values b s sets l few S none unasked goes K =
    let p = server F.m sets b s in
    let w = wrote_at F.arrivals.requests F.arrivals.number b in
    let asks : ℕ → Bool = asks_at F.arrivals.requests b in
    let live : ℕ → Bool = λ x. bit x F.arrivals.live in
    let got : ℕ → ℕ → Bool = sender F.work (row_of F.t b) in
    let empty : (j i : ℕ) → j < F.m → got j i ≡ false = λ j i h. empty_row F.work (row_of F.t b) S (omega arith) none j i (omega arith) in
    let far : places ≤ w = omega (arith, none_wrote F.arrivals.requests b unasked F.arrivals.number) in
    let quiet = none_asks F.arrivals.requests b unasked in
    let lasts = none_drops s.pending F.arrivals.live goes in
    let e = idle_one F.m F.rules.echo F.rules.reply w got asks live p K few empty far quiet lasts in
    record {
      stage = rw e;
      others = tallies-laws.TallyLaws.others_none sets b;
      valued = λ v. v;
      posted = posted_none F.work _ (λ x j k h m.
          rw (e, quiet_sends F.m F.rules.echo F.rules.reply w got asks live p K few empty far quiet lasts F.plan (sender_at F.links F.t b) ends (is_faulty p.status) x j m)
          (and-false (eqb k b)));
    }

-- the same in the array of the servers
pub record Passed (F : Fed) (ends values : List ℕ) (b : ℕ) (r after : List Server) (sets then mid : List ℕ) : Type 0 where
  pub next : Server
  pub put : after ≡ set r b next
  pub served : Served F ends values b (get_or r b absent) next sets then mid

pub passed_idle : (F : Fed) (ends values : List ℕ) (b : ℕ) (r : List Server) (sets : List ℕ) → Served F ends values b (get_or r b absent) (get_or r b absent) sets sets F.work
    → Passed F ends values b r r sets sets F.work
passed_idle F ends values b r sets S = record { next = get_or r b absent; put = sym (set-get_or r b absent); served = S }

-- ---- nothing arrives in the tick in which it is sent

pub none_sent : (F : Fed) (ends : List ℕ) → Tickable F.plan F.work F.t F.rules F.m F.links → (i x j : ℕ) (said : Said) → i < F.rules.n
    → x / receivers ≡ F.t % 16 → sent_by F ends i said x j ≡ false
none_sent F ends Z i x j said h e =
    sending-laws.SendLaws.none_now F.plan (sender_at F.links F.t i) Z.linked.writer (rw Z.same h) (λ q u v w. Z.delays i q h u v (rw Z.same at w)) ends said x j e

-- ---- the loop over the servers

module _ (F : Fed) (ends values : List ℕ) (c : List Server) (sets : List ℕ) where
  -- what server i sends
  abbrev posts : ℕ → ℕ → ℕ → Bool
  posts i x j = sent_by F ends i (first_of F i (server_at F.m sets c i)).said x j

  -- the first n servers have what arrives; the others are as they were
  pub record Serving (r : List Server) (then work : List ℕ) (n : ℕ) : Type 0 where
    pub done : Delivered F ends values c r sets then work n
    pub rest : (k : ℕ) → n ≤ k → get_or r k absent ≡ get_or c k absent
    pub votes : (k : ℕ) (s : Server) → n ≤ k → k < 16 → server F.m then k s ≡ server F.m sets k s

  module _ (Z : Tickable F.plan F.work F.t F.rules F.m F.links) (r : List Server) (then work : List ℕ) (b : ℕ) (own : b < F.rules.n) (size : length c ≡ 16)
      (H : Serving r then work b) where
    abbrev D : Delivered F ends values c r sets then work b
    D = H.done

    few : b < 16
    few = omega (arith, Z.servers)

    same : server F.m then b (get_or r b absent) ≡ server_at F.m sets c b
    same = rw (H.rest b (omega arith)) (H.votes b (get_or c b absent) (omega arith) few)

    -- no server before n has sent anything that arrives now
    none_yet : (n x j i : ℕ) → n ≤ F.rules.n → x / receivers ≡ F.t % 16 → ltb i n && posts i x j ≡ false
    none_yet n x j i h e = elim (dec_le n i) [
      | yes d ↦ rw (le-ltb i n d)
      | no d ↦ rw (none_sent F ends Z i x j (first_of F i (server_at F.m sets c i)).said (omega arith) e) (and-false (ltb i n))
    ]

    -- its row is as it was
    still : (j i : ℕ) → j < places → sender work (row_of F.t b) j i ≡ sender F.work (row_of F.t b) j i
    still j i m =
        let l = few in
        let e : row_of F.t b / receivers ≡ F.t % 16 = omega arith in
        let d : row_of F.t b % receivers ≡ b = omega arith in
        D.cells (row_of F.t b) j i (omega arith) m
        ∙ rw (none_yet b (row_of F.t b) j i (omega arith) e, d, le-ltb b b (omega arith), and-false (eqb (row_of F.t b / receivers) (F.t % 16)))
        (or-false (sender F.work (row_of F.t b) j i))

    first : first_of (feed_at F work) b (server F.m then b (get_or r b absent)) ≡ first_of F b (server_at F.m sets c b)
    first = rw same (serving-laws.StageLaws.one_alike F.m F.rules.echo F.rules.reply (wrote_at F.arrivals.requests F.arrivals.number b)
        (sender work (row_of F.t b)) (sender F.work (row_of F.t b)) (asks_at F.arrivals.requests b) (λ x. bit x F.arrivals.live) (server_at F.m sets c b)
        (λ j i l. still j i (omega (arith, Z.pairs))))

    by_all : (x j i : ℕ) → (ltb i b && posts i x j) || (eqb i b && posts b x j) ≡ ltb i (b + 1) && posts i x j
    by_all x j i = rw (calendar-laws.Laws.under (eqb i b) (posts b x j) (posts i x j) (λ e. rw (eqb-true i b e))) (calendar-laws.Laws.ltb_more i b (posts i x j))

    pub serving_settled : Calm F sets c → Settled F.m F.rules.echo F.rules.reply (server F.m then b (get_or r b absent))
    serving_settled calm = rw same (calm b own)

    module _ (r' : List Server) (next mid : List ℕ) (M : Passed (feed_at F work) ends values b r r' then next mid) where
      abbrev T : Served (feed_at F work) ends values b (get_or r b absent) M.next then next mid
      T = M.served

      pub served_spans : Spanned mid
      served_spans = calendar-laws.Spans.posted_spanned work mid _ T.posted D.spans

      -- its row is empty if it was
      pub served_empty : high_of work (row_of F.t b) ≡ 0 → Emptied mid mid (row_of F.t b)
      served_empty none =
          let l = few in
          let row = row_of F.t b in
          let quiet : (j i : ℕ) → j < places → eqb i b && sent_by (feed_at F work) ends b (first_of (feed_at F work) b (server F.m then b (get_or r b absent))).said row j ≡ false =
          λ j i m. rw (none_sent F ends Z b row j (first_of (feed_at F work) b (server F.m then b (get_or r b absent))).said own (omega arith)) (and-false (eqb i b)) in
          emptied_before mid row served_spans (omega arith) ((T.posted.still row (omega arith) quiet).1 ∙ none)

      module _ (after : List ℕ) (E : Emptied mid after (row_of F.t b)) where
        cells : (x j i : ℕ) → x < rows → j < places
            → sender after x j i ≡ (not (eqb (x / receivers) (F.t % 16) && ltb (x % receivers) (b + 1)) && sender F.work x j i) || (ltb i (b + 1) && posts i x j)
        cells x j i h m =
            let l = few in
            let more = rw leb-zero at (calendar-laws.Clearing.row_more F.t 0 b x (sender F.work x j i) h (omega arith) (omega arith)) in
            E.cells x j i h m ∙ rw (← more) (elim (ℕ_discrete x (row_of F.t b)) [
              | yes e ↦ rw (eq-eqb x (row_of F.t b) e, none_yet (b + 1) x j i (omega arith) (omega arith))
              | no d ↦ rw (ne_eqb x (row_of F.t b) d, T.posted.cells x j i h m, first, D.cells x j i h m, ← by_all x j i)
                  (or_assoc (not (eqb (x / receivers) (F.t % 16) && ltb (x % receivers) b) && sender F.work x j i) (ltb i b && posts i x j) (eqb i b && posts b x j))
            ])

        others : (k : ℕ) (s : Server) → (k ≡ b → ⊥) → k < 16 → server F.m next k s ≡ server F.m then k s
        others k s d h = serving-laws.RowLaws.others_same then next b k F.m s T.others d few h Z.pairs

        turned : Serving (set r b M.next) next after (b + 1)
        turned = record {
          done = record {
            rest = past_trans F.work mid after (past_trans F.work work mid D.rest T.posted.rest) E.rest;
            spans = E.spans;
            size = T.others.size ∙ D.size;
            servers = length-set r b M.next ∙ D.servers;
            each = λ i h. elim (ℕ_discrete i b) [
              | yes e ↦ rw (e, get_or-set_same r b M.next absent (omega (arith, D.servers, few))) (T.stage ∙ ap (λ (o : Both). o.server) first)
              | no d ↦ rw (get_or-set_other r b i M.next absent d) (others i (get_or r i absent) d (omega (arith, few)) ∙ D.each i (omega arith))
            ];
            named = λ k l. tallies-laws.TallyLaws.named_same then next b T.others few k l ∙ D.named k l;
            valued = λ v i h. elim (ℕ_discrete i b) [
              | yes e ↦ rw (e, get_or-set_same r b M.next absent (omega (arith, D.servers, few))) (T.valued (rw (H.rest b (omega arith)) (v b own)))
              | no d ↦ rw (get_or-set_other r b i M.next absent d) (D.valued v i h)
            ];
            cells = cells;
          };
          rest = λ k h. get_or-set_other r b k M.next absent (λ e. omega arith) ∙ H.rest k (omega arith);
          votes = λ k s h l. others k s (λ e. omega arith) l ∙ H.votes k s (omega arith) l;
        }

        pub serving_turn : Serving r' next after (b + 1)
        serving_turn = subst (λ (x : List Server). Serving x next after (b + 1)) (sym M.put) turned
