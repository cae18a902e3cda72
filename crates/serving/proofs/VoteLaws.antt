-- A server notes the votes of its row of the calendar pair by pair, and takes in each pair of the row's span that has a quorum then.
-- It stands on TallyLaws, TakenLaws, StageLaws and, for what need not be tested, on Settled.
use mathlib.Core.Path.{◌≡◌, refl, sym, ap, ◌∙◌}
use mathlib.Core.Bool.{Bool, true, false, ◌&&◌, cond}
use mathlib.Core.Logic.{inl, inr}
use mathlib.Core.List.{List}
use Prim.Native.Nat.{ℕ, ◌+◌, ◌≤◌, ◌<◌}
use native.Mathlib.Nat.{add_assoc}
use native.Mathlib.Omega.{arith}
use lib.Dec.{ltb}
use lib.ListN.{length, get_or, set, length-set}
use lib.Seq.{get_or-set_other}
use lib.Bits.{bit_or, bit_and}
use Rattle.register.specs.Lists.{same_list}
use Rattle.register.specs.Server.{Status, is_correct}
use Rattle.register.proofs.Logic.{cond_ap}
use Rattle.calendar.specs.declared.Stamped.{Stamped}
use Rattle.limits.specs.Bits.{bit}
use Rattle.limits.specs.Limits.{places}
use Rattle.calendar.specs.Layout.{low_of, high_of, sender, senders_of}
use Rattle.serving.specs.declared.Server.{Server}
use Rattle.serving.specs.declared.Turn.{Turn}
use Rattle.tallies.specs.Tallies.{recent_at, table_size, of_server, SameOthers}
use Rattle.serving.specs.Stored.{Plain, status_of, server, Becomes, said_first}
use Rattle.stores.specs.Stores.{keys, Faithful, Valued}
use Rattle.serving.specs.Stages.{in_span, quorate, voting, taken, written, with_write, replies_to, delivered}
use Rattle.serving.specs.Settled.{Settled}
use Rattle.serving.specs.Methods.{Reachable, Heard, fresh_with, recent_with, Voted}
use Rattle.serving.proofs.Settled.{span_enough}
use Rattle.serving.proofs.StageLaws.{in_span_lem, taken_more, write_kept, pending_law, delivered_law, spanned_law}
use Rattle.serving.proofs.TakenLaws.{taken_below, taken_stop}
use Rattle.tallies.proofs.TallyLaws.{others_none, others_trans, Part, part_none, part_put, part_else, part_row, joined_here, none_below, none_beyond}

module _ (work values : List ℕ) (turn : Turn) (s : Server) (sets : List ℕ) where
  -- a pair of the span with a quorum
  abbrev passes : ℕ → Bool
  passes j = in_span (low_of work turn.row) (high_of work turn.row) j && voting turn.rules.echo turn.rules.reply (fresh_with work turn sets) (recent_with work turn sets) j

  -- the pairs before j are done
  pub record Voting (r : Server) (after : List ℕ) (j : ℕ) : Type 0 where
    pub others : SameOthers sets after turn.server
    pub fresh : Part sets after (of_server turn.server) (sender work turn.row) j
    pub recent : Part sets after (recent_at + of_server turn.server) (sender work turn.row) j
    pub status : r.status ≡ s.status
    pub pending : r.pending ≡ s.pending
    pub kept : keys r.kept ≡ taken passes j (keys s.kept)
    pub valued : Valued values s.kept → Valued values r.kept

-- a pair's two cells are the server's
heard_others : (sets after : List ℕ) (b j x y : ℕ) → b < 16 → j < places → after ≡ set (set sets (of_server b + j) x) (recent_at + (of_server b + j)) y → SameOthers sets after b
heard_others sets after b j x y hb hj e = rw e (record {
  size = length-set (set sets (of_server b + j) x) (recent_at + (of_server b + j)) y ∙ length-set sets (of_server b + j) x;
  rest = λ c o q.
      get_or-set_other (set sets (of_server b + j) x) (recent_at + (of_server b + j)) c y 0 (λ z. elim q [ inl w ↦ omega arith | inr w ↦ omega arith ])
      ∙ get_or-set_other sets (of_server b + j) c x 0 (λ z. elim o [ inl w ↦ omega arith | inr w ↦ omega arith ]);
})

module _ (work values : List ℕ) (turn : Turn) (s : Server) (sets : List ℕ) (R : Reachable work sets values turn) where
  -- no pair
  pub voting_none : Voting work values turn s sets s sets (low_of work turn.row)
  voting_none = record {
    others = others_none sets turn.server;
    fresh = part_none sets _ _ _ (λ y i l h. none_below work R.spans turn.row R.row y i h l);
    recent = part_none sets _ _ _ (λ y i l h. none_below work R.spans turn.row R.row y i h l);
    status = refl;
    pending = refl;
    kept = sym (taken_below _ (low_of work turn.row) (high_of work turn.row) _ (keys s.kept) (omega arith));
    valued = λ v. v;
  }

  -- one pair more
  module _ (r : Server) (after : List ℕ) (j : ℕ) (hm : j < turn.m) (hl : low_of work turn.row ≤ j) (hh : j < high_of work turn.row)
      (I : Voting work values turn s sets r after j) (q : Server) (w : List ℕ) (p : Stamped) (is : p.number ≡ j) (worth : Faithful values p)
      (from got' : ℕ) (here : from ≡ of_server turn.server) (arrived : got' ≡ senders_of work turn.row j)
      (heard : Heard turn.rules (from + j) got' p r q after w) where
    H : Heard turn.rules (of_server turn.server + j) (senders_of work turn.row j) p r q after w
    H = rw (here, arrived) at heard

    abbrev at : ℕ
    at = of_server turn.server

    abbrev got : ℕ
    got = senders_of work turn.row j

    abbrev x : ℕ
    x = bit_or (get_or after (at + j) 0) got

    abbrev y : ℕ
    y = bit_or (get_or after (recent_at + (at + j)) 0) got

    known : j < places
    known = omega (arith, R.pairs)

    size : length after ≡ table_size
    size = I.others.size ∙ R.table

    left-recent : get_or after (recent_at + (at + j)) 0 ≡ get_or sets (recent_at + at + j) 0
    left-recent = ap (λ (c : ℕ). get_or after c 0) (sym (add_assoc recent_at at j)) ∙ I.recent.left j (omega arith) known

    fresh-more : Part sets w at (sender work turn.row) (j + 1)
    fresh-more = rw H.table (part_else sets at _ (set after (at + j) x) (j + 1) (recent_at + (at + j)) y (inr (omega (arith, known)))
        (part_put sets at _ after j got (at + j) x refl refl known (omega (arith, size, known, R.server)) (λ i. refl) I.fresh))

    recent-more : Part sets w (recent_at + at) (sender work turn.row) (j + 1)
    recent-more = rw H.table (part_put sets (recent_at + at) _ (set after (at + j) x) j got (recent_at + (at + j)) y (omega arith)
        (ap (λ (z : ℕ). bit_or z got) (ap (λ (c : ℕ). get_or after c 0) (sym (add_assoc recent_at at j)) ∙ sym (get_or-set_other after (at + j) (recent_at + at + j) x 0 (λ z. omega arith))))
        known (rw (length-set after (at + j) x) (omega (arith, size, known, R.server))) (λ i. refl)
        (part_else sets (recent_at + at) _ after j (at + j) x (inl (omega (arith, known))) I.recent))

    pass : passes work values turn s sets j ≡ quorate turn.rules.echo turn.rules.reply (λ i. bit i x) (λ i. bit i y)
    pass = in_span_lem (low_of work turn.row) (high_of work turn.row) j _ _ hl hh (rw (
      joined_here sets at (sender work turn.row) turn.m j (get_or after (at + j) 0) got hm (I.fresh.left j (omega arith) known) (λ i. refl),
      joined_here sets (recent_at + at) (sender work turn.row) turn.m j (get_or after (recent_at + (at + j)) 0) got hm left-recent (λ i. refl),
    ))

    pub voting_more : Voting work values turn s sets q w (j + 1)
    voting_more = record {
      others = others_trans sets after w turn.server I.others (heard_others after w turn.server j x y R.server known H.table);
      fresh = fresh-more;
      recent = recent-more;
      status = H.status ∙ I.status;
      pending = H.pending ∙ I.pending;
      kept = taken_more _ j (keys s.kept) (keys r.kept) (keys q.kept) I.kept _ pass (rw is at H.kept);
      valued = λ v. H.valued values (I.valued v) worth;
    }

  -- all pairs
  pub voting_all : (r : Server) (after : List ℕ) (j : ℕ) → Voting work values turn s sets r after j → (j < turn.m → high_of work turn.row ≤ j)
      → (turn.m < j → j ≤ low_of work turn.row) → Voted work values turn s r sets after
  voting_all r after j I stop start = record {
    others = I.others;
    fresh = part_row sets _ _ turn.m after j R.pairs I.fresh (λ y i k l. none_beyond work R.spans turn.row R.row y i (omega (arith, R.pairs)) (omega (arith, stop (omega arith))));
    recent = part_row sets _ _ turn.m after j R.pairs I.recent (λ y i k l. none_beyond work R.spans turn.row R.row y i (omega (arith, R.pairs)) (omega (arith, stop (omega arith))));
    status = I.status;
    pending = I.pending;
    kept = I.kept ∙ taken_stop _ (low_of work turn.row) (high_of work turn.row) j turn.m (keys s.kept) stop start;
    valued = I.valued;
  }

-- stage 1 put together: the WRITE's pair is taken in first, then the votes are noted; only the pairs of the span need a test
module _ (work values : List ℕ) (turn : Turn) (s first r : Server) (sets after : List ℕ) (R : Reachable work sets values turn) where
  abbrev plain : Plain
  plain = server turn.m sets turn.server s

  same-status : Becomes (with_write turn.m turn.wrote) s first → r.status ≡ first.status → status_of r.status ≡ status_of s.status
  same-status B e =
      ap status_of e ∙ (ap (λ (x : Plain). x.status) (B turn.m sets turn.server)
      ∙ (cond_ap (λ (x : Plain). x.status) (ltb turn.wrote turn.m) (written turn.wrote plain) plain ∙ cond_same (ltb turn.wrote turn.m) (status_of s.status)))
    where
      cond_same : (b : Bool) (x : Status) → cond b x x ≡ x
      cond_same true x = refl
      cond_same false x = refl

  pub delivered_stage : Settled turn.m turn.rules.echo turn.rules.reply plain → Becomes (with_write turn.m turn.wrote) s first → Voted work values turn first r sets after
      → (readers : ℕ) → (λ x. bit x readers)
      ≡ replies_to (is_correct (status_of s.status)) (same_list (keys s.kept) (keys r.kept)) (λ x. bit x turn.asks) (λ x. bit x (bit_or (bit_and s.pending turn.live) turn.asks))
      → record {
        server = server turn.m after turn.server (record { status = r.status; kept = r.kept; pending = bit_or (bit_and s.pending turn.live) turn.asks });
        said = said_first turn.wrote readers r.kept;
      } ≡ delivered turn.m turn.rules.echo turn.rules.reply turn.wrote (sender work turn.row) (λ x. bit x turn.asks) (λ x. bit x turn.live) plain
  delivered_stage K B A readers e = rw (same-status B A.status) (spanned_law turn.m turn.rules.echo turn.rules.reply turn.wrote (sender work turn.row) _ _ plain _ _
      (delivered_law turn.m _ turn.wrote (sender work turn.row) (λ x. bit x turn.asks) (λ x. bit x turn.live) plain (keys first.kept) (keys r.kept) _ _ _ _
      (ap (λ (x : Plain). x.kept) (B turn.m sets turn.server) ∙ write_kept turn.m turn.wrote plain) A.kept (pending_law s.pending turn.live turn.asks) e A.fresh A.recent)
      (span_enough turn.m turn.rules.echo turn.rules.reply turn.wrote work turn.row plain K R.pairs R.row R.spans))
