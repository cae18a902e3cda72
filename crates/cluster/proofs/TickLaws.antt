-- The stages of a tick put together: each server has gone through all of them, and what it sent in each is what it said in all. And the start.
-- It stands on the laws of the table and of what a server sends.
use mathlib.Core.{Path.◌≡◌, Path.refl, Path.sym, Path.ap, Path.◌∙◌, Path.fun_ext, List.List, List.[], List.◌∷◌}
use mathlib.Core.Bool.{Bool, true, false, not, ◌&&◌, ◌||◌, cond, and-false, or_assoc, or-false, true≢false, false≢true}
use mathlib.Core.Logic.{◌⊎◌, inl, inr}
use Prim.Native.Nat.{ℕ, ◌+◌, ◌/◌, ◌%◌, ◌≤◌, ◌<◌}
use native.Mathlib.Omega.{arith}
use lib.Dec.{eqb, leb, ltb}
use lib.ListN.{get_or, replicate, get_or-replicate}
use borrow.Author.Tests.{lt-leb, ltb-true}
use Rattle.register.specs.Lists.{member}
use Rattle.register.specs.Server.{Status, faulty, cured, correct, is_faulty, is_correct, cured_at}
use Rattle.register.proofs.Logic.{cond_ap}
use Rattle.calendar.specs.declared.Stamped.{Stamped}
use Rattle.limits.specs.Bits.{bit}
use Rattle.limits.specs.Limits.{most_servers, places}
use Rattle.calendar.specs.Layout.{receivers, row_of, sender}
use Rattle.calendar.specs.View.{Posted}
use Rattle.limits.proofs.Bits.{bit_zero}
use Rattle.calendar.proofs.Spans.{posted_spanned}
use Rattle.serving.specs.declared.Server.{Server}
use Rattle.sending.specs.declared.Sender.{Sender}
use Rattle.serving.specs.declared.Status.TheVariants.{Correct}
use Rattle.tallies.specs.Tallies.{recent_at, named_at, of_server, of_reader, row_of_sets, no_votes}
use Rattle.serving.specs.Stored.{Plain, Both, server, status_of, absent}
use Rattle.stores.specs.Stores.{keys, Valued}
use Rattle.serving.specs.Stages.{nobody, cure_ended, moved_on, delivered_of, delivered, stage_one, stage_two, stage_four, stages_of}
use Rattle.sending.specs.Sends.{sends, sends_vote, sends_reply}
use Rattle.serving.proofs.StageLaws.{zero_set, one_alike}
use Rattle.serving.proofs.RowLaws.{votes_eq}
use Rattle.tallies.proofs.TallyLaws.{same_row}
use Rattle.sending.proofs.SendLaws.{vote_or, reply_none}
use Rattle.cluster.specs.declared.Feed.{Feed}
use Rattle.std.specs.Option.{is_some}
use Rattle.cluster.specs.Inputs.{is_seized}
use Rattle.cluster.specs.Tick.{server_at, sender_at, Heard, Delivered, Cured, cure_replies, Moved, echoes, Fed, feed_of, got, first_of, all_of, sent_by, Values, present, Ticked, Started}
use Rattle.cluster.proofs.RowLaws.{past_trans}

decided : (b : Bool) → (b ≡ true) ⊎ (b ≡ false)
decided true = inl refl
decided false = inr refl

-- ---- what a server says in stage 1

-- it does not echo, and says the pairs that it keeps unless it is faulty
record SaidFirst (delta t : ℕ) (o : Both) : Type 0 where
  echoed : o.said.echoed ≡ false
  -- a server whose cure ends was not correct
  quiet : cured_at delta t o.server.status ≡ true → o.said.readers ≡ nobody
  pairs : is_faulty o.server.status ≡ false → o.said.pairs ≡ o.server.kept

not_correct : (delta t : ℕ) (s : Status) → cured_at delta t s ≡ true → is_correct s ≡ false
not_correct delta t faulty e = refl
not_correct delta t (cured c) e = refl
not_correct delta t correct e = absurd (false≢true e)

said_first_lem : (delta t m e r w : ℕ) (votes : ℕ → ℕ → Bool) (asks live : ℕ → Bool) (s : Plain) → SaidFirst delta t (stage_one m e r w votes asks live s)
unfolding stage_one delivered delivered_of
said_first_lem delta t m e r w votes asks live s = elim (decided (is_faulty s.status)) [
  | inl y ↦ rw y (record { echoed = refl; quiet = λ h. refl; pairs = λ h. absurd (true≢false (sym y ∙ h)) })
  | inr y ↦ rw y (record { echoed = refl; quiet = λ h. rw (not_correct delta t s.status h); pairs = λ h. refl })
]

-- ---- what it sends in the stages is what it said in all

module _ (plan : List ℕ) (from : Sender) (ends : List ℕ) (delta t : ℕ) (x j : ℕ) where
  abbrev replies : Plain → Bool
  replies s = sends_reply plan from ends s.pending (λ y. member y s.kept) x j

  -- a reply at the end of a cure
  sent-second : (o : Both) → SaidFirst delta t o
      → sends plan from ends o.said x j || (cured_at delta t o.server.status && replies o.server) ≡ sends plan from ends (stage_two delta t o).said x j
  unfolding stage_two
  sent-second o S = elim (decided (cured_at delta t o.server.status)) [
    | inl y ↦ rw (y, S.quiet y, S.echoed, reply_none plan from ends nobody (λ y. member y o.said.pairs) x j (λ z. refl), or-false (sends_vote plan from (λ j. eqb j o.said.wrote || false) x j))
    | inr y ↦ rw y (or-false (sends plan from ends o.said x j))
  ]

  -- an echo at a movement
  module _ (two seized : Bool) (o : Both) (none : o.said.echoed ≡ false) (pairs : is_faulty o.server.status ≡ false → o.said.pairs ≡ o.server.kept) where
    abbrev after : Plain
    after = moved_on two seized t o.server

    -- who echoes was not faulty and is not, so its pairs are those that it said
    kept-echo : is_correct after.status ≡ true → after.kept ≡ o.said.pairs
    unfolding moved_on
    kept-echo h = elim (decided seized) [
      | inl y ↦ absurd (false≢true (rw y at h))
      | inr y ↦ elim (decided (is_faulty o.server.status)) [
        | inl z ↦ absurd (false≢true (rw (y, z) at h))
        | inr z ↦ rw (y, z) (sym (pairs z))
      ]
    ]

    sent-fourth : sends plan from ends o.said x j || (is_correct after.status && sends_vote plan from (λ y. member y after.kept) x j)
        ≡ sends plan from ends (stage_four two seized t o).said x j
    unfolding stage_four
    sent-fourth = elim (decided (is_correct after.status)) [
      | inl y ↦ rw (y, kept-echo y, none)
          (swap (sends_vote plan from (λ y. eqb y o.said.wrote || false) x j) (sends_reply plan from ends o.said.readers (λ y. member y o.said.pairs) x j) (sends_vote plan from (λ y. member y o.said.pairs) x j)
          ∙ ap (λ (b : Bool). b || sends_reply plan from ends o.said.readers (λ y. member y o.said.pairs) x j)
          (vote_or plan from (λ y. eqb y o.said.wrote || false) (λ y. member y o.said.pairs) x j
          ∙ ap (λ (P : ℕ → Bool). sends_vote plan from P x j) (fun_ext (λ y. ap (λ (b : Bool). b || member y o.said.pairs) (or-false (eqb y o.said.wrote))))))
      | inr y ↦ rw (y, none) (or-false _)
    ]
      where
        swap : (a r e : Bool) → (a || r) || e ≡ (a || e) || r
        swap true r e = refl
        swap false true true = refl
        swap false true false = refl
        swap false false true = refl
        swap false false false = refl

  module _ (o : Both) (S : SaidFirst delta t o) where
    second-echoed : (stage_two delta t o).said.echoed ≡ false
    unfolding stage_two
    second-echoed = elim (decided (cured_at delta t o.server.status)) [ inl y ↦ rw y S.echoed | inr y ↦ rw y S.echoed ]

    second-pairs : is_faulty (stage_two delta t o).server.status ≡ false → (stage_two delta t o).said.pairs ≡ (stage_two delta t o).server.kept
    unfolding stage_two
    second-pairs = elim (decided (cured_at delta t o.server.status)) [ inl y ↦ rw y (λ h. refl) | inr y ↦ rw y S.pairs ]

    module _ (two seized : Bool) where
      -- after all stages
      abbrev lastly : Bool → Both
      lastly moving = cond moving (stage_four two seized t (stage_two delta t o)) (stage_two delta t o)

      -- s is the server after stage 1, r after all stages
      sent-all : (moving : Bool) (s r : Plain) → s ≡ o.server → r ≡ (lastly moving).server
          → (sends plan from ends o.said x j || (cured_at delta t s.status && replies s)) || (moving && (is_correct r.status && sends_vote plan from (λ y. member y r.kept) x j))
          ≡ sends plan from ends (lastly moving).said x j
      unfolding stage_four
      sent-all true s r e d = rw (e, d, sent-second o S) (sent-fourth two seized (stage_two delta t o) second-echoed second-pairs)
      sent-all false s r e d = rw (e, sent-second o S) (or-false (sends plan from ends (stage_two delta t o).said x j))

-- ---- the servers

two_server : (delta t : ℕ) (o : Both) → cure_ended delta t o.server ≡ (stage_two delta t o).server
unfolding stage_two
two_server delta t o = sym (cond_ap (λ (b : Both). b.server) (cured_at delta t o.server.status) _ _)

last_server : (moving two seized : Bool) (t : ℕ) (o : Both) → cond moving (moved_on two seized t o.server) o.server ≡ (cond moving (stage_four two seized t o) o).server
unfolding stage_four
last_server true two seized t o = refl
last_server false two seized t o = refl

-- a server's rows stand before those of the readers
same_server : (m : ℕ) (sets then : List ℕ) (b : ℕ) (s : Server) → b < most_servers → m ≤ places → ((c : ℕ) → c < named_at → get_or then c 0 ≡ get_or sets c 0) → server m then b s ≡ server m sets b s
same_server m sets then b s l h e =
    votes_eq _ _ _ _ _ _ _ (same_row m sets then (of_server b) h (λ j d. e (of_server b + j) (omega arith)))
    (same_row m sets then (recent_at + of_server b) h (λ j d. e (recent_at + of_server b + j) (omega arith)))

-- ---- the tick

two_taken : (a b c s : Bool) → not (a && b) && (not (a && c) && s) ≡ not (a && (b || c)) && s
two_taken true true c s = refl
two_taken true false c s = refl
two_taken false b c s = refl

gathered : (l a s c e z : Bool) → (l ≡ true → (s || c) || e ≡ z) → ((a || (l && s)) || (l && c)) || (l && e) ≡ a || (l && z)
gathered true a s c e z h = rw (or_assoc a s c, or_assoc a (s || c) e, h refl)
gathered false a s c e z h = rw (or-false (a || false), or-false (a || false))

module _ (plan work noted work₁ work₂ work₃ : List ℕ) (f : Feed) (ends values : List ℕ) (c reached healed moved : List Server) (sets heard then last : List ℕ)
    (few : f.rules.n ≤ 16) (known : f.m ≤ places) (H : Heard work noted sets heard f.t)
    (D : Delivered (feed_of plan noted f) ends values c reached heard then work₁ f.rules.n)
    (C : Cured f.rules f.m f.t reached healed) (P : Posted work₁ work₂ (cure_replies plan f.links f.rules f.t ends reached))
    (M : Moved f.rules f.m f.t f.movement healed moved then last)
    (E : Posted work₂ work₃ (echoes plan f.links f.rules f.t f.movement moved)) where
  abbrev F : Fed
  F = feed_of plan work f

  abbrev G : Fed
  G = feed_of plan noted f

  abbrev one : ℕ → Both
  one b = first_of F b (server_at f.m sets c b)

  abbrev two : ℕ → Both
  two b = stage_two f.rules.delta f.t (one b)

  abbrev all : ℕ → Both
  all b = all_of F b (server_at f.m sets c b)

  -- what a server sends in stage 1, at the end of its cure and at the movement
  abbrev firstly : ℕ → ℕ → ℕ → Bool
  firstly b x j = sent_by G ends b (first_of G b (server_at f.m heard c b)).said x j

  abbrev cures : ℕ → ℕ → ℕ → Bool
  cures b x j =
      cured_at f.rules.delta f.t (status_of (get_or reached b absent).status)
      && sends_reply plan (sender_at f.links f.t b) ends (λ y. bit y (get_or reached b absent).pending) (λ y. member y (keys (get_or reached b absent).kept)) x j

  abbrev votes : ℕ → ℕ → ℕ → Bool
  votes b x j =
      is_some f.movement
      && (is_correct (status_of (get_or moved b absent).status) && sends_vote plan (sender_at f.links f.t b) (λ y. member y (keys (get_or moved b absent).kept)) x j)

  module _ (b : ℕ) (l : b < f.rules.n) where
    -- a server's row is not a reader's, so it is as it was before the readers heard
    same_first : first_of G b (server_at f.m heard c b) ≡ one b
    same_first =
        let d : row_of f.t b % receivers ≡ b = omega arith in
        rw (same_server f.m sets heard b (get_or c b absent) (omega arith) known H.votes)
        (one_alike f.m _ _ _ (got G b) (got F b) _ _ _
        (λ j i h. H.cells (row_of f.t b) j i (omega arith) (omega arith) ∙ rw (d, lt-leb 16 b (omega arith), and-false (eqb (row_of f.t b / receivers) (f.t % 16)))))

    at_one : server_at f.m then reached b ≡ (one b).server
    at_one = D.each b l ∙ ap (λ (o : Both). o.server) same_first

    at-two : server_at f.m then healed b ≡ (two b).server
    at-two = C.each b l then ∙ (ap (cure_ended f.rules.delta f.t) at_one ∙ two_server f.rules.delta f.t (one b))

    at_last : server_at f.m last moved b ≡ (all b).server
    unfolding stages_of
    at_last =
        M.each b l
        ∙ (ap (λ (s : Plain). cond (is_some f.movement) (moved_on f.rules.two (is_seized f.movement b) f.t s) s) at-two
        ∙ last_server (is_some f.movement) f.rules.two (is_seized f.movement b) f.t (two b))

    -- what it sends
    sent : (x j : ℕ) → (firstly b x j || cures b x j) || votes b x j ≡ sent_by F ends b (all b).said x j
    unfolding stages_of
    sent x j =
        rw same_first
        (sent-all plan (sender_at f.links f.t b) ends f.rules.delta f.t x j (one b) (said_first_lem f.rules.delta f.t f.m _ _ _ _ _ _ _) f.rules.two (is_seized f.movement b)
        (is_some f.movement) (server_at f.m then reached b) (server_at f.m last moved b) at_one at_last)

  pub ticked : Ticked (feed_of plan work f) ends c moved sets last work₃ f.rules.n
  unfolding present
  ticked = record {
    rest = past_trans work noted work₃ H.rest (past_trans noted work₁ work₃ D.rest (past_trans work₁ work₂ work₃ P.rest E.rest));
    spans = posted_spanned work₂ work₃ _ E (posted_spanned work₁ work₂ _ P D.spans);
    size = M.size ∙ (D.size ∙ H.size);
    servers = M.servers ∙ (C.servers ∙ D.servers);
    each = at_last;
    named = λ x j i h d. rw (M.named (of_reader x + j) (omega arith), D.named (of_reader x + j) (omega arith)) (H.named x j i h d);
    cells = λ x j i h d.
        E.cells x j i h d
        ∙ rw (
          P.cells x j i h d,
          D.cells x j i h d,
          H.cells x j i h d,
          two_taken (eqb (x / receivers) (f.t % 16)) (ltb (x % receivers) f.rules.n) (leb 16 (x % receivers)) (sender work x j i),
        )
        (gathered (ltb i f.rules.n) (not (present F f.rules.n x) && sender work x j i) (firstly i x j) (cures i x j) (votes i x j) (sent_by F ends i (all i).said x j) (λ e. sent i (ltb-true i f.rules.n e) x j));
  }

  pub valued_all : Values f.rules.n values c moved
  valued_all v = M.valued values (λ b l. rw (C.kept b) (D.valued v b l))

-- ---- the start

pub started : (value : ℕ) (ps : List Stamped) → keys ps ≡ 0 ∷ [] → ((values : List ℕ) → get_or values 0 0 ≡ value → Valued values ps)
    → Started value (record { servers = replicate 16 (record { status = Correct; kept = ps; pending = 0 }); ends = replicate 4 0 })
started value ps k v = record {
  size = refl;
  each = λ b m sets h zero.
      rw (get_or-replicate 16 b (record { status = Correct; kept = ps; pending = 0 }) absent h, k, zero_set) (votes_eq _ _ _ _ _ _ _ (none m sets zero (of_server b)) (none m sets zero (recent_at + of_server b)));
  valued = λ values e b h. rw (get_or-replicate 16 b (record { status = Correct; kept = ps; pending = 0 }) absent h) (v values e);
  readers = refl;
  idle = λ x h. get_or-replicate 4 x 0 0 h;
}
  where
    none : (m : ℕ) (sets : List ℕ) → ((k : ℕ) → get_or sets k 0 ≡ 0) → (at : ℕ) → row_of_sets m sets at ≡ no_votes
    none m sets zero at = fun_ext (λ j. fun_ext (λ i. rw (zero (at + j), bit_zero i) (and-false (ltb j m))))
