-- The loops over the servers whose cure ends, that move, and that echo. They stand on the calendar's laws of posting and on the laws of the table.
use mathlib.Core.{Path.◌≡◌, Path.refl, Path.sym, Path.ap, Path.◌∙◌, List.List}
use mathlib.Core.Bool.{Bool, true, false, ◌&&◌, cond, and-false}
use Prim.Native.Nat.{ℕ, ◌+◌, ◌≤◌, ◌<◌}
use native.Mathlib.{Omega.arith, Decide.ℕ_discrete}
use lib.Dec.{eqb, ltb}
use lib.{ListN.length, ListN.get_or, ListN.set, ListN.length-set, Seq.get_or-set_same, Seq.get_or-set_other}
use borrow.Author.Tests.{ne_eqb}
use Rattle.register.specs.Lists.{member}
use Rattle.register.specs.Server.{faulty, is_faulty, is_correct, cured_at}
use Rattle.limits.specs.Bits.{bit}
use Rattle.limits.specs.Limits.{most_servers, places}
use Rattle.calendar.specs.View.{Posted}
use Rattle.calendar.proofs.Laws.{ltb_more}
use Rattle.calendar.proofs.Posting.{posted_eq, posted_trans, posted_none}
use Rattle.serving.specs.declared.Server.{Server}
use Rattle.tables.specs.declared.Rules.{Rules}
use Rattle.tables.specs.declared.Links.{Links}
use Rattle.sending.specs.declared.Sender.{Sender}
use Rattle.tallies.specs.Tallies.{of_server, Aged}
use Rattle.serving.specs.Stored.{Plain, server, status_of, Becomes, absent}
use Rattle.stores.specs.Stores.{keys, Valued}
use Rattle.serving.specs.Stages.{cure_ended, moved_on, blank_as, reset_at}
use Rattle.serving.specs.Methods.{MovedTo}
use Rattle.sending.specs.Sends.{sends_vote, sends_reply}
use Rattle.serving.proofs.RowLaws.{others_same, aged_server}
use Rattle.tallies.proofs.TallyLaws.{named_same, aged_named}
use Rattle.std.specs.Prelude.{Option}
use Rattle.std.specs.Option.{is_some}
use Rattle.cluster.specs.Inputs.{is_seized}
use Rattle.cluster.specs.Tick.{server_at, sender_at, SameNamed, Cured, cure_replies, Moved}

-- ---- posting one server after the other

module _ (g : ℕ → ℕ → ℕ → Bool) (a b : List ℕ) (n : ℕ) (A : Posted a b (λ x j k. ltb k n && g x j k)) where
  pub posted_next : (c : List ℕ) (h : ℕ → ℕ → Bool) → Posted b c (λ x j k. eqb k n && h x j) → ((x j : ℕ) → h x j ≡ g x j n) → Posted a c (λ x j k. ltb k (n + 1) && g x j k)
  posted_next c h B e = posted_eq a c _ _ (posted_trans a b c _ _ A B) (λ x j k l m. rw (← ltb_more k n (g x j k)) (elim (ℕ_discrete k n) [ yes d ↦ rw (d, e x j) | no d ↦ rw (ne_eqb k n d) ]))

  -- one that sends nothing
  pub posted_skip : ((x j : ℕ) → g x j n ≡ false) → Posted a b (λ x j k. ltb k (n + 1) && g x j k)
  posted_skip e = posted_next b (λ x j. g x j n) (posted_none b _ (λ x j k l m. rw (e x j) (and-false (eqb k n)))) (λ x j. refl)

-- ---- cures

-- what server i sends if its cure ends
abbrev pub healed : List ℕ → Links → Rules → ℕ → List ℕ → List Server → ℕ → ℕ → ℕ → Bool
healed plan links rules t ends c x j i =
    cured_at rules.delta t (status_of (get_or c i absent).status)
    && sends_reply plan (sender_at links t i) ends (λ y. bit y (get_or c i absent).pending) (λ y. member y (keys (get_or c i absent).kept)) x j

module _ (plan : List ℕ) (links : Links) (rules : Rules) (m t : ℕ) (ends : List ℕ) (c : List Server) (work : List ℕ) where
  -- the cures of the first n servers have ended
  pub record Curing (r : List Server) (after : List ℕ) (n : ℕ) : Type 0 where
    pub servers : length r ≡ length c
    pub each : (b : ℕ) → b < n → (sets : List ℕ) → server_at m sets r b ≡ cure_ended rules.delta t (server_at m sets c b)
    pub rest : (b : ℕ) → n ≤ b → get_or r b absent ≡ get_or c b absent
    pub kept : (b : ℕ) → (get_or r b absent).kept ≡ (get_or c b absent).kept
    pub posted : Posted work after (λ x j i. ltb i n && healed plan links rules t ends c x j i)

  module _ (r : List Server) (now : List ℕ) (b : ℕ) (H : Curing r now b) where
    same : get_or r b absent ≡ get_or c b absent
    same = H.rest b (omega arith)

    -- a server whose cure ends
    pub curing_more : b < length c → cured_at rules.delta t (status_of (get_or r b absent).status) ≡ true → (q : Server)
        → Becomes (cure_ended rules.delta t) (get_or r b absent) q × (q.kept ≡ (get_or r b absent).kept) → (from : Sender) → from ≡ sender_at links t b → (after : List ℕ)
        → Posted now after (λ x j k. eqb k from.i && sends_reply plan from ends (λ y. bit y (get_or r b absent).pending) (λ y. member y (keys (get_or r b absent).kept)) x j)
        → Curing (set r b q) after (b + 1)
    curing_more l e q (B, k) from is after P =
        let here : get_or (set r b q) b absent ≡ q = get_or-set_same r b q absent (omega (arith, H.servers)) in
        record {
          servers = length-set r b q ∙ H.servers;
          each = λ i h sets. elim (ℕ_discrete i b) [
            | yes d ↦ rw (d, here) (B m sets b ∙ ap (λ (s : Server). cure_ended rules.delta t (server m sets b s)) same)
            | no d ↦ rw (get_or-set_other r b i q absent d) (H.each i (omega arith) sets)
          ];
          rest = λ i h. get_or-set_other r b i q absent (λ d. omega arith) ∙ H.rest i (omega arith);
          kept = λ i. elim (ℕ_discrete i b) [ yes d ↦ rw (d, here) (k ∙ H.kept b) | no d ↦ rw (get_or-set_other r b i q absent d) (H.kept i) ];
          posted = posted_next (healed plan links rules t ends c) work now b H.posted after _ (rw (is, same) at P) (λ x j. rw (rw same at e));
        }

    pub curing_same : cured_at rules.delta t (status_of (get_or r b absent).status) ≡ false → Curing r now (b + 1)
    curing_same f =
        let e = rw same at f in
        record {
          servers = H.servers;
          each = λ i h sets. elim (ℕ_discrete i b) [ yes d ↦ rw (d, same, e) | no d ↦ H.each i (omega arith) sets ];
          rest = λ i h. H.rest i (omega arith);
          kept = H.kept;
          posted = posted_skip (healed plan links rules t ends c) work now b H.posted (λ x j. rw e);
        }

  pub curing_all : (r : List Server) (after : List ℕ) → Curing r after rules.n → Cured rules m t c r × Posted work after (cure_replies plan links rules t ends c)
  curing_all r after H = (record { servers = H.servers; each = H.each; kept = H.kept }, H.posted)

-- ---- the movement

-- a server that the movement meets in its new voting period
abbrev pub met_by : Option ℕ → ℕ → ℕ → Plain → Plain
met_by movement t b s = cond (is_seized movement b) (blank_as faulty) (cond (is_faulty s.status) (reset_at t) s)

-- the movement has met the first n servers
pub record Moving (m t : ℕ) (movement : Option ℕ) (c r : List Server) (sets then : List ℕ) (n : ℕ) : Type 0 where
  pub size : length then ≡ length sets
  pub servers : length r ≡ length c
  pub each : (b : ℕ) → b < n → server_at m then r b ≡ met_by movement t b (server_at m sets c b)
  pub rest : (b : ℕ) → n ≤ b → get_or r b absent ≡ get_or c b absent
  pub votes : (b : ℕ) → n ≤ b → b < most_servers → (s : Server) → server m then b s ≡ server m sets b s
  pub named : SameNamed sets then
  pub valued : (values : List ℕ) (b : ℕ) → Valued values (get_or c b absent).kept → Valued values (get_or r b absent).kept

module _ (m t : ℕ) (movement : Option ℕ) (c r : List Server) (sets now : List ℕ) (b : ℕ) (H : Moving m t movement c r sets now b) where
  pub moving_more : b < most_servers → b < length c → m ≤ places → (is : Bool) → is ≡ is_seized movement b → (q : Server) (then : List ℕ) → MovedTo b is t (get_or r b absent) q now then
      → Moving m t movement c (set r b q) sets then (b + 1)
  moving_more l long few is e q then M =
      let here : get_or (set r b q) b absent ≡ q = get_or-set_same r b q absent (omega (arith, H.servers)) in
      let same : get_or r b absent ≡ get_or c b absent = H.rest b (omega arith) in
      record {
        size = M.others.size ∙ H.size;
        servers = length-set r b q ∙ H.servers;
        each = λ i h. elim (ℕ_discrete i b) [
          | yes d ↦ rw (d, here) (M.stage m few ∙ rw (e, same, H.votes b (omega arith) l (get_or c b absent)))
          | no d ↦ rw (get_or-set_other r b i q absent d) (others_same now then b i m (get_or r i absent) M.others d l (omega arith) few ∙ H.each i (omega arith))
        ];
        rest = λ i h. get_or-set_other r b i q absent (λ d. omega arith) ∙ H.rest i (omega arith);
        votes = λ i h g s. others_same now then b i m s M.others (λ d. omega arith) l g few ∙ H.votes i (omega arith) g s;
        named = λ k h. named_same now then b M.others l k h ∙ H.named k h;
        valued = λ values i v. elim (ℕ_discrete i b) [
          | yes d ↦ rw (d, here) (M.valued values (H.valued values b (rw (sym d) v)))
          | no d ↦ rw (get_or-set_other r b i q absent d) (H.valued values i v)
        ];
      }

module _ (rules : Rules) (m t : ℕ) (movement : Option ℕ) (c : List Server) (sets : List ℕ) where
  -- after the new period has begun
  pub moving_all : is_some movement ≡ true → rules.n ≤ most_servers → m ≤ places → (aged : List ℕ) → Aged sets aged (of_server rules.n) rules.two → (r : List Server) (then : List ℕ)
      → Moving m t movement c r aged then rules.n → Moved rules m t movement c r sets then
  unfolding moved_on
  moving_all e few known aged A r then H = record {
    size = H.size ∙ A.size;
    servers = H.servers;
    each = λ b l. H.each b l ∙ rw (e, aged_server m sets aged rules.n b rules.two (get_or c b absent) A few l known);
    named = λ k h. H.named k h ∙ aged_named sets aged (of_server rules.n) rules.two A (omega arith) k h;
    valued = λ values v b l. H.valued values b (v b l);
  }

-- ---- the echo

-- what server i echoes
abbrev pub echoed : List ℕ → Links → Rules → ℕ → Option ℕ → List Server → ℕ → ℕ → ℕ → Bool
echoed plan links rules t movement c x j i =
    is_some movement && (is_correct (status_of (get_or c i absent).status) && sends_vote plan (sender_at links t i) (λ y. member y (keys (get_or c i absent).kept)) x j)

module _ (plan : List ℕ) (links : Links) (rules : Rules) (t : ℕ) (movement : Option ℕ) (c : List Server) (work : List ℕ) where
  -- the first n servers have echoed
  pub record Echoing (after : List ℕ) (n : ℕ) : Type 0 where
    pub posted : Posted work after (λ x j i. ltb i n && echoed plan links rules t movement c x j i)

  module _ (now : List ℕ) (b : ℕ) (H : Echoing now b) where
    pub echoing_more : is_some movement ≡ true → is_correct (status_of (get_or c b absent).status) ≡ true → (from : Sender) → from ≡ sender_at links t b → (after : List ℕ)
        → Posted now after (λ x j k. eqb k from.i && sends_vote plan from (λ y. member y (keys (get_or c b absent).kept)) x j) → Echoing after (b + 1)
    echoing_more f e from is after P = record { posted = posted_next (echoed plan links rules t movement c) work now b H.posted after _ (rw is at P) (λ x j. rw (f, e)) }

    pub echoing_same : is_correct (status_of (get_or c b absent).status) ≡ false → Echoing now (b + 1)
    echoing_same e = record { posted = posted_skip (echoed plan links rules t movement c) work now b H.posted (λ x j. rw e (and-false (is_some movement))) }
