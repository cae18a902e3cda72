-- A server and its stages 1 to 4 of a tick (document 01, 'The hall'). A stage changes one server and says what it sends.
use Rattle.std.specs.Prelude.{Bool, true, false, ◌&&◌, ◌||◌, cond, List, [], ◌∷◌, ◌++◌, map, ℕ, ◌+◌, ◌/◌, leb, ltb, eqb, take}
use Rattle.register.specs.Lists.{count, any, filter, distinct, same_list}
use Rattle.register.specs.Plan.{Plan, Read, kk, echo_quorum, reply_quorum, is_move}

-- 'A box is held, curing or sound': faulty, cured since a tick, correct.
pub data Status : Type 0 where
  faulty : Status
  cured : ℕ → Status
  correct : Status

abbrev pub is_faulty : Status → Bool
is_faulty faulty = true
is_faulty (cured c) = false
is_faulty correct = false

abbrev pub is_correct : Status → Bool
is_correct faulty = false
is_correct (cured c) = false
is_correct correct = true

-- 'A box curing since δ ticks ago'
abbrev pub cured_at : ℕ → ℕ → Status → Bool
cured_at delta t faulty = false
cured_at delta t (cured c) = eqb (c + delta) t
cured_at delta t correct = false

-- A server names a stamped value, by a vote to a server or by a reply to a reader.
pub record Claim : Type 0 where
  pub pair : ℕ
  pub from : ℕ

unfoldable pub claim_of : ℕ → ℕ → Claim
claim_of i p = record { pair = p; from = i }

-- has server i named p
unfoldable pub has : List Claim → ℕ → ℕ → Bool
has cs p i = any (λ c. eqb c.pair p && eqb c.from i) cs

-- the stamped values named, each once
unfoldable pub pairs_of : List Claim → List ℕ
pairs_of cs = distinct (map (λ (c : Claim). c.pair) cs)

-- A server's state (document 01: a box): its pairs, highest first; the reads heard of; the votes of the present period and of
-- the one before it, which is kept where k is 2.
pub record Server : Type 0 where
  pub status : Status
  pub kept : List ℕ
  pub pending : List Read
  pub fresh : List Claim
  pub old : List Claim

-- What a server sends in a tick: votes to every other server; a reply with its pairs to each of some reads.
pub record Sent : Type 0 where
  pub votes : List ℕ
  pub reply_to : List Read
  pub reply_with : List ℕ

abbrev pub nothing : Sent
nothing = record { votes = []; reply_to = []; reply_with = [] }

pub record Out : Type 0 where
  pub server : Server
  pub sent : Sent

-- into a falling list without repeats
unfoldable pub insert : ℕ → List ℕ → List ℕ
insert p [] = p ∷ []
insert p (x ∷ xs) = cond (ltb x p) (p ∷ x ∷ xs) (cond (eqb x p) (x ∷ xs) (x ∷ insert p xs))

unfoldable pub insert_all : List ℕ → List ℕ → List ℕ
insert_all [] l = l
insert_all (p ∷ ps) l = insert_all ps (insert p l)

-- 'Each box keeps at most' so many 'pairs, those of highest number (equal number: higher cue first)'
unfoldable pub take_in : ℕ → List ℕ → List ℕ → List ℕ
take_in depth ps l = take depth (insert_all ps l)

-- 'voted for by 2f+1 different boxes in the present period, or by (k+1)f+1 different boxes in the last k periods together'
unfoldable pub quorum : Plan → List Claim → List Claim → ℕ → Bool
quorum P fresh old p =
    leb (echo_quorum P) (count (λ i. has fresh p i) P.n)
    || leb (reply_quorum P) (count (λ i. has fresh p i || has old p i) P.n)

-- 'It takes in each pair voted for by ..'
unfoldable pub voted_in : Plan → List Claim → List Claim → List ℕ
voted_in P fresh old = filter (quorum P fresh old) (pairs_of (fresh ++ old))

-- Stage 1 of a server that is not faulty, with the WRITEs, votes and READs that arrive. 'Any other box takes in each pair of a WRITE
-- and sends a vote for it .. A sound box then sends its pairs to each read new in this tick, and to its whole list if its pairs changed.'
unfoldable pub deliver : Plan → Server → List ℕ → List Claim → List Read → Out
deliver P x ws vs rs =
    let fresh' : List Claim = x.fresh ++ vs in
    let kept' : List ℕ = take_in P.depth (ws ++ voted_in P fresh' x.old) x.kept in
    let pending' : List Read = x.pending ++ rs in
    record {
      server = record { status = x.status; kept = kept'; pending = pending'; fresh = fresh'; old = x.old };
      sent = record {
        votes = ws;
        reply_to = cond (is_correct x.status) (cond (same_list x.kept kept') rs pending') [];
        reply_with = kept';
      };
    }

-- 1. 'Deliveries. A held box loses what arrives.'
unfoldable pub stage1 : Plan → Server → List ℕ → List Claim → List Read → Out
stage1 P x ws vs rs = cond (is_faulty x.status) (record { server = x; sent = nothing }) (deliver P x ws vs rs)

-- 2. 'Cures end. A box curing since δ ticks ago becomes sound and sends its pairs to its whole list.'
unfoldable pub stage2 : Plan → ℕ → Out → Out
stage2 P t o =
    let x : Server = o.server in
    cond (cured_at P.delta t x.status)
    (record {
      server = record { status = correct; kept = x.kept; pending = x.pending; fresh = x.fresh; old = x.old };
      sent = record { votes = o.sent.votes; reply_to = x.pending; reply_with = x.kept };
    })
    o

-- no pairs, reads or votes
abbrev pub blank : Status → Server
blank s = record { status = s; kept = []; pending = []; fresh = []; old = [] }

-- 'The next placement says which boxes are held. A box held before and not now is wiped (pairs, list, votes) and cures. Every other unheld
-- box starts a new voting period and drops votes from before the last k periods, the new one included.' What a faulty server holds is the
-- trouble's own and is never used: it stands as blank.
unfoldable pub moved : Plan → ℕ → Bool → Server → Server
moved P t now-faulty x =
    cond now-faulty
    (blank faulty)
    (cond (is_faulty x.status)
    (blank (cured t))
    (record { status = x.status; kept = x.kept; pending = x.pending; fresh = []; old = cond (eqb (kk P) 2) x.fresh [] }))

-- 3. 'Move, at move ticks.'
unfoldable pub stage3 : Plan → ℕ → ℕ → Out → Out
stage3 P t b o =
    cond (is_move P t)
    (record { server = moved P t (P.placed (t / P.period) b) o.server; sent = o.sent })
    o

-- 4. 'Echo. At a move each sound box sends a vote for each of its pairs to every other box.' The operations are read off the plan.
unfoldable pub stage4 : Plan → ℕ → Out → Out
stage4 P t o =
    cond (is_move P t && is_correct o.server.status)
    (record {
      server = o.server;
      sent = record { votes = o.sent.votes ++ o.server.kept; reply_to = o.sent.reply_to; reply_with = o.sent.reply_with };
    })
    o
