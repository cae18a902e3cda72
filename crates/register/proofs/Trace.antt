-- One server through a tick: before it, after stage 1, after stage 2 (mid) and at its end; what the tick leaves as it was; and the
-- log, whose row u is what was sent in tick u. It stands on the definitions and Lists.
use mathlib.Core.Path.{◌≡◌, refl, ap, ◌∙◌}
use mathlib.Core.List.{List, [], ◌∷◌, ◌++◌, map}
use Prim.Native.Nat.{ℕ, zero, suc, ◌<◌}
use native.Mathlib.Omega.{arith}
use native.Mathlib.Decide.{ℕ_discrete}
use lib.ListN.{get_or, length, length-append, get_or-map, get_or-append}
use lib.Seq.{get_or-append_seam}
use Rattle.register.specs.Lists.{tab}
use Rattle.register.specs.Plan.{Plan}
use Rattle.register.specs.Server.{faulty, Claim, Server, Sent, nothing, Out, stage1, stage2, blank, stage3, stage4}
use Rattle.register.specs.Cluster.{sent_in, writes_in, reads_in, votes_in, step, first, server_of, tick, cluster}
use Rattle.register.proofs.Lists.{get_d_tab}

-- server b before tick t; after stage 1 of tick t; after stage 2; after the whole tick, each with what it sent
unfoldable pub before : Plan → ℕ → ℕ → Server
before P t b = server_of (cluster P t) b

unfoldable pub delivered : Plan → ℕ → ℕ → Out
delivered P t b = stage1 P (before P t b) (writes_in P t b) (votes_in P t (cluster P t).log b) (reads_in P t b)

unfoldable pub mid : Plan → ℕ → ℕ → Out
mid P t b = stage2 P t (delivered P t b)

unfoldable pub end : Plan → ℕ → ℕ → Out
end P t b = stage4 P t (stage3 P t b (mid P t b))

-- the votes of the present period that it has in tick t, with those that arrive in it
abbrev pub fresh_in : Plan → ℕ → ℕ → List Claim
fresh_in P t b = (before P t b).fresh ++ votes_in P t (cluster P t).log b

no_out : Out
no_out = record { server = blank faulty; sent = nothing }

-- what the servers are and send at the end of tick t
unfoldable pub outs : Plan → ℕ → List Out
outs P t = tab P.n (λ b. step P t b (cluster P t).log (server_of (cluster P t) b))

out_is : (P : Plan) (t b : ℕ) → b < P.n → get_or (outs P t) b no_out ≡ end P t b
unfolding outs end mid delivered before step no_out
out_is P t b l = get_d_tab P.n (λ b. step P t b (cluster P t).log (server_of (cluster P t) b)) b no_out l

pub end_is_step : (P : Plan) (t b : ℕ) → end P t b ≡ step P t b (cluster P t).log (before P t b)
unfolding end mid delivered step
end_is_step P t b = refl

pub before_is : (P : Plan) (t b : ℕ) → before P t b ≡ server_of (cluster P t) b
unfolding before
before_is P t b = refl

pub before_zero : (P : Plan) (b : ℕ) → b < P.n → before P 0 b ≡ first P
unfolding before cluster server_of
before_zero P b l = get_d_tab P.n (λ b. first P) b (blank faulty) l

pub before_suc : (P : Plan) (t b : ℕ) → b < P.n → before P (suc t) b ≡ (end P t b).server
unfolding before cluster tick server_of no_out outs
before_suc P t b l = get_or-map (λ (o : Out). o.server) (outs P t) b no_out ∙ ap (λ (o : Out). o.server) (out_is P t b l)

-- the servers of the next cluster, as stage 4 gives them
pub cluster_servers : (P : Plan) (t b : ℕ) → b < P.n
    → server_of (cluster P (suc t)) b ≡ (step P t b (cluster P t).log (server_of (cluster P t) b)).server
unfolding before
cluster_servers P t b l = before_suc P t b l ∙ ap (λ (o : Out). o.server) (end_is_step P t b)

-- the log: a row for each tick
pub log_suc : (P : Plan) (t : ℕ) → (cluster P (suc t)).log ≡ (cluster P t).log ++ (map (λ (o : Out). o.sent) (outs P t) ∷ [])
unfolding cluster tick outs
log_suc P t = refl

pub log_length : (P : Plan) (t : ℕ) → length (cluster P t).log ≡ t
unfolding cluster
log_length P zero = refl
log_length P (suc t) =
    rw (log_suc P t, length-append (cluster P t).log (map (λ (o : Out). o.sent) (outs P t) ∷ [])) (omega (arith, log_length P t))

row_new : (P : Plan) (t b : ℕ) → b < P.n → sent_in (cluster P (suc t)).log t b ≡ (end P t b).sent
unfolding sent_in no_out
row_new P t b l =
    ap (λ (r : List Sent). get_or r b nothing) row_is
    ∙ (get_or-map (λ (o : Out). o.sent) (outs P t) b no_out ∙ ap (λ (o : Out). o.sent) (out_is P t b l))
  where
    row : List Sent
    row = map (λ (o : Out). o.sent) (outs P t)

    last : get_or ((cluster P t).log ++ (row ∷ [])) t [] ≡ row
    last = rw (log_length P t) at (get_or-append_seam (cluster P t).log row [] [])

    row_is : get_or (cluster P (suc t)).log t [] ≡ row
    row_is = rw (log_suc P t) last

-- a tick leaves the rows before it
pub row_kept : (P : Plan) (t u b : ℕ) → u < t → sent_in (cluster P (suc t)).log u b ≡ sent_in (cluster P t).log u b
unfolding sent_in
row_kept P t u b l = ap (λ (r : List Sent). get_or r b nothing) row_is
  where
    row : List Sent
    row = map (λ (o : Out). o.sent) (outs P t)

    row_is : get_or (cluster P (suc t)).log u [] ≡ get_or (cluster P t).log u []
    row_is = rw (log_suc P t) (get_or-append (cluster P t).log (row ∷ []) [] u (omega (arith, log_length P t)))

-- what server b sent in tick u, in the log of any later tick
pub sent_row : (P : Plan) (t u b : ℕ) → b < P.n → u < t → sent_in (cluster P t).log u b ≡ (end P u b).sent
sent_row P zero u b l h = absurd (omega arith)
sent_row P (suc t) u b l h = go (ℕ_discrete u t) (sent_row P t u b l)
  where
    go : Dec (u ≡ t) → (u < t → sent_in (cluster P t).log u b ≡ (end P u b).sent) → sent_in (cluster P (suc t)).log u b ≡ (end P u b).sent
    go (yes e) ih = rw e (row_new P t b l)
    go (no n) ih = let h : u < t = omega arith in row_kept P t u b h ∙ ih h
