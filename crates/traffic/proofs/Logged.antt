-- The votes of stage 1, which are counted, are what the log of the step rules has of a server in a tick, but for the echo behind them.
-- It stands on the register's laws of one server through a tick.
use mathlib.Core.Path.{◌≡◌, refl, sym, ap, ◌∙◌}
use mathlib.Core.Bool.{Bool, true, false, ◌&&◌, cond}
use mathlib.Core.List.{List, [], ◌++◌, append-nil}
use Prim.Native.Nat.{ℕ, suc, ◌<◌}
use Rattle.register.specs.Plan.{Plan, is_move}
use Rattle.register.specs.Server.{is_correct, Server, Sent, Out, stage3, stage4}
use Rattle.register.specs.Cluster.{sent_in, server_of, cluster}
use Rattle.register.proofs.Logic.{cond_e, cond_ap}
use Rattle.register.proofs.Stages.{mid_keeps, stage4_server}
use Rattle.register.proofs.Trace as trace
use Rattle.traffic.specs.Traffic.{delivered}

module _ (P : Plan) (t : ℕ) where
  -- the pairs that a server echoes, which is so after the tick's movement
  abbrev echo : Server → List ℕ
  echo x = cond (is_move P t && is_correct x.status) x.kept []

  -- a movement sends nothing
  moved-sends : (b : ℕ) (o : Out) → (stage3 P t b o).sent.votes ≡ o.sent.votes
  unfolding stage3
  moved-sends b o = cond_e (λ (r : Out). r.sent.votes ≡ o.sent.votes) (is_move P t) _ o (λ k. refl) (λ k. refl)

  -- the echo stands behind what was sent before
  echo-behind : (o : Out) → (stage4 P t o).sent.votes ≡ o.sent.votes ++ echo o.server
  unfolding stage4
  echo-behind o =
      cond_ap (λ (r : Out). r.sent.votes) (is_move P t && is_correct o.server.status) _ o
      ∙ go (is_move P t && is_correct o.server.status)
    where
      go : (c : Bool) → cond c (o.sent.votes ++ o.server.kept) o.sent.votes ≡ o.sent.votes ++ cond c o.server.kept []
      go true = refl
      go false = sym (append-nil o.sent.votes)

  -- in the log of any later tick
  pub votes_logged : (u b : ℕ) → b < P.n → t < u
      → (sent_in (cluster P u).log t b).votes ≡ (delivered P t b).sent.votes ++ echo (server_of (cluster P (suc t)) b)
  unfolding delivered trace.delivered trace.before trace.end
  votes_logged u b l h =
      let o : Out = stage3 P t b (trace.mid P t b) in
      ap (λ (m : Sent). m.votes) (trace.sent_row P u t b l h)
      ∙ echo-behind o
      ∙ ap (λ v. v ++ echo o.server) (moved-sends b (trace.mid P t b) ∙ (mid_keeps P t b).4)
      ∙ ap (λ x. (delivered P t b).sent.votes ++ echo x) (sym (trace.before_suc P t b l ∙ stage4_server P t o))
