-- The stages of a tick on a renamed server: what it becomes and what it sends are renamed. It stands on Stores, Claims and Arrivals.
use mathlib.Core.Path.{◌≡◌, refl, sym, ◌∙◌}
use mathlib.Core.Bool.{Bool, true, false, ◌&&◌}
use mathlib.Core.List.{List, [], ◌++◌, map, map-append}
use Prim.Native.Nat.{ℕ, ◌/◌}
use lib.Dec.{eqb}
use Rattle.register.specs.Plan.{Plan, Read, kk, is_move}
use Rattle.register.specs.Server as server
use Rattle.register.specs.Server.{Claim, Server, Out, take_in, voted_in, deliver, stage1, stage2, moved, stage3, stage4}
use Rattle.register.specs.Cluster.{Log, writes_in, reads_in, votes_in, step}
use Rattle.register.proofs.Logic.{cond_ap}
use Rattle.register.proofs.Rising.{same_map}
use Rattle.renaming.specs.Renaming.{Rising, renamed_claim, renamed_server, renamed_sent, renamed_out, renamed_plan}
use Rattle.renaming.proofs.Stores.{take_in_renamed}
use Rattle.renaming.proofs.Claims.{voted_renamed}
use Rattle.renaming.proofs.Arrivals.{writes_renamed, reads_renamed, votes_renamed}

module _ (φ : ℕ → ℕ) (rising : Rising φ) (P : Plan) where
  deliver-renamed : (x : Server) (ws : List ℕ) (vs : List Claim) (rs : List Read)
      → deliver (renamed_plan φ P) (renamed_server φ x) (map φ ws) (map (renamed_claim φ) vs) rs ≡ renamed_out φ (deliver P x ws vs rs)
  unfolding deliver
  deliver-renamed x ws vs rs =
      rw (
        ← map-append (renamed_claim φ) x.fresh vs,
        voted_renamed φ rising P (x.fresh ++ vs) x.old,
        ← map-append φ ws (voted_in P (x.fresh ++ vs) x.old),
        take_in_renamed φ rising P.depth (ws ++ voted_in P (x.fresh ++ vs) x.old) x.kept,
        same_map φ rising x.kept (take_in P.depth (ws ++ voted_in P (x.fresh ++ vs) x.old) x.kept),
      )

  stage1-renamed : (x : Server) (ws : List ℕ) (vs : List Claim) (rs : List Read)
      → stage1 (renamed_plan φ P) (renamed_server φ x) (map φ ws) (map (renamed_claim φ) vs) rs ≡ renamed_out φ (stage1 P x ws vs rs)
  unfolding stage1
  stage1-renamed x ws vs rs = rw (deliver-renamed x ws vs rs) (sym (cond_ap (renamed_out φ) (server.is_faulty x.status) _ _))

  stage2-renamed : (t : ℕ) (o : Out) → stage2 (renamed_plan φ P) t (renamed_out φ o) ≡ renamed_out φ (stage2 P t o)
  unfolding stage2
  stage2-renamed t o = sym (cond_ap (renamed_out φ) (server.cured_at P.delta t o.server.status) _ o)

  moved-renamed : (t : ℕ) (now-faulty : Bool) (x : Server)
      → moved (renamed_plan φ P) t now-faulty (renamed_server φ x) ≡ renamed_server φ (moved P t now-faulty x)
  unfolding moved
  moved-renamed t true x = refl
  moved-renamed t false x =
      sym (cond_ap (renamed_server φ) (server.is_faulty x.status) _ _ ∙ rw (cond_ap (map (renamed_claim φ)) (eqb (kk P) 2) x.fresh []))

  stage3-renamed : (t b : ℕ) (o : Out) → stage3 (renamed_plan φ P) t b (renamed_out φ o) ≡ renamed_out φ (stage3 P t b o)
  unfolding stage3 is_move
  stage3-renamed t b o = rw (moved-renamed t (P.placed (t / P.period) b) o.server) (sym (cond_ap (renamed_out φ) (is_move P t) _ o))

  stage4-renamed : (t : ℕ) (o : Out) → stage4 (renamed_plan φ P) t (renamed_out φ o) ≡ renamed_out φ (stage4 P t o)
  unfolding stage4 is_move
  stage4-renamed t o =
      rw (← map-append φ o.sent.votes o.server.kept) (sym (cond_ap (renamed_out φ) (is_move P t && server.is_correct o.server.status) _ o))

  pub step_renamed : (t b : ℕ) (log : Log) (x : Server)
      → step (renamed_plan φ P) t b (map (map (renamed_sent φ)) log) (renamed_server φ x) ≡ renamed_out φ (step P t b log x)
  unfolding step
  step_renamed t b log x =
      rw (
        writes_renamed φ P t b,
        votes_renamed φ P t log b,
        reads_renamed φ P t b,
        stage1-renamed x (writes_in P t b) (votes_in P t log b) (reads_in P t b),
        stage2-renamed t (stage1 P x (writes_in P t b) (votes_in P t log b) (reads_in P t b)),
      )
      (rw (stage3-renamed t b _) (stage4-renamed t _))
