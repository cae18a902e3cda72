-- The cluster of a renamed plan is the renamed cluster, after any number of ticks. It stands on Stages.
use mathlib.Core.Path.{◌≡◌, refl}
use mathlib.Core.List.{[], ◌∷◌, map, map-append}
use Prim.Native.Nat.{ℕ, zero, suc}
use lib.ListN.{get_or-map}
use Rattle.register.specs.Lists.{tab}
use Rattle.register.specs.Plan.{Plan}
use Rattle.register.specs.Server.{faulty, Out, blank}
use Rattle.register.specs.Cluster.{Cluster, step, first, server_of, tick, cluster}
use Rattle.renaming.specs.Renaming.{Rising, renamed_server, renamed_sent, renamed_out, renamed_cluster, renamed_plan}
use Rattle.renaming.proofs.Maps.{tab_map, maps_swap}
use Rattle.renaming.proofs.Stages.{step_renamed}

module _ (φ : ℕ → ℕ) where
  pub server_renamed : (c : Cluster) (b : ℕ) → server_of (renamed_cluster φ c) b ≡ renamed_server φ (server_of c b)
  unfolding server_of
  server_renamed c b = get_or-map (renamed_server φ) c.servers b (blank faulty)

  module _ (rising : Rising φ) (P : Plan) where
    tick-renamed : (t : ℕ) (c : Cluster) → tick (renamed_plan φ P) t (renamed_cluster φ c) ≡ renamed_cluster φ (tick P t c)
    unfolding tick
    tick-renamed t c =
        rw (
          tab_map (renamed_out φ) 0 P.n _ out out-renamed,
          maps_swap (renamed_out φ) (λ (o : Out). o.server) (λ (o : Out). o.server) (renamed_server φ) (λ o. refl) (tab P.n out),
          maps_swap (renamed_out φ) (λ (o : Out). o.sent) (λ (o : Out). o.sent) (renamed_sent φ) (λ o. refl) (tab P.n out),
          map-append (map (renamed_sent φ)) c.log (map (λ (o : Out). o.sent) (tab P.n out) ∷ []),
        )
      where
        out : ℕ → Out
        out b = step P t b c.log (server_of c b)

        out-renamed : (b : ℕ) → step (renamed_plan φ P) t b (renamed_cluster φ c).log (server_of (renamed_cluster φ c) b) ≡ renamed_out φ (out b)
        out-renamed b = rw (server_renamed c b) (step_renamed φ rising P t b c.log (server_of c b))

    pub cluster_renamed : (t : ℕ) → cluster (renamed_plan φ P) t ≡ renamed_cluster φ (cluster P t)
    unfolding cluster
    cluster_renamed zero = rw (tab_map (renamed_server φ) 0 P.n _ (λ b. first P) (λ b. refl))
    cluster_renamed (suc t) = rw (cluster_renamed t) (tick-renamed t (cluster P t))
