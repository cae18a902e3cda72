-- What a server keeps, by the stages: a faulty one no pair ('a held box shows none': only a movement makes a server faulty, and then it is blank),
-- and none more than the depth. It stands on the definitions of the stages.
use mathlib.Core.Path.{◌≡◌, refl, sym, ◌∙◌}
use mathlib.Core.Bool.{Bool, ◌&&◌}
use mathlib.Core.List.{List, []}
use Prim.Native.Nat.{ℕ, zero, suc, ◌≤◌, ◌<◌}
use native.Mathlib.Omega.{arith}
use lib.Dec.{T, T_not}
use lib.ListN.{length, replicate, length-take, length-map}
use Rattle.register.specs.Plan.{Plan, Read, is_move}
use Rattle.register.specs.Server.{Server, Claim, Out, is_faulty, is_correct, cured_at, take_in, deliver, stage1, stage2, moved, stage3, stage4}
use Rattle.register.specs.Cluster.{Log, step, server_of, cluster}
use Rattle.register.proofs.Logic.{cond_e}
use Rattle.register.proofs.Trace.{before_is, before_zero, cluster_servers}
use Rattle.plan.specs.Header.{header_of}
use Rattle.plan.specs.Packed.{store_depth, plan_of}
use Rattle.results.specs.Look.{shown_by, empty_place, places_of}

module _ (P : Plan) where
  -- no pair where it is faulty, and never more than the depth
  abbrev Keeps : Server → Type 0
  Keeps x = (T (is_faulty x.status) → x.kept ≡ []) × (length x.kept ≤ P.depth)

  abbrev KeepsIn : Out → Type 0
  KeepsIn o = Keeps o.server

  stage1-keeps : (x : Server) (ws : List ℕ) (vs : List Claim) (rs : List Read) → Keeps x → KeepsIn (stage1 P x ws vs rs)
  unfolding stage1 deliver take_in
  stage1-keeps x ws vs rs K =
      cond_e KeepsIn (is_faulty x.status) _ _ (λ t. K)
      (λ f. (λ h. absurd (T_not (is_faulty x.status) f h), rw (length-take P.depth _) (omega arith)))

  stage2-keeps : (t : ℕ) (o : Out) → KeepsIn o → KeepsIn (stage2 P t o)
  unfolding stage2
  stage2-keeps t o K = cond_e KeepsIn (cured_at P.delta t o.server.status) _ _ (λ c. (λ h. absurd h, K.1)) (λ f. K)

  moved_keeps : (t : ℕ) (now-faulty : Bool) (x : Server) → Keeps x → Keeps (moved P t now-faulty x)
  unfolding moved
  moved_keeps t now-faulty x K =
      cond_e Keeps now-faulty _ _ (λ c. (λ h. refl, omega arith))
      (λ f. cond_e Keeps (is_faulty x.status) _ _ (λ c. (λ h. refl, omega arith)) (λ g. K))

  stage3-keeps : (t b : ℕ) (o : Out) → KeepsIn o → KeepsIn (stage3 P t b o)
  unfolding stage3
  stage3-keeps t b o K = cond_e KeepsIn (is_move P t) _ _ (λ c. moved_keeps t _ o.server K) (λ f. K)

  stage4-keeps : (t : ℕ) (o : Out) → KeepsIn o → KeepsIn (stage4 P t o)
  unfolding stage4
  stage4-keeps t o K = cond_e KeepsIn (is_move P t && is_correct o.server.status) _ _ (λ c. K) (λ f. K)

  step_keeps : (t b : ℕ) (log : Log) (x : Server) → Keeps x → KeepsIn (step P t b log x)
  unfolding step
  step_keeps t b log x K = stage4-keeps t _ (stage3-keeps t b _ (stage2-keeps t _ (stage1-keeps x _ _ _ K)))

  pub keeps : 1 ≤ P.depth → (t b : ℕ) → b < P.n → Keeps (server_of (cluster P t) b)
  keeps one zero b l = let e = sym (before_is P 0 b) ∙ before_zero P b l in rw e (λ h. absurd h, one)
  keeps one (suc t) b l = rw (cluster_servers P t b l) (step_keeps t b (cluster P t).log (server_of (cluster P t) b) (keeps one t b l))

-- so Look shows no pair of a faulty server, and every place of its array is empty
module _ (w : ℕ) (s : List ℕ) (t b : ℕ) (l : b < (header_of w s).n) where
  abbrev seen : Server
  seen = server_of (cluster (plan_of w s) t) b

  shown-keeps : Keeps (plan_of w s) seen
  unfolding plan_of
  shown-keeps = keeps (plan_of w s) (omega arith) t b l

  module _ (h : T (is_faulty seen.status)) where
    pub faulty_shows_none : (shown_by w seen).pairs ≡ []
    unfolding shown_by
    faulty_shows_none = rw (shown-keeps.0 h)

    pub faulty_places_empty : places_of (shown_by w seen).pairs ≡ replicate store_depth empty_place
    unfolding places_of
    faulty_places_empty = rw faulty_shows_none

  -- and of none more than the array has places
  pub few_shown : length (shown_by w seen).pairs ≤ store_depth
  unfolding shown_by plan_of
  few_shown = rw (length-map seen.kept _) shown-keeps.1
