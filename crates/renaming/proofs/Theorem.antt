-- Two plans that agree apart from a strictly rising renaming of the pairs run alike: the same servers, answers and judgements, with the pairs
-- renamed. It stands on Cluster, Arrivals and Claims.
use mathlib.Core.Path.{◌≡◌, refl, ◌∙◌, ap, ap₂}
use mathlib.Core.Bool.{Bool, ◌&&◌, ◌||◌}
use mathlib.Core.List.{map}
use Prim.Native.Nat.{ℕ}
use lib.Dec.{eqb}
use Rattle.register.specs.Lists.{highest}
use Rattle.register.specs.Plan.{Plan, Write, Read, read_end}
use Rattle.register.specs.Cluster.{server_of, cluster}
use Rattle.register.specs.Reading.{noted_by, count_of, answer_of}
use Rattle.register.specs.Regular.{finished, concurrent, last_finished, allowed}
use Rattle.register.proofs.Rising.{eqb_rising}
use Rattle.renaming.specs.Renaming as renaming
use Rattle.renaming.specs.Renaming.{Rising, Renamed, renamed_plan}
use Rattle.renaming.proofs.Maps.{any_map, picked_map}
use Rattle.renaming.proofs.Stores.{highest_renamed}
use Rattle.renaming.proofs.Arrivals.{noted_renamed}
use Rattle.renaming.proofs.Claims.{named_renamed, chosen_renamed}
use Rattle.renaming.proofs.Cluster.{server_renamed, cluster_renamed}

-- the plan made of P's parts is P renamed
pub plan_renamed : (φ : ℕ → ℕ) (P : Plan) → Renamed φ P (renamed_plan φ P)
plan_renamed φ P = record {
  n = refl;
  f = refl;
  delta = refl;
  period = refl;
  depth = refl;
  initial = refl;
  placed = λ i b. refl;
  writes = refl;
  reads = refl;
  forged = refl;
  delay = λ t i j. refl;
}

-- and each plan that is P renamed is that one
plan_is : (φ : ℕ → ℕ) (P Q : Plan) → Renamed φ P Q → Q ≡ renamed_plan φ P
plan_is φ P Q R = λ i. record {
  n = R.n i;
  f = R.f i;
  delta = R.delta i;
  period = R.period i;
  depth = R.depth i;
  initial = R.initial i;
  placed = λ a b. R.placed a b i;
  writes = R.writes i;
  reads = R.reads i;
  forged = R.forged i;
  delay = λ t a b. R.delay t a b i;
}

module _ (φ : ℕ → ℕ) (rising : Rising φ) (P : Plan) where
  -- what a read has noted, and which writes it may answer, in the plan made of P's parts
  noted-by : (r : Read) → noted_by (renamed_plan φ P) r ≡ map (renaming.renamed_claim φ) (noted_by P r)
  unfolding noted_by
  noted-by r = rw (cluster_renamed φ rising P (read_end P r)) (noted_renamed φ P (cluster P (read_end P r)).log r)

  last-finished : (r : Read) → last_finished (renamed_plan φ P) r ≡ φ (last_finished P r)
  unfolding last_finished finished
  last-finished r =
      ap (highest (φ P.initial)) (picked_map (renaming.renamed_write φ) _ (λ (w : Write). w.pair) φ (λ w. refl) _ _ (λ w. refl) P.writes)
      ∙ highest_renamed φ rising P.initial _

  allowed-is : (r : Read) (p : ℕ) → allowed (renamed_plan φ P) r (φ p) ≡ allowed P r p
  unfolding allowed concurrent finished
  allowed-is r p =
      ap₂ ◌||◌ (ap (eqb (φ p)) (last-finished r) ∙ eqb_rising φ rising p (last_finished P r))
      (any_map (renaming.renamed_write φ) _ _ (λ w. ap (λ (same : Bool). same && concurrent P r w) (eqb_rising φ rising w.pair p)) P.writes)

module _ (φ : ℕ → ℕ) (rising : Rising φ) (P Q : Plan) (R : Renamed φ P Q) where
  -- the servers, and the log of what was sent
  pub servers_renamed : (t b : ℕ) → server_of (cluster Q t) b ≡ renaming.renamed_server φ (server_of (cluster P t) b)
  servers_renamed t b = rw (plan_is φ P Q R, cluster_renamed φ rising P t) (server_renamed φ (cluster P t) b)

  pub log_renamed : (t : ℕ) → (cluster Q t).log ≡ map (map (renaming.renamed_sent φ)) (cluster P t).log
  log_renamed t = rw (plan_is φ P Q R, cluster_renamed φ rising P t)

  -- the count of a pair in a read, and the read's answer
  pub count_renamed : (r : Read) (p : ℕ) → count_of Q r (φ p) ≡ count_of P r p
  count_renamed r p = rw (plan_is φ P Q R, noted-by φ rising P r) (named_renamed φ rising P (noted_by P r) p)

  pub answer_renamed : φ 0 ≡ 0 → (r : Read) → answer_of Q r ≡ record { pair = φ (answer_of P r).pair; count = (answer_of P r).count }
  answer_renamed keeps r = rw (plan_is φ P Q R, noted-by φ rising P r) (chosen_renamed φ rising P keeps (noted_by P r))

  -- what the regular register allows a read to answer
  pub allowed_renamed : (r : Read) (p : ℕ) → allowed Q r (φ p) ≡ allowed P r p
  allowed_renamed r p = rw (plan_is φ P Q R) (allowed-is φ rising P r p)
