-- Claims under a strictly rising renaming: who named a pair, which pairs were named, the quorum, and the answer. It stands on Maps and Stores.
use mathlib.Core.Path.{◌≡◌, refl, ◌∙◌, ap, ap₂}
use mathlib.Core.Bool.{◌||◌}
use mathlib.Core.List.{List, [], ◌∷◌, ◌++◌, map, map-append}
use Prim.Native.Nat.{ℕ}
use lib.Dec.{leb}
use Rattle.register.specs.Lists.{distinct, highest}
use Rattle.register.specs.Plan.{Plan, echo_quorum, reply_quorum}
use Rattle.register.specs.Server.{Claim, has, pairs_of, quorum, voted_in}
use Rattle.register.specs.Reading.{count_naming, best, answer_from}
use Rattle.register.proofs.Counting.{count_cong}
use Rattle.register.proofs.Rising.{eqb_rising}
use Rattle.renaming.specs.Renaming.{Rising, renamed_claim, renamed_answer, renamed_plan}
use Rattle.renaming.proofs.Maps.{any_map, filter_map, maps_swap}
use Rattle.renaming.proofs.Stores.{highest_renamed, distinct_renamed}

module _ (φ : ℕ → ℕ) (rising : Rising φ) where
  -- who named a pair, and the pairs named
  has-renamed : (cs : List Claim) (p i : ℕ) → has (map (renamed_claim φ) cs) (φ p) i ≡ has cs p i
  unfolding has
  has-renamed cs p i = any_map (renamed_claim φ) _ _ (λ c. rw (eqb_rising φ rising c.pair p)) cs

  pub pairs_renamed : (cs : List Claim) → pairs_of (map (renamed_claim φ) cs) ≡ map φ (pairs_of cs)
  unfolding pairs_of
  pairs_renamed cs =
      ap distinct (maps_swap (renamed_claim φ) (λ (c : Claim). c.pair) (λ (c : Claim). c.pair) φ (λ c. refl) cs)
      ∙ distinct_renamed φ rising (map (λ (c : Claim). c.pair) cs)

  module _ (P : Plan) where
    -- the pairs that were voted in, and how many named a pair
    quorum-renamed : (fresh old : List Claim) (p : ℕ)
        → quorum (renamed_plan φ P) (map (renamed_claim φ) fresh) (map (renamed_claim φ) old) (φ p) ≡ quorum P fresh old p
    unfolding quorum
    quorum-renamed fresh old p =
        ap₂ ◌||◌ (ap (leb (echo_quorum P)) (count_cong _ _ P.n (λ i l. has-renamed fresh p i)))
        (ap (leb (reply_quorum P)) (count_cong _ _ P.n (λ i l. ap₂ ◌||◌ (has-renamed fresh p i) (has-renamed old p i))))

    pub voted_renamed : (fresh old : List Claim)
        → voted_in (renamed_plan φ P) (map (renamed_claim φ) fresh) (map (renamed_claim φ) old) ≡ map φ (voted_in P fresh old)
    unfolding voted_in
    voted_renamed fresh old =
        rw (← map-append (renamed_claim φ) fresh old, pairs_renamed (fresh ++ old))
        (filter_map φ _ (quorum P fresh old) (quorum-renamed fresh old) (pairs_of (fresh ++ old)))

    pub named_renamed : (cs : List Claim) (p : ℕ) → count_naming (renamed_plan φ P) (map (renamed_claim φ) cs) (φ p) ≡ count_naming P cs p
    unfolding count_naming
    named_renamed cs p = count_cong _ _ P.n (λ i l. has-renamed cs p i)

    -- with no pair the answer names 0, so the renaming has to keep 0
    best-renamed : φ 0 ≡ 0 → (cs : List Claim) (ps : List ℕ)
        → best (renamed_plan φ P) (map (renamed_claim φ) cs) (map φ ps) ≡ renamed_answer φ (best P cs ps)
    unfolding best
    best-renamed keeps cs [] = rw keeps
    best-renamed keeps cs (p ∷ ps) = rw (highest_renamed φ rising p ps, named_renamed cs (highest p ps))

    pub chosen_renamed : φ 0 ≡ 0 → (cs : List Claim) → answer_from (renamed_plan φ P) (map (renamed_claim φ) cs) ≡ renamed_answer φ (answer_from P cs)
    unfolding answer_from
    chosen_renamed keeps cs =
        rw (
          pairs_renamed cs,
          filter_map φ _ (λ p. leb (reply_quorum P) (count_naming P cs p)) (λ p. ap (leb (reply_quorum P)) (named_renamed cs p)) (pairs_of cs),
        )
        (best-renamed keeps cs _)
