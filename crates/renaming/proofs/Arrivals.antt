-- What arrives under a renaming of the pairs: when and from whom is as before, and the pairs are renamed. It stands on Maps.
use mathlib.Core.Path.{◌≡◌, refl, ◌∙◌, ap}
use mathlib.Core.Bool.{Bool, true, false, not, ◌&&◌, cond}
use mathlib.Core.List.{List, [], map}
use Prim.Native.Nat.{ℕ, ◌+◌}
use lib.Dec.{leb, eqb}
use lib.ListN.{get_or, get_or-map}
use Rattle.register.specs.Lists.{any}
use Rattle.register.specs.Plan.{Plan, Write, Read, read_end}
use Rattle.register.specs.Server.{claim_of, Sent, nothing}
use Rattle.register.specs.Cluster.{Log, sent_in, writes_in, reads_in, votes_from, forged_in, votes_in}
use Rattle.register.specs.Reading.{same_read, reply_from, forged_to, noted}
use Rattle.renaming.specs.Renaming.{renamed_write, renamed_forgery, renamed_claim, renamed_sent, renamed_plan}
use Rattle.renaming.proofs.Maps.{flats_map, maps_swap, picked_map}

module _ (φ : ℕ → ℕ) where
  sent-renamed : (log : Log) (u i : ℕ) → sent_in (map (map (renamed_sent φ)) log) u i ≡ renamed_sent φ (sent_in log u i)
  unfolding sent_in
  sent-renamed log u i =
      ap (λ (row : List Sent). get_or row i nothing) (get_or-map (map (renamed_sent φ)) log u [])
      ∙ get_or-map (renamed_sent φ) (get_or log u []) i nothing

  -- the claims of one server, if they arrive
  claims-renamed : (arrive : Bool) (i : ℕ) (ps : List ℕ)
      → cond arrive (map (claim_of i) (map φ ps)) [] ≡ map (renamed_claim φ) (cond arrive (map (claim_of i) ps) [])
  unfolding claim_of
  claims-renamed true i ps = maps_swap φ (claim_of i) (claim_of i) (renamed_claim φ) (λ p. refl) ps
  claims-renamed false i ps = refl

  module _ (P : Plan) where
    -- what arrives at a server
    pub writes_renamed : (t b : ℕ) → writes_in (renamed_plan φ P) t b ≡ map φ (writes_in P t b)
    unfolding writes_in
    writes_renamed t b = picked_map (renamed_write φ) _ (λ (w : Write). w.pair) φ (λ w. refl) _ _ (λ w. refl) P.writes

    pub reads_renamed : (t b : ℕ) → reads_in (renamed_plan φ P) t b ≡ reads_in P t b
    unfolding reads_in
    reads_renamed t b = refl

    votes-from : (t : ℕ) (log : Log) (b u i : ℕ)
        → votes_from (renamed_plan φ P) t (map (map (renamed_sent φ)) log) b u i ≡ map (renamed_claim φ) (votes_from P t log b u i)
    unfolding votes_from
    votes-from t log b u i = rw (sent-renamed log u i) (claims-renamed (not (eqb i b) && eqb (u + P.delay u i b) t) i (sent_in log u i).votes)

    forged_in_lem : (t b : ℕ) → forged_in (renamed_plan φ P) t b ≡ map (renamed_claim φ) (forged_in P t b)
    unfolding forged_in claim_of
    forged_in_lem t b = picked_map (renamed_forgery φ) _ _ (renamed_claim φ) (λ g. refl) _ _ (λ g. refl) P.forged

    pub votes_renamed : (t : ℕ) (log : Log) (b : ℕ)
        → votes_in (renamed_plan φ P) t (map (map (renamed_sent φ)) log) b ≡ map (renamed_claim φ) (votes_in P t log b)
    unfolding votes_in
    votes_renamed t log b = flats_map (renamed_claim φ) t P.n _ _ _ _ (votes-from t log b) (forged_in_lem t b)

    -- what arrives for a read
    reply-from : (log : Log) (r : Read) (u i : ℕ)
        → reply_from (renamed_plan φ P) (map (map (renamed_sent φ)) log) r u i ≡ map (renamed_claim φ) (reply_from P log r u i)
    unfolding reply_from
    reply-from log r u i =
        rw (sent-renamed log u i)
        (claims-renamed (any (same_read r) (sent_in log u i).reply_to && leb (u + P.delay u i (P.n + r.reader)) (read_end P r)) i
        (sent_in log u i).reply_with)

    forged_to_lem : (r : Read) → forged_to (renamed_plan φ P) r ≡ map (renamed_claim φ) (forged_to P r)
    unfolding forged_to claim_of
    forged_to_lem r = picked_map (renamed_forgery φ) _ _ (renamed_claim φ) (λ g. refl) _ _ (λ g. refl) P.forged

    pub noted_renamed : (log : Log) (r : Read) → noted (renamed_plan φ P) (map (map (renamed_sent φ)) log) r ≡ map (renamed_claim φ) (noted P log r)
    unfolding noted
    noted_renamed log r = flats_map (renamed_claim φ) (read_end P r) P.n _ _ _ _ (reply-from log r) (forged_to_lem r)
