-- Safety of reads: at most (k + 1) f servers name a pair to a read whose writing has not begun by the read's end; so a pair with a reply
-- quorum is genuine then. No pair with a quorum is above the answer. It stands on Good alone, not on Enough.
use mathlib.Core.Path.{◌≡◌, refl}
use mathlib.Core.Bool.{Bool, true, false, ◌&&◌, cond}
use mathlib.Core.Logic.{◌⊎◌, inl, inr}
use mathlib.Core.List.{List, [], ◌∷◌, map}
use Prim.Native.Nat.{ℕ, ◌+◌, ◌*◌, ◌-◌, ◌/◌, ◌≤◌}
use native.Mathlib.Omega.{arith}
use lib.Dec.{T, leb, eqb, leb→le, le→leb, T_not}
use Rattle.register.specs.Lists.{flat, any, filter, In}
use Rattle.register.specs.Plan.{Read, Forgery, Plan, kk, reply_quorum, read_end}
use Rattle.register.specs.Server.{Claim, claim_of, has, pairs_of}
use Rattle.register.specs.Cluster.{sent_in, cluster}
use Rattle.register.specs.Reading.{same_read, reply_from, forged_to, noted, noted_by, count_naming, count_of, best, answer_from, answer_of}
use Rattle.register.specs.Regular.{has_begun}
use Rattle.register.proofs.Logic.{and_l, and_r, test}
use Rattle.register.proofs.Lists.{in_append, in_filter, filter_in, in_flat, in_map, highest_in, highest_le, highest_all}
use Rattle.register.proofs as register-laws
use Rattle.register.proofs.Placements.{Near, near, near_in, near_few, read_near}
use Rattle.register.proofs.Genuine.{Genuine}
use Rattle.register.proofs.Claims.{has_in, counted_named}
use Rattle.register.proofs.SafetyTick.{reply_genuine}

-- the placement in force when the last reply that can count is sent
abbrev last_placement : Plan → Read → ℕ
last_placement P r = (read_end P r - 1) / P.period

module _ (P : Plan) (G : register-laws.Good.Good P) (r : Read) where
  -- a server's own reply names genuine pairs
  replyFrom-genuine : (t u i : ℕ) (c : Claim) → In c (reply_from P (cluster P t).log r u i) → Genuine P t c.pair
  unfolding reply_from claim_of
  replyFrom-genuine t u i c h =
      go (any (same_read r) (sent_in (cluster P t).log u i).reply_to && leb (u + P.delay u i (P.n + r.reader)) (read_end P r)) h
    where
      go : (a : Bool) → In c (cond a (map (claim_of i) (sent_in (cluster P t).log u i).reply_with) []) → Genuine P t c.pair
      go false h = absurd h
      go true h =
          let m = in_map (claim_of i) c (sent_in (cluster P t).log u i).reply_with h in
          rw m.2 (reply_genuine P G t u i m.0 m.1)

  -- who forges a reply is faulty in one of k + 1 placements
  forgedTo-near : (c : Claim) → In c (forged_to P r) → Near P (last_placement P r) (kk P) c.from
  unfolding forged_to claim_of
  forgedTo-near c h =
      let m = in_map (λ (g : Forgery). claim_of g.from g.pair) c (filter counts P.forged) h in
      let g = m.0 in
      let f = in_filter counts g P.forged m.1 in
      let rest = and_r (eqb g.to (P.n + r.reader)) (in_time g) f.1 in
      let lo = leb→le r.begun g.at (and_l (leb r.begun g.at) (leb (arrival g) (read_end P r)) rest) in
      let hi = leb→le (arrival g) (read_end P r) (and_r (leb r.begun g.at) (leb (arrival g) (read_end P r)) rest) in
      let w = read_near P G r.begun g.at lo (omega (arith, G.delay_lo g.at g.from g.to)) in
      rw m.2 (g.at / P.period, w.0, w.1, G.forger g f.0)
    where
      arrival : Forgery → ℕ
      arrival g = g.at + P.delay g.at g.from g.to

      in_time : Forgery → Bool
      in_time g = leb r.begun g.at && leb (arrival g) (read_end P r)

      counts : Forgery → Bool
      counts g = eqb g.to (P.n + r.reader) && in_time g

  -- a claim noted is genuine, or comes from such a server
  pub noted_safe : (c : Claim) → In c (noted_by P r) → Genuine P (read_end P r) c.pair ⊎ Near P (last_placement P r) (kk P) c.from
  unfolding noted_by noted
  noted_safe c i = go (in_append c (flat end own) (forged_to P r) i)
    where
      end : ℕ
      end = read_end P r

      own : ℕ → List Claim
      own u = flat P.n (λ i. reply_from P (cluster P end).log r u i)

      go : In c (flat end own) ⊎ In c (forged_to P r) → Genuine P end c.pair ⊎ Near P (last_placement P r) (kk P) c.from
      go (inr h) = inr (forgedTo-near c h)
      go (inl h) =
          let s = in_flat c end own h in
          let q = in_flat c P.n (λ i. reply_from P (cluster P end).log r s.0 i) s.2 in
          inl (replyFrom-genuine end s.0 q.0 c q.2)

  named-near : (p i : ℕ) → (Genuine P (read_end P r) p → ⊥) → T (has (noted_by P r) p i) → T (near P (last_placement P r) (kk P) i)
  named-near p i never h =
      let c = has_in (noted_by P r) p i h in
      go c.0 c.2 c.3 (noted_safe c.0 c.1)
    where
      go : (c : Claim) → c.pair ≡ p → c.from ≡ i → Genuine P (read_end P r) c.pair ⊎ Near P (last_placement P r) (kk P) c.from
          → T (near P (last_placement P r) (kk P) i)
      go c e d (inl g) = absurd (never (rw e at g))
      go c e d (inr k) = near_in P (last_placement P r) (kk P) i (rw d at k)

  pub few_name : (p : ℕ) → (Genuine P (read_end P r) p → ⊥) → count_of P r p ≤ (kk P + 1) * P.f
  unfolding count_naming
  few_name p never =
      omega (
        arith,
        near_few P G (last_placement P r) (kk P),
        register-laws.Counting.count_mono (λ i. has (noted_by P r) p i) (near P (last_placement P r) (kk P)) P.n (λ i l t. named-near p i never t),
      )

  pub quorum_genuine : (p : ℕ) → reply_quorum P ≤ count_of P r p → T (has_begun P (read_end P r) p)
  quorum_genuine p h = elim (test (has_begun P (read_end P r) p)) [
    | inl g ↦ g
    | inr n ↦ absurd (omega (arith, few_name p (T_not (has_begun P (read_end P r) p) n)))
  ]

-- the pairs of the list that have a quorum, and the answer among them
module _ (P : Plan) (cs : List Claim) where
  enough? : ℕ → Bool
  enough? p = leb (reply_quorum P) (count_naming P cs p)

  quorums : List ℕ
  quorums = filter enough? (pairs_of cs)

  in-quorums : (p : ℕ) → reply_quorum P ≤ count_naming P cs p → In p quorums
  unfolding quorums enough? count_naming
  in-quorums p h = filter_in enough? p (pairs_of cs) (counted_named cs P.n p (omega arith)) (le→leb (reply_quorum P) (count_naming P cs p) h)

  best-top : (p : ℕ) (l : List ℕ) → In p l
      → (p ≤ (best P cs l).pair) × In (best P cs l).pair l × ((best P cs l).count ≡ count_naming P cs (best P cs l).pair)
  unfolding best
  best-top p [] i = absurd i
  best-top p (x ∷ l) (inl e) = (omega (arith, highest_le x l), highest_in x l, refl)
  best-top p (x ∷ l) (inr i) = (highest_all x l p i, highest_in x l, refl)

  -- where some pair has a quorum, the answer has one, says its count, and is the highest such pair
  pub answer_from_lem : (p : ℕ) → reply_quorum P ≤ count_naming P cs p
      → (p ≤ (answer_from P cs).pair) × ((answer_from P cs).count ≡ count_naming P cs (answer_from P cs).pair)
      × (reply_quorum P ≤ (answer_from P cs).count)
  unfolding answer_from quorums enough?
  answer_from_lem p h =
      let b = best-top p quorums (in-quorums p h) in
      let q = (best P cs quorums).pair in
      let e = leb→le (reply_quorum P) (count_naming P cs q) (in_filter enough? q (pairs_of cs) b.1).1 in
      (b.0, b.2, omega (arith, b.2))

pub answer_top : (P : Plan) (r : Read) (p : ℕ) → reply_quorum P ≤ count_of P r p → p ≤ (answer_of P r).pair
answer_top P r p h = (answer_from_lem P (noted_by P r) p h).0
