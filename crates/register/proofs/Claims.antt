-- Claims: who has named a pair. A claim that is counted is in the list, and a list counts what its parts count; the pairs named are the
-- candidates. It stands on Lists and Counting.
use mathlib.Core.Path.{◌≡◌, refl}
use mathlib.Core.Bool.{Bool, true, false, ◌&&◌, ◌||◌, or_comm}
use mathlib.Core.Logic.{◌⊎◌, inl, inr}
use mathlib.Core.List.{List, [], ◌∷◌, ◌++◌, map}
use Prim.Native.Nat.{ℕ, zero, suc, ◌≤◌}
use native.Mathlib.Omega.{arith}
use lib.Dec.{T, leb, eqb, eqb→eq, eqb_refl, leb→le}
use Rattle.register.specs.Lists.{count, any_up_to, flat, any, In, member}
use Rattle.register.specs.Plan.{Plan, echo_quorum, reply_quorum}
use Rattle.register.specs.Server.{Claim, claim_of, has, pairs_of, quorum}
use Rattle.register.proofs.Logic.{and_l, and_r, and_i, or_e, or_l}
use Rattle.register.proofs.Lists.{any_in, in_any, any_append, map_in, in_distinct}
use Rattle.register.proofs.Counting.{count_mono, count_cong, count_some}

-- has server i named p, as a claim of the list
pub has_in : (cs : List Claim) (p i : ℕ) → T (has cs p i) → (c : Claim) × In c cs × (c.pair ≡ p) × (c.from ≡ i)
unfolding has
has_in cs p i t =
    let r = any_in (λ (c : Claim). eqb c.pair p && eqb c.from i) cs t in (
      r.0,
      r.1,
      eqb→eq r.0.pair p (and_l (eqb r.0.pair p) (eqb r.0.from i) r.2),
      eqb→eq r.0.from i (and_r (eqb r.0.pair p) (eqb r.0.from i) r.2),
    )

pub in_has : (cs : List Claim) (p i : ℕ) → In (claim_of i p) cs → T (has cs p i)
unfolding has claim_of
in_has cs p i h =
    in_any (λ (c : Claim). eqb c.pair p && eqb c.from i) (claim_of i p) cs h (and_i (eqb p p) (eqb i i) (eqb_refl p) (eqb_refl i))

pub has_nil : (p i : ℕ) → has [] p i ≡ false
unfolding has any
has_nil p i = refl

pub has_append : (l m : List Claim) (p i : ℕ) → has (l ++ m) p i ≡ has l p i || has m p i
unfolding has
has_append l m p i = any_append (λ (c : Claim). eqb c.pair p && eqb c.from i) l m

-- what one server names
pub has_claims : (j p i : ℕ) (ps : List ℕ) → has (map (claim_of j) ps) p i ≡ member p ps && eqb j i
unfolding has any claim_of
has_claims j p i [] = refl
has_claims j p i (x ∷ ps) = go (eqb x p) (eqb j i) (member p ps) (has_claims j p i ps)
  where
    go : (a b c : Bool) → has (map (claim_of j) ps) p i ≡ c && b → a && b || has (map (claim_of j) ps) p i ≡ (a || c) && b
    go true true c e = refl
    go true false true e = e
    go true false false e = e
    go false b c e = e

-- a flat list has what one of its parts has
pub has_flat : (n : ℕ) (g : ℕ → List Claim) (p i : ℕ) → has (flat n g) p i ≡ any_up_to n (λ u. has (g u) p i)
unfolding flat any_up_to
has_flat zero g p i = has_nil p i
has_flat (suc n) g p i = rw (has_append (flat n g) (g n) p i, has_flat n g p i) (or_comm (any_up_to n (λ u. has (g u) p i)) (has (g n) p i))

-- the pairs named
pub in_pairs_of : (c : Claim) (cs : List Claim) → In c cs → In c.pair (pairs_of cs)
unfolding pairs_of
in_pairs_of c cs i = in_distinct c.pair (map (λ (c : Claim). c.pair) cs) (map_in (λ (c : Claim). c.pair) c cs i)

pub has_named : (cs : List Claim) (p i : ℕ) → T (has cs p i) → In p (pairs_of cs)
has_named cs p i h = let r = has_in cs p i h in rw (← r.2) (in_pairs_of r.0 cs r.1)

-- a pair with a count was named
pub counted_named : (cs : List Claim) (n p : ℕ) → 1 ≤ count (λ i. has cs p i) n → In p (pairs_of cs)
counted_named cs n p h = let r = count_some (λ i. has cs p i) n h in has_named cs p r.0 r.2

pub quorum_named : (P : Plan) (fresh old : List Claim) (p : ℕ) → T (quorum P fresh old p) → In p (pairs_of (fresh ++ old))
unfolding quorum
quorum_named P fresh old p h =
    counted_named (fresh ++ old) P.n p
    (go (or_e (leb (echo_quorum P) (count (λ i. has fresh p i) P.n)) (leb (reply_quorum P) (count both P.n)) h))
  where
    both : ℕ → Bool
    both i = has fresh p i || has old p i

    same : count (λ i. has (fresh ++ old) p i) P.n ≡ count both P.n
    same = count_cong (λ i. has (fresh ++ old) p i) both P.n (λ i l. has_append fresh old p i)

    go : T (leb (echo_quorum P) (count (λ i. has fresh p i) P.n)) ⊎ T (leb (reply_quorum P) (count both P.n))
        → 1 ≤ count (λ i. has (fresh ++ old) p i) P.n
    go (inl k) = omega (
      arith,
      same,
      leb→le (echo_quorum P) (count (λ i. has fresh p i) P.n) k,
      count_mono (λ i. has fresh p i) both P.n (λ i l t. or_l (has fresh p i) (has old p i) t),
    )
    go (inr k) = omega (arith, same, leb→le (reply_quorum P) (count both P.n) k)
