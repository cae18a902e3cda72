-- What the code chooses is the answer of the read: pairs that are not known have no quorum, since a pair with one is genuine.
-- It stands on the safety of reads (register).
use mathlib.Core.Path.{◌≡◌, refl, sym, ap, ◌∙◌}
use mathlib.Core.{Bool.Bool, Bool.◌&&◌, Logic.◌⊎◌, Logic.inl, Logic.inr}
use mathlib.Core.List.{List, [], ◌∷◌}
use Prim.Native.Nat.{ℕ, zero, suc, ◌≤◌, ◌<◌}
use native.Mathlib.Omega.{arith}
use native.Mathlib.Decide.{dec_le, ℕ_discrete}
use lib.Dec.{T, ltb, leb, leb→le}
use borrow.Author.Tests.{le-leb, lt-leb}
use Rattle.register.specs.Lists.{count, filter}
use Rattle.register.specs.Plan.{Plan, Read, reply_quorum, read_end}
use Rattle.register.specs.Server.{Claim, has, pairs_of}
use Rattle.register.specs.Reading.{Answer, noted_by, count_naming, count_of, best, answer_from, answer_of}
use Rattle.register.proofs as register-laws
use Rattle.register.proofs.Good.{Good}
use Rattle.register.proofs.ReadSafety.{quorum_genuine, answer_from_lem}
use Rattle.tables.specs.Known.{Knows}
use Rattle.limits.proofs.Bits.{count_cut}
use Rattle.std.specs.Prelude.{Option, Some, None}
use Rattle.reading.specs.declared.Choice.{Choice}
use Rattle.reading.specs.Choosing.{highest_of, answer_by}

-- how many servers named pair j
votes : (ℕ → ℕ → Bool) → ℕ → ℕ
votes named j = count (named j) 16

-- the choice: j is the highest pair below m with a quorum, or none has one
record Found (named : ℕ → ℕ → Bool) (reply m j : ℕ) (c : Option Choice) : Type 0 where
  below : j < m
  is : c ≡ Some (record { number = j; count = votes named j })
  enough : reply ≤ votes named j
  top : (k : ℕ) → k < m → reply ≤ votes named k → k ≤ j

record Nothing (named : ℕ → ℕ → Bool) (reply m : ℕ) (c : Option Choice) : Type 0 where
  is : c ≡ None
  none : (k : ℕ) → k < m → reply ≤ votes named k → ⊥

module _ (named : ℕ → ℕ → Bool) (reply : ℕ) where
  abbrev Cases : ℕ → Option Choice → Type 0
  Cases m c = ((j : ℕ) × Found named reply m j c) ⊎ Nothing named reply m c

  choice-more : (m : ℕ) → Cases m (highest_of named reply m) → Cases (suc m) (highest_of named reply (suc m))
  unfolding highest_of votes
  choice-more m ih = elim (dec_le reply (votes named m)) [
    | yes h ↦ inl (m, record { below = omega arith; is = rw (le-leb reply (votes named m) h); enough = h; top = λ k l q. omega arith })
    | no h ↦ (
        let still = lt-leb reply (votes named m) (omega arith) in
        let inner : (k : ℕ) → k < suc m → reply ≤ votes named k → k < m = λ k l q. elim (ℕ_discrete k m) [ yes e ↦ absurd (h (rw e at q)) | no d ↦ omega arith ] in
        elim ih [
          | inl (j, F) ↦ inl (j, record { below = omega (arith, F.below); is = rw still F.is; enough = F.enough; top = λ k l q. F.top k (inner k l q) q })
          | inr N ↦ inr (record { is = rw still N.is; none = λ k l q. N.none k (inner k l q) q })
        ]
        )
  ]

  choice-cases : (m : ℕ) → Cases m (highest_of named reply m)
  unfolding highest_of
  choice-cases zero = inr (record { is = refl; none = λ k l q. absurd (omega arith) })
  choice-cases (suc m) = choice-more m (choice-cases m)

filter_none : (f : ℕ → Bool) (l : List ℕ) → ((p : ℕ) → T (f p) → ⊥) → filter f l ≡ []
unfolding filter
filter_none f [] none = refl
filter_none f (p ∷ l) none = register-laws.Logic.cond_e (λ (x : List ℕ). x ≡ []) (f p) (p ∷ filter f l) (filter f l) (λ t. absurd (none p t)) (λ t. filter_none f l none)

-- no pair has a quorum: there is no answer
no_answer : (P : Plan) (cs : List Claim) → ((p : ℕ) → reply_quorum P ≤ count_naming P cs p → ⊥) → answer_from P cs ≡ record { pair = 0; count = 0 }
unfolding answer_from best
no_answer P cs none = rw (filter_none (λ p. leb (reply_quorum P) (count_naming P cs p)) (pairs_of cs) (λ p t. none p (leb→le (reply_quorum P) (count_naming P cs p) t)))

both_parts : (a : Answer) (p c : ℕ) → a.pair ≡ p → a.count ≡ c → a ≡ record { pair = p; count = c }
both_parts a p c e d = rw (← e, ← d)

module _ (P : Plan) (g : ℕ → ℕ) (m : ℕ) (G : Good P) (K : Knows P g m) (r : Read) where
  -- a pair with a quorum is a known one
  quorum-known : (p : ℕ) → reply_quorum P ≤ count_of P r p → (j : ℕ) × (j < m) × (p ≡ g j)
  quorum-known p h = elim (register-laws.Genuine.genuine_cases P (read_end P r) p (quorum_genuine P G r p h)) [
    | inl e ↦ (0, K.first.0, e ∙ K.first.1)
    | inr (w, i, e, l) ↦ (let k = K.write w i in (k.0, k.1, sym e ∙ k.2))
  ]

  -- the answer, where the sets of servers are the claims noted
  module _ (named : ℕ → ℕ → Bool) (same : (j : ℕ) → j < m → votes named j ≡ count_of P r (g j)) where
    found-answer : (j : ℕ) → Found named (reply_quorum P) m j (highest_of named (reply_quorum P) m) → answer_of P r ≡ record { pair = g j; count = votes named j }
    found-answer j F =
        let a = answer_from_lem P (noted_by P r) (g j) (rw (same j F.below) at F.enough) in
        let q = rw a.1 at a.2 in
        let k = quorum-known (answer_of P r).pair q in
        let up : k.0 ≤ j = F.top k.0 k.1 (rw (same k.0 k.1, ← k.2) q) in
        let down : j ≤ k.0 = elim (dec_le j k.0) [ yes l ↦ l | no l ↦ absurd (omega (arith, a.0, k.2, K.rising k.0 j (omega arith))) ] in
        let e : k.0 ≡ j = omega arith in
        let p : (answer_of P r).pair ≡ g j = k.2 ∙ ap g e in
        both_parts (answer_of P r) (g j) (votes named j) p (a.1 ∙ rw (p, same j F.below))

    answer-chosen : answer_of P r ≡ answer_by g (highest_of named (reply_quorum P) m)
    unfolding answer_by
    answer-chosen = elim (choice-cases named (reply_quorum P) m) [
      | inl (j, F) ↦ rw F.is (found-answer j F)
      | inr N ↦ rw N.is (no_answer P (noted_by P r) (λ p h. let k = quorum-known p h in N.none k.0 k.1 (rw (same k.0 k.1, ← k.2) h)))
    ]

-- the law of the code's answer: by known pair, the servers whose claim of it the read has noted
module _ (P : Plan) (g : ℕ → ℕ) (m : ℕ) (G : Good P) (K : Knows P g m) (r : Read) (named : ℕ → ℕ → Bool)
    (noted : (j i : ℕ) → j < m → named j i ≡ (ltb i P.n && has (noted_by P r) (g j) i)) where
  counted_same : (j : ℕ) → j < m → votes named j ≡ count_of P r (g j)
  unfolding votes count_naming
  counted_same j l =
      register-laws.Counting.count_cong (named j) (λ i. ltb i P.n && has (noted_by P r) (g j) i) 16 (λ i _. noted j i l)
      ∙ count_cut (λ i. has (noted_by P r) (g j) i) P.n 16 K.servers

  pub answered : answer_of P r ≡ answer_by g (highest_of named (reply_quorum P) m)
  answered = answer-chosen P g m G K r named counted_same
