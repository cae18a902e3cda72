-- Votes under way by the step rules: those for the present tick are all that arrive, a tick adds what is sent in it, and none is under way for
-- longer than the slowest delay. It stands on register's laws of claims and of the log.
use mathlib.Core.Path.{◌≡◌, refl, sym, ◌∙◌, fun_ext}
use mathlib.Core.Bool.{Bool, true, false, not, ◌&&◌, ◌||◌, cond, and-false, or_assoc, or_comm}
use mathlib.Core.List.{List, [], ◌∷◌, map}
use Prim.Native.Nat.{ℕ, suc, ◌+◌, ◌%◌, ◌≤◌, ◌<◌}
use native.Mathlib.Numerals.{add-one}
use native.Mathlib.Omega.{arith}
use native.Mathlib.Decide.{dec_le, ℕ_discrete}
use lib.Dec.{T, eqb, ltb, eqb→eq, eqb_refl, not_T}
use borrow.Author.Tests.{lt-ltb, le-ltb, eq-eqb, ne_eqb, ltb-true}
use Rattle.register.specs.Lists.{any, any_up_to, filter, flat, member}
use Rattle.register.specs.Plan.{Plan, Forgery}
use Rattle.register.specs.Server.{Claim, claim_of, has}
use Rattle.register.specs.Cluster.{Log, sent_in, votes_from, votes_in, forged_in, cluster}
use Rattle.register.proofs.Logic.{and_l, and_r, and_i, T_iff, F_eq}
use Rattle.register.proofs.Counting.{any_up_to_e, any_up_to_i, any_cong, none_up}
use Rattle.register.proofs as register-laws
use Rattle.register.proofs.Claims.{has_nil, has_append, has_claims, has_flat}
use Rattle.calendar.proofs as calendar-laws
use Rattle.refinement.specs.Way.{forged_as, vote_from, vote_way}

-- ---- tests over lists and numbers

-- two tests of i below n are the same if they are for such an i
pub below : (i n : ℕ) (a b : Bool) → (i < n → a ≡ b) → ltb i n && a ≡ ltb i n && b
below i n a b e = calendar-laws.Laws.under (ltb i n) a b (λ h. e (ltb-true i n h))

pub refuted : (b : Bool) → (T b → ⊥) → b ≡ false
refuted b f = F_eq b (not_T b f)

or_left : (a b c : Bool) → a || (b || c) ≡ b || (a || c)
or_left a b c = sym (or_assoc a b c) ∙ rw (or_comm a b) (or_assoc b a c)

-- what is sent now, after what was under way
pub or_turn : (f a c d : Bool) → (f || a) || (c || d) ≡ ((a || c) || f) || d
or_turn f a c d = simp (or_assoc, or_comm, or_left)

-- one i below n passes what only i can pass
any_one : (n i : ℕ) (f : ℕ → Bool) → i < n → any_up_to n (λ k. f k && eqb k i) ≡ f i
any_one n i f l =
    T_iff (any_up_to n (λ k. f k && eqb k i)) (f i)
    (λ h. let (k, b, y) = any_up_to_e n (λ k. f k && eqb k i) h in rw (eqb→eq k i (and_r (f k) (eqb k i) y)) at (and_l (f k) (eqb k i) y))
    (λ h. any_up_to_i n (λ k. f k && eqb k i) i l (and_i (f i) (eqb i i) h (eqb_refl i)))

pub none_any : {A : Type 0} (f : A → Bool) (l : List A) → ((x : A) → f x ≡ false) → any f l ≡ false
unfolding any
none_any f [] e = refl
none_any f (x ∷ l) e = rw (e x, none_any f l e)

pub any_or : {A : Type 0} (f h k : A → Bool) (l : List A) → ((x : A) → f x ≡ h x || k x) → any f l ≡ any h l || any k l
unfolding any
any_or f h k [] e = refl
any_or f h k (x ∷ l) e = rw (e x, any_or f h k l e) (simp (or_assoc, or_left))

-- sent before the next tick: before this one, or in it
pub before_next : (a t : ℕ) (b : Bool) → ltb a (suc t) && b ≡ (ltb a t && b) || (eqb a t && b)
before_next a t b = sym (rw add-one at (calendar-laws.Laws.ltb_more a t b))

-- ---- slots of the calendar

pub slot_is : (t d s : ℕ) → 1 ≤ d → d ≤ 15 → t < s → s ≤ t + 16 → eqb ((t + d) % 16) (s % 16) ≡ eqb (t + d) s
slot_is t d s l h a b = calendar-laws.Spans.own_rows (suc t) (t + d) s (omega arith) (omega arith) a (omega arith)

-- the slot of a later tick is not the present one
pub slot_past : (t s : ℕ) → t < s → s < t + 16 → eqb (s % 16) (t % 16) ≡ false
slot_past t s a b = ne_eqb (s % 16) (t % 16) (λ e. omega arith)

-- ---- claims

-- in the first t ticks: those of tick u and server k, the pairs xs u k, are made if c u k passes
pub has_sent : (c : ℕ → ℕ → Bool) (xs : ℕ → ℕ → List ℕ) (t n p i : ℕ) → i < n
    → has (flat t (λ u. flat n (λ k. cond (c u k) (map (claim_of k) (xs u k)) []))) p i ≡ any_up_to t (λ u. c u i && member p (xs u i))
has_sent c xs t n p i l =
    has_flat t _ p i ∙ any_cong t _ _ (λ u h.
    has_flat n _ p i ∙ (any_cong n _ (λ k. (c u k && member p (xs u k)) && eqb k i) (λ k m. one (c u k) k (xs u k)) ∙ any_one n i (λ k. c u k && member p (xs u k)) l))
  where
    one : (b : Bool) (k : ℕ) (ys : List ℕ) → has (cond b (map (claim_of k) ys) []) p i ≡ (b && member p ys) && eqb k i
    one true k ys = has_claims k p i ys
    one false k ys = has_nil p i

-- those of the forged messages that pass
pub has_forged : (c : Forgery → Bool) (p i : ℕ) (fs : List Forgery)
    → has (map (λ (x : Forgery). claim_of x.from x.pair) (filter c fs)) p i ≡ any (λ x. c x && (eqb x.pair p && eqb x.from i)) fs
unfolding has any filter claim_of
has_forged c p i [] = refl
has_forged c p i (x ∷ fs) = rw (← has_forged c p i fs) (go (c x))
  where
    claims : List Forgery → List Claim
    claims l = map (λ (x : Forgery). claim_of x.from x.pair) l

    go : (b : Bool) → has (claims (cond b (x ∷ filter c fs) (filter c fs))) p i ≡ (b && (eqb x.pair p && eqb x.from i)) || has (claims (filter c fs)) p i
    go true = refl
    go false = refl

-- ---- votes

module _ (P : Plan) (G : register-laws.Good.Good P) where
  -- forged votes that arrive were sent before
  forged-before : (t b p i : ℕ) (x : Forgery)
      → (eqb x.to b && eqb (x.at + P.delay x.at x.from b) t) && (eqb x.pair p && eqb x.from i) ≡ ltb x.at t && forged_as P t b p i x
  forged-before t b p i x = elim (ℕ_discrete x.to b) [
    | yes e ↦ rw (← e, eq-eqb x.to x.to refl) (elim (ℕ_discrete (x.at + P.delay x.at x.from x.to) t) [
      | yes a ↦ rw (lt-ltb x.at t (omega (arith, G.delay_lo x.at x.from x.to)))
      | no d ↦ rw (ne_eqb (x.at + P.delay x.at x.from x.to) t d) (sym (and-false (ltb x.at t)))
    ])
    | no d ↦ rw (ne_eqb x.to b d) (sym (and-false (ltb x.at t)))
  ]

  -- for the present tick, all that arrive
  pub votes_arrive : (t b p i : ℕ) → i < P.n → vote_way P (cluster P t).log t t b p i ≡ has (votes_in P t (cluster P t).log b) p i
  unfolding vote_way votes_in votes_from forged_in
  votes_arrive t b p i l =
      sym (has_append (flat t (λ u. flat P.n (λ k. votes_from P t (cluster P t).log b u k))) _ p i
      ∙ rw (
        has_sent (λ u k. not (eqb k b) && eqb (u + P.delay u k b) t) (λ u k. (sent_in (cluster P t).log u k).votes) t P.n p i l,
        has_forged (λ x. eqb x.to b && eqb (x.at + P.delay x.at x.from b) t) p i P.forged,
        fun_ext (forged-before t b p i),
      ))

  -- a tick adds what is sent in it
  pub votes_next : (t s b p i : ℕ) → i < P.n → vote_way P (cluster P (suc t)).log (suc t) s b p i
      ≡ (vote_way P (cluster P t).log t s b p i || ((not (eqb i b) && eqb (t + P.delay t i b) s) && member p (register-laws.Trace.end P t i).sent.votes))
      || any (λ x. eqb x.at t && forged_as P s b p i x) P.forged
  unfolding vote_way any_up_to
  votes_next t s b p i l =
      rw (
        any_or (λ x. ltb x.at (suc t) && forged_as P s b p i x) (λ x. ltb x.at t && forged_as P s b p i x) (λ x. eqb x.at t && forged_as P s b p i x) P.forged
            (λ x. before_next x.at t (forged_as P s b p i x)),
        any_cong t (λ u. vote_from P (cluster P (suc t)).log (suc t) u s b p i) (λ u. vote_from P (cluster P t).log t u s b p i) (λ u h. rw (register-laws.Trace.row_kept P t u i h)),
        register-laws.Trace.sent_row P (suc t) t i l (omega arith),
      )
      (or_turn ((not (eqb i b) && eqb (t + P.delay t i b) s) && member p (register-laws.Trace.end P t i).sent.votes) (any_up_to t (λ u. vote_from P (cluster P t).log t u s b p i)) _ _)

  -- none is under way for longer than the slowest delay
  pub votes_far : (t s b p i : ℕ) (log : Log) → t + P.delta ≤ s → vote_way P log t s b p i ≡ false
  unfolding vote_way
  votes_far t s b p i log h =
      rw (none_up t (λ u. vote_from P log t u s b p i) (λ u l. rw (ne_eqb (u + P.delay u i b) s (λ e. omega (arith, G.delay_hi u i b)), and-false (not (eqb i b)))))
      (none_any (λ x. ltb x.at t && forged_as P s b p i x) P.forged late)
    where
      late : (x : Forgery) → ltb x.at t && forged_as P s b p i x ≡ false
      late x = elim (dec_le t x.at) [
        | yes q ↦ rw (le-ltb x.at t q)
        | no q ↦ rw (lt-ltb x.at t (omega arith), ne_eqb (x.at + P.delay x.at x.from x.to) s (λ e. omega (arith, G.delay_hi x.at x.from x.to))) (and-false (eqb x.to b))
      ]
