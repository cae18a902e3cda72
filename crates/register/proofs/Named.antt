-- Enough servers name a pair to a read that every correct server keeps delta after the read's begin: those in neither of the two placements
-- in force between. It stands on Replies; Enough gives the count.
use mathlib.Core.Path.{◌≡◌, ap, ◌∙◌}
use mathlib.Core.Bool.{not, ◌&&◌}
use Prim.Native.Nat.{ℕ, suc, ◌+◌, ◌*◌, ◌-◌, ◌/◌, ◌≤◌, ◌<◌}
use native.Mathlib.Nat.{div-mul-le_self}
use native.Mathlib.Omega.{arith}
use native.Mathlib.Decide.{dec_le}
use lib.Dec.{T, leb, eqb, eqb_refl, le→leb, T_not}
use Rattle.register.specs.Lists.{flat, any, In}
use Rattle.register.specs.Plan.{Read, Plan, reply_quorum, read_end}
use Rattle.register.specs.Server.{is_correct, claim_of, has}
use Rattle.register.specs.Cluster.{Log, sent_in, cluster}
use Rattle.register.specs.Reading.{same_read, reply_from, forged_to, noted, noted_by, count_naming, count_of}
use Rattle.register.proofs.Logic.{and_i, cond_t}
use Rattle.register.proofs.Lists.{in_left, in_any, flat_in, map_in}
use Rattle.register.proofs as register-laws
use Rattle.register.proofs.Good.{Good, Enough}
use Rattle.register.proofs.Placements.{near, outside, FreeSince, many_outside, period_pos, period_is, period_near, period_mono}
use Rattle.register.proofs.Trace.{mid, end, sent_row}
use Rattle.register.proofs.Stages.{end_replies}
use Rattle.register.proofs.Replies.{arrival_of, arrival_hi, has_replied}

module _ (P : Plan) (G : Good P) (r : Read) where
  -- the placement in force in the last tick before
  abbrev at_reply : ℕ
  at_reply = (r.begun + P.delta - 1) / P.period

  -- a server outside that placement and the one before is not faulty since the read's begin
  free-since-begun : (b : ℕ) → T (not (near P at_reply 1 b)) → FreeSince P b r.begun (r.begun + P.delta)
  free-since-begun b h x lo hi = outside P at_reply 1 b (x / P.period) h (period_mono P G x (r.begun + P.delta - 1) (omega arith))
      (period_near P G at_reply x 1 (omega (arith, div-mul-le_self (r.begun + P.delta - 1) P.period, G.delta_period)))

  -- and its cure, if it had one, is over delta later
  correct-then : (b : ℕ) → b < P.n → T (not (near P at_reply 1 b)) → T (is_correct (mid P (r.begun + P.delta) b).server.status)
  correct-then b l h =
      let d = G.delta_pos in
      let e : r.begun + P.delta ≡ suc (r.begun + P.delta - 1) = omega arith in
      rw e (register-laws.Statuses.placed_mid_correct P G (r.begun + P.delta - 1) b l
      (free-since-begun b h (r.begun + P.delta - 1) (omega arith) (omega arith)) cure)
    where
      c : ℕ
      c = at_reply

      cure : 1 ≤ c → T (P.placed (c - 1) b) → c * P.period + P.delta ≤ suc (r.begun + P.delta - 1)
      cure c1 k = go (dec_le (c * P.period) r.begun)
        where
          go : Dec (c * P.period ≤ r.begun) → c * P.period + P.delta ≤ suc (r.begun + P.delta - 1)
          go (yes y) = omega arith
          go (no n) =
              let d = period_pos P G in
              let m = div-mul-le_self (r.begun + P.delta - 1) P.period in
              let e : c ≡ suc (c - 1) = omega arith in
              let e' : c * P.period ≡ (c - 1) * P.period + P.period = ap (λ (z : ℕ). z * P.period) e ∙ omega arith in
              let q : (c * P.period - 1) / P.period ≡ c - 1 = period_is P G (c - 1) (c * P.period - 1) (omega arith) (omega arith) in
              absurd (T_not (P.placed (c - 1) b) (rw q at (free-since-begun b h (c * P.period - 1) (omega arith) (omega arith))) k)

  -- a reply sent by delta after the begin is noted
  reply-noted : (b g p : ℕ) → b < P.n → g ≤ r.begun + P.delta → In r (mid P g b).sent.reply_to → In p (mid P g b).sent.reply_with
      → In (claim_of b p) (noted_by P r)
  unfolding noted_by noted reply_from same_read
  reply-noted b g p l hi asked names =
      in_left (claim_of b p) (flat until (λ u. flat P.n (λ i. reply_from P log r u i))) (forged_to P r)
      (flat_in (claim_of b p) until (λ u. flat P.n (λ i. reply_from P log r u i)) g later
      (flat_in (claim_of b p) P.n (λ i. reply_from P log r g i) b l here))
    where
      until : ℕ
      until = read_end P r

      log : Log
      log = (cluster P until).log

      later : g < until
      later = omega (arith, G.delta_pos)

      sent : sent_in log g b ≡ (end P g b).sent
      sent = sent_row P until g b l later

      asked' : In r (sent_in log g b).reply_to
      asked' = rw (sent, (end_replies P g b).0) asked

      names' : In p (sent_in log g b).reply_with
      names' = rw (sent, (end_replies P g b).1) names

      counts : T (any (same_read r) (sent_in log g b).reply_to && leb (g + P.delay g b (P.n + r.reader)) until)
      counts = and_i (any (same_read r) (sent_in log g b).reply_to) (leb (g + P.delay g b (P.n + r.reader)) until)
          (in_any (same_read r) r (sent_in log g b).reply_to asked'
          (and_i (eqb r.begun r.begun) (eqb r.reader r.reader) (eqb_refl r.begun) (eqb_refl r.reader)))
          (le→leb (g + P.delay g b (P.n + r.reader)) until (omega (arith, G.delay_hi g b (P.n + r.reader))))

      here : In (claim_of b p) (reply_from P log r g b)
      here = rw (cond_t (any (same_read r) (sent_in log g b).reply_to && leb (g + P.delay g b (P.n + r.reader)) until) _ _ counts)
          (map_in (claim_of b) p (sent_in log g b).reply_with names')

  module _ (ri : In r P.reads) (p : ℕ) (all : register-laws.Recovery.AllKeep P p (r.begun + P.delta - 1)) where
    names : (b : ℕ) → b < P.n → T (not (near P at_reply 1 b)) → T (has (noted_by P r) p b)
    names b l h =
        let d = G.delta_pos in
        let a : ℕ = arrival_of P r b in
        let e1 : r.begun + P.delta ≡ a + (r.begun + P.delta - a) = omega (arith, arrival_hi P G r ri b l) in
        let e2 : r.begun + P.delta ≡ suc (r.begun + P.delta - 1) = omega arith in
        let s = correct-then b l h in
        let k : In p (mid P (r.begun + P.delta) b).server.kept = rw e2 (all b l (rw (← e2) s)) in
        let s' = rw e1 at s in
        let k' = rw e1 at k in
        let (g, lo, hi, asked, with-p) = has_replied P G r ri b l (free-since-begun b h) p (r.begun + P.delta - a) (omega arith) s' k' in
        register-laws.Claims.in_has (noted_by P r) p b (reply-noted b g p l (omega arith) asked with-p)

    pub many_name : Enough P → reply_quorum P ≤ count_of P r p
    unfolding count_naming
    many_name E =
        let enough : reply_quorum P + (1 + 1) * P.f ≤ P.n = omega (arith, E) in
        omega (arith, many_outside P G at_reply 1, register-laws.Counting.count_mono (λ b. not (near P at_reply 1 b)) (λ i. has (noted_by P r) p i) P.n names)
