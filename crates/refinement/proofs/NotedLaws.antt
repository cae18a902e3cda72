-- What arrives is noted, and at the read's end all that it has noted is what the definitions say. It stands on WayLaws' laws of claims.
use mathlib.Core.Path.{◌≡◌, sym, ◌∙◌}
use mathlib.Core.Bool.{Bool, ◌&&◌, ◌||◌, or_comm}
use mathlib.Core.Logic.{inl, inr}
use Prim.Native.Nat.{ℕ, suc, ◌+◌, ◌<◌}
use native.Mathlib.Omega.{arith}
use lib.Dec.{T, eqb, leb, ltb, eqb→eq, eqb_refl, leb→le, le→leb, lt→ltb}
use Rattle.register.specs.Lists.{any, any_up_to, member}
use Rattle.register.specs.Plan.{Plan, Read, Forgery, read_end}
use Rattle.register.specs.Server.{has}
use Rattle.register.specs.Cluster.{Log, sent_in, cluster}
use Rattle.register.specs.Reading.{same_read, reply_from as repliesFrom, forged_to, noted, noted_by}
use Rattle.register.proofs as register-laws
use Rattle.register.proofs.Logic.{and_l, and_r, and_i, or_e, or_l, or_r, T_iff}
use Rattle.register.proofs.Counting.{any_up_to_e, any_up_to_i}
use Rattle.refinement.specs.Way.{forged_as, reply_from, reply_way, heard_way}
use Rattle.refinement.proofs.WayLaws.{has_sent, has_forged}

module _ (P : Plan) (G : register-laws.Good.Good P) (r : Read) (p i : ℕ) (l : i < P.n) where
  abbrev log : Log
  log = (cluster P (read_end P r)).log

  abbrev arrival : Forgery → ℕ
  arrival x = x.at + P.delay x.at x.from x.to

  -- server i's replies of tick u, and forged ones, that arrive by the read's end
  abbrev in_time : ℕ → Bool
  in_time u = (any (same_read r) (sent_in log u i).reply_to && leb (u + P.delay u i (P.n + r.reader)) (read_end P r)) && member p (sent_in log u i).reply_with

  abbrev is_to : Forgery → Bool
  is_to x = eqb x.to (P.n + r.reader) && (leb r.begun x.at && leb (arrival x) (read_end P r))

  abbrev forged : Forgery → Bool
  forged x = is_to x && (eqb x.pair p && eqb x.from i)

  has-noted : has (noted P log r) p i ≡ any_up_to (read_end P r) in_time || any forged P.forged
  unfolding noted repliesFrom forged_to
  has-noted =
      rw (
        register-laws.Claims.has_append,
        has_sent (λ u k. any (same_read r) (sent_in log u k).reply_to && leb (u + P.delay u k (P.n + r.reader)) (read_end P r)) (λ u k. (sent_in log u k).reply_with) (read_end P r) P.n p i l,
        has_forged is_to p i P.forged,
      )

  -- those under way for tick s
  abbrev way : ℕ → Bool
  way s = reply_way P log (read_end P r) r s p i

  abbrev sent : ℕ → ℕ → Bool
  sent s u = reply_from P log (read_end P r) r u s p i

  abbrev posted : ℕ → Forgery → Bool
  posted s x = leb r.begun x.at && (ltb x.at (read_end P r) && forged_as P s (P.n + r.reader) p i x)

  to : T (any_up_to (suc (read_end P r)) way) → T (any_up_to (read_end P r) in_time || any forged P.forged)
  unfolding reply_way
  to h =
      let (s, ls, w) = any_up_to_e (suc (read_end P r)) way h in
      elim (or_e (any_up_to (read_end P r) (sent s)) (any (posted s) P.forged) (and_r (leb s (read_end P r)) _ w)) [
        | inl a ↦ (let (u, lu, y) = any_up_to_e (read_end P r) (sent s) a in
            let e = eqb→eq (u + P.delay u i (P.n + r.reader)) s (search (and_l, and_r)) in
            let f = le→leb (u + P.delay u i (P.n + r.reader)) (read_end P r) (omega arith) in
            or_l (any_up_to (read_end P r) in_time) _ (any_up_to_i (read_end P r) in_time u lu (search (and_i, and_l, and_r))))
        | inr a ↦ (let (x, ix, y) = register-laws.Lists.any_in (posted s) P.forged a in
            let e = eqb→eq (arrival x) s (search (and_l, and_r)) in
            let f = le→leb (arrival x) (read_end P r) (omega arith) in
            or_r (any_up_to (read_end P r) in_time) _ (register-laws.Lists.in_any forged x P.forged ix (search (and_i, and_l, and_r))))
      ]

  from : T (any_up_to (read_end P r) in_time || any forged P.forged) → T (any_up_to (suc (read_end P r)) way)
  unfolding reply_way
  from h = elim (or_e (any_up_to (read_end P r) in_time) (any forged P.forged) h) [
    | inl a ↦ (let (u, lu, y) = any_up_to_e (read_end P r) in_time a in
        let d : ℕ = u + P.delay u i (P.n + r.reader) in
        let b : T (leb d (read_end P r)) = search (and_l, and_r) in
        let e = leb→le d (read_end P r) b in
        let f = eqb_refl d in
        any_up_to_i (suc (read_end P r)) way d (omega arith) (and_i (leb d (read_end P r)) _ b
        (or_l (any_up_to (read_end P r) (sent d)) _ (any_up_to_i (read_end P r) (sent d) u lu (search (and_i, and_l, and_r))))))
    | inr a ↦ (let (x, ix, y) = register-laws.Lists.any_in forged P.forged a in
        let b : T (leb (arrival x) (read_end P r)) = search (and_l, and_r) in
        let e = leb→le (arrival x) (read_end P r) b in
        let f = eqb_refl (arrival x) in
        let g = lt→ltb x.at (read_end P r) (omega (arith, G.delay_lo x.at x.from x.to)) in
        any_up_to_i (suc (read_end P r)) way (arrival x) (omega arith) (and_i (leb (arrival x) (read_end P r)) _ b
        (or_r (any_up_to (read_end P r) (sent (arrival x))) _ (register-laws.Lists.in_any (posted (arrival x)) x P.forged ix (search (and_i, and_l, and_r))))))
  ]

-- at the end of a read, what it has noted before and what arrives in that tick are what the definitions say
pub heard_end : (P : Plan) → register-laws.Good.Good P → (t : ℕ) (r : Read) (p i : ℕ) → i < P.n → t ≡ read_end P r
    → heard_way P (cluster P t).log t r p i || reply_way P (cluster P t).log t r t p i ≡ has (noted_by P r) p i
unfolding heard_way noted_by any_up_to
heard_end P G t r p i l h =
    rw h (or_comm (heard_way P (cluster P (read_end P r)).log (read_end P r) r p i) _ ∙ (T_iff _ _ (to P G r p i l) (from P G r p i l) ∙ sym (has-noted P G r p i l)))
