-- The requests of a tick of the code are those of the plan: what begins in it is under way after it, what arrived is not.
-- It stands on Tables, Feeding and the laws of requests.
use mathlib.Core.{Path.◌≡◌, Path.sym, Path.ap, Path.subst, Path.◌∙◌, List.List}
use mathlib.Core.Bool.{Bool, false, not, ◌&&◌, and-false, or-false}
use Prim.Native.Nat.{ℕ, suc, ◌+◌, ◌%◌, ◌≤◌, ◌<◌}
use native.Mathlib.{Nat.add-zero, Omega.arith, Decide.dec_le, Decide.ℕ_discrete}
use lib.{Dec.T, Dec.eqb, Dec.leb, Dec.ltb, Dec.eqb→eq, Dec.eqb_refl, Dec.leb→le, Dec.le→leb, ListN.get_or}
use borrow.Author.Tests.{lt-ltb, le-ltb, eq-eqb, ne_eqb}
use Rattle.register.specs.Plan.{Read}
use Rattle.register.proofs.{Logic.T_iff, Logic.and_l, Logic.and_r, Logic.and_i, Counting.any_up_to_e, Counting.any_up_to_i, Lists.any_in, Lists.in_any}
use Rattle.plan.{specs.Parts.is_link, specs.Header.header_of, specs.Packed.plan_of, proofs.AcceptGood.good, proofs.AcceptGood.delay_range, proofs.AcceptReads.read_stands}
use Rattle.calendar.proofs.Spans.{own_rows}
use Rattle.tables.specs.Links.{link_delay}
use Rattle.requests.specs.Requests.{reached_by, Asked}
use Rattle.refinement.{specs.Requests.read_reaches, specs.Requests.Requested, specs.Requests.write_begins, specs.Requests.read_begins, proofs.RequestLaws.requested_next, proofs.RequestLaws.same_arrival}
use Rattle.script.specs as script-specs
use Rattle.script.specs.Script.{width_in, Decoded}
use Rattle.script.proofs as script-laws
use Rattle.tables.proofs as tables-laws
use Rattle.requests.specs.Asking.{asked_by, asked_between, begins, WroteOn}
use Rattle.reading.specs.Reading.{Until, read_at}
use Rattle.ticking.proofs as ticking-laws

module _ (s : List ℕ) (r : script-specs.declared.Script.Script) (R : Decoded s r) (t : ℕ) (below : t < r.shape.ticks) where
  -- the delay of a request is the plan's, and of 16 ticks each has its own rows
  delay_same : (p b : ℕ) → p ≤ (header_of (width_in r) s).readers → b < (plan_of (width_in r) s).n → link_delay s r.links t (r.links.n + p) b ≡ (plan_of (width_in r) s).delay t ((plan_of (width_in r) s).n + p) b
  unfolding plan_of is_link
  delay_same p b h l =
      subst (λ n. link_delay s r.links t (n + p) b ≡ (plan_of (width_in r) s).delay t ((plan_of (width_in r) s).n + p) b) (sym R.scripted.links.n)
      (tables-laws.Placing.link_delay_lem (width_in r) s R.playable r.links R.scripted.links t ((header_of (width_in r) s).n + p) b
      (omega (arith, script-laws.Feeding.ticks_same s r R)) (omega arith) (omega arith)
      (rw (le-ltb ((header_of (width_in r) s).n + p) (header_of (width_in r) s).n (omega arith), lt-ltb b (header_of (width_in r) s).n l) tt))

  reaches : (p u b : ℕ) → p ≤ (header_of (width_in r) s).readers → b < (plan_of (width_in r) s).n → t < u → u ≤ t + 16
      → (q : ℕ) → asked_by s r.links r.links.n t p u q b ≡ eqb q p && eqb (t + (plan_of (width_in r) s).delay t ((plan_of (width_in r) s).n + p) b) u
  unfolding asked_by
  reaches p u b h l lo hi q =
      let d = delay_range (width_in r) s R.playable t ((plan_of (width_in r) s).n + p) b in
      rw (lt-ltb b r.links.n (omega (arith, ticking-laws.Tables.links_same s r R)), delay_same p b h l, own_rows (suc t) (t + (plan_of (width_in r) s).delay t ((plan_of (width_in r) s).n + p) b) u (omega (arith, d.0)) (omega (arith, d.1, (script-laws.Feeding.range s r R).delta_hi)) lo (omega arith))

  -- ---- the write

  module _ (number : ℕ) (latest : script-specs.Inputs.LatestWrite r.writes.begun r.writes.known.m t number) where
    abbrev next : Bool
    next = begins r.writes.begun r.writes.known.m t number

    pub written_next : (number₁ : ℕ) (a b : List ℕ) → WroteOn s r.links r.links.n t r.writes.begun r.writes.known.m number number₁ a b
        → script-specs.Inputs.LatestWrite r.writes.begun r.writes.known.m (suc t) number₁
    written_next number₁ a b W =
        let on = script-laws.Knowing.latest_next (width_in r) s R.playable r.writes.known r.writes.begun R.scripted.writes t number latest in
        elim (dec_le r.writes.known.m (suc number)) [
          | yes l ↦ rw (W.next, le-ltb (suc number) r.writes.known.m l) (on (λ h e. omega arith))
          | no l ↦ elim (ℕ_discrete (get_or r.writes.begun (suc number) 0) t) [
            | yes e ↦ rw (W.next, lt-ltb (suc number) r.writes.known.m (omega arith), eq-eqb _ t e)
                (script-laws.Knowing.latest_begun (width_in r) s R.playable r.writes.known r.writes.begun R.scripted.writes t number (omega arith) e)
            | no d ↦ rw (W.next, lt-ltb (suc number) r.writes.known.m (omega arith), ne_eqb _ t d) (on (λ h e. d e))
          ]
        ]

    write-now : (u b : ℕ) → t < u → u ≤ t + 16 → b < (plan_of (width_in r) s).n → next && asked_by s r.links r.links.n t 0 u 0 b ≡ write_begins (plan_of (width_in r) s) t u b
    write-now u b lo hi l =
        rw (reaches 0 u b (omega arith) l lo hi 0, add-zero (plan_of (width_in r) s).n)
        (sym (script-laws.Knowing.write_begins_lem (width_in r) s R.playable r.writes.known r.writes.begun R.scripted.writes t u b number latest))

    no_write : (u x b : ℕ) → 1 ≤ x → next && asked_by s r.links r.links.n t 0 u x b ≡ false
    unfolding asked_by
    no_write u x b h = rw (ne_eqb x 0 (λ e. omega arith), and-false (ltb b r.links.n), and-false next)

    -- ---- the reads

    module _ (k k' : ℕ) (U : Until r.reads.begun r.reads.m 0 t k) (N : Until r.reads.begun r.reads.m 0 (t + 1) k') (h : k ≤ k') where
      abbrev asks : ℕ → ℕ → ℕ → Bool
      asks = asked_between s r.links r.links.n t r.reads.reader k k'

      reader-few : (i : ℕ) → i < r.reads.m → get_or r.reads.reader i 0 ≤ (header_of (width_in r) s).readers
      reader-few i l = (read_stands (width_in r) s R.playable (read_at r.reads i) (ticking-laws.Tables.listed s r R i l)).reader_hi

      -- the writer does not read
      no_read : (u b : ℕ) → asks u 0 b ≡ false
      unfolding asked_between asked_by
      no_read u b = T_iff _ false (λ y.
          let (i, l, z) = any_up_to_e k' (λ i. leb k i && asked_by s r.links r.links.n t (get_or r.reads.reader i 0) u 0 b) y in
          let e = eqb→eq 0 (get_or r.reads.reader i 0) (search (and_l, and_r)) in
          absurd (omega (arith, e, (ticking-laws.Tables.reader_range s r R i (omega (arith, N.few))).0))) (λ y. absurd y)

      read-now : (u x b : ℕ) → t < u → u ≤ t + 16 → b < (plan_of (width_in r) s).n → asks u x b ≡ read_begins (plan_of (width_in r) s) t x u b
      unfolding asked_between read_begins
      read-now u x b lo hi l = T_iff _ _
          (λ y.
          let (i, li, z) = any_up_to_e k' (λ i. leb k i && asked_by s r.links r.links.n t (get_or r.reads.reader i 0) u x b) y in
          let m : i < r.reads.m = omega (arith, N.few) in
          let after = leb→le k i (search and_l) in
          let now : get_or r.reads.begun i 0 ≡ t = omega (arith, ticking-laws.Tables.not_before s r R t k i U after m, N.below i (omega arith) li) in
          let w = subst T (reaches (get_or r.reads.reader i 0) u b (reader-few i m) l lo hi x) (and_r (leb k i) _ z) in
          let e : x ≡ get_or r.reads.reader i 0 = eqb→eq x (get_or r.reads.reader i 0) (search and_l) in
          in_any (λ (q : Read). eqb q.begun t && read_reaches (plan_of (width_in r) s) x u b q) (read_at r.reads i) (plan_of (width_in r) s).reads (ticking-laws.Tables.listed s r R i m)
          (and_i (eqb (get_or r.reads.begun i 0) t) _ (rw now (eqb_refl t))
          (and_i (eqb (get_or r.reads.reader i 0) x) _ (subst (λ (y : ℕ). T (eqb (get_or r.reads.reader i 0) y)) (sym e) (eqb_refl (get_or r.reads.reader i 0)))
          (same_arrival (plan_of (width_in r) s) b u (get_or r.reads.begun i 0) t x (get_or r.reads.reader i 0) now e (and_r (eqb x (get_or r.reads.reader i 0)) _ w)))))
          (λ y.
          let (q, iq, z) = any_in (λ (q : Read). eqb q.begun t && read_reaches (plan_of (width_in r) s) x u b q) (plan_of (width_in r) s).reads y in
          let (i, m, same) = ticking-laws.Tables.in_table s r R q iq in
          let now : q.begun ≡ t = eqb→eq q.begun t (search and_l) in
          let w = and_r (eqb q.begun t) _ z in
          let eb : get_or r.reads.begun i 0 ≡ t = sym (ap (λ (y : Read). y.begun) same) ∙ now in
          let er : get_or r.reads.reader i 0 ≡ x = sym (ap (λ (y : Read). y.reader) same) ∙ eqb→eq q.reader x (search and_l) in
          let after : k ≤ i = elim (dec_le k i) [ yes a ↦ a | no a ↦ absurd (omega (arith, U.below i (omega arith) (omega arith))) ] in
          let early : i < k' = elim (dec_le k' i) [ yes a ↦ absurd (omega (arith, ticking-laws.Tables.not_before s r R (t + 1) k' i N a m)) | no a ↦ omega arith ] in
          let hits = same_arrival (plan_of (width_in r) s) b u t q.begun (get_or r.reads.reader i 0) x (sym now) er (and_r (eqb q.reader x) _ w) in
          any_up_to_i k' (λ i. leb k i && asked_by s r.links r.links.n t (get_or r.reads.reader i 0) u x b) i early
          (and_i (leb k i) _ (le→leb k i after) (subst T (sym (reaches (get_or r.reads.reader i 0) u b (reader-few i m) l lo hi x))
          (and_i (eqb x (get_or r.reads.reader i 0)) _ (subst (λ (y : ℕ). T (eqb x y)) (sym er) (eqb_refl x)) hits))))

      -- ---- all together

      pub requested_after : (number₁ : ℕ) (work middle after : List ℕ) → Requested (plan_of (width_in r) s) t work
          → WroteOn s r.links r.links.n t r.writes.begun r.writes.known.m number number₁ work middle → Asked middle after asks → Requested (plan_of (width_in r) s) (suc t) after
      requested_after number₁ work middle after Q W A =
          requested_next (plan_of (width_in r) s) (good (width_in r) s R.playable) (ticking-laws.Tables.knows s r R).slow t work after Q
          (λ u b lo hi l. A.requests u 0 b (omega arith) ∙ (rw (W.requests u 0 b (omega arith), no_read u b, write-now u b lo hi l) (or-false _)))
          (λ u x b lo hi one four l. A.requests u x b (omega arith) ∙ (rw (W.requests u x b (omega arith), no_write u x b one, read-now u x b lo hi l, or-false (not (eqb (u % 16) (t % 16)) && reached_by work u x b))))
