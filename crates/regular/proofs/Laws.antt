-- What the regular register allows, by number: the last finished pair, and a later one whose write began by the read's end; and which write shows
-- whether one is concurrent.
-- What 'finished' means enters by the register's two laws alone. It stands on those and on the tables of a plan's writes.
use mathlib.Core.Path.{◌≡◌, refl, sym, ap, ◌∙◌}
use mathlib.Core.Bool.{Bool, true, false, not, ◌&&◌}
use mathlib.Core.Logic.{◌⊎◌, inl, inr}
use mathlib.Core.List.{List}
use Prim.Native.Nat.{ℕ, zero, suc, ◌^◌, ◌≤◌, ◌<◌}
use native.Mathlib.Omega.{arith}
use native.Mathlib.Decide.{dec_le, ℕ_discrete}
use lib.Dec.{T, eqb, leb, eqb→eq, leb→le, le→leb, eqb_refl, T_not, not_T}
use lib.ListN.{length, get_or}
use Rattle.register.specs.Lists.{In, any}
use Rattle.register.specs.Plan.{Plan, Read, Write, stamped, value_of, number_of, read_end}
use Rattle.register.specs.Regular.{finished, concurrent, last_finished, allowed}
use Rattle.register.proofs.Logic.{and_l, and_r, and_i, or_e, or_l, or_r, T_eq, F_eq, T_iff}
use Rattle.register.proofs.Lists.{any_in, in_any}
use Rattle.register.proofs.Regular.{finished_by, unfinished_from, last_cases, unfinished_above}
use Rattle.plan.proofs.Tests.{get_d_in, in_get_d}
use Rattle.register.proofs.Stamped.{value_stamped, number_stamped, stamped_rises}
use Rattle.tables.specs.Operations.{no_write}
use Rattle.regular.specs.Tables.{Tables, Last}

-- the pair of a number, with a value of w bits, and its write
abbrev pub pair_at : ℕ → List ℕ → ℕ → ℕ
pair_at w values j = stamped w (get_or values j 0) j

abbrev pub write_at : ℕ → List ℕ → List ℕ → ℕ → Write
write_at w values begun j = record { begun = get_or begun j 0; pair = pair_at w values j }

-- the tables of a plan's writes, and the last one that finished before a read
pub record Sought (w : ℕ) (P : Plan) (x : Read) (values begun : List ℕ) (m last : ℕ) : Type 0 where
  pub tables : Tables w P values begun m
  pub found : Last (λ j. finished P x (write_at w values begun j)) m last

module _ {w : ℕ} {P : Plan} {x : Read} {values begun : List ℕ} {m last : ℕ} (K : Sought w P x values begun m last) where
  write-in : (j : ℕ) → 0 < j → j < m → In (write_at w values begun j) P.writes
  write-in zero l h = absurd (omega arith)
  write-in (suc j) l h =
      let k : j < length P.writes = omega (arith, K.tables.written.count) in
      rw (K.tables.written.each j k) at (get_d_in P.writes j no_write k)

  in-write : (u : Write) → In u P.writes → (j : ℕ) × (0 < j) × (j < m) × (u ≡ write_at w values begun j)
  in-write u i =
      let (j, l, e) = in_get_d P.writes u no_write i in
      (suc j, omega arith, omega (arith, K.tables.written.count), e ∙ K.tables.written.each j l)

  begun-rises : (i j : ℕ) → 0 < i → i < j → j < m → get_or begun i 0 < get_or begun j 0
  begun-rises zero j p l h = absurd (omega arith)
  begun-rises (suc i) zero p l h = absurd (omega arith)
  begun-rises (suc i) (suc j) p l h =
      let b : j < length P.writes = omega (arith, K.tables.written.count) in
      let a : i < length P.writes = omega arith in
      rw (K.tables.written.each i a, K.tables.written.each j b) at (K.tables.rising i j (omega arith) b)

  pair-rises : (i j : ℕ) → i < j → pair_at w values i < pair_at w values j
  pair-rises i j l = stamped_rises w (get_or values i 0) (get_or values j 0) i j (K.tables.written.small i) l

  -- a number and its value are those of the pair
  same-pair : (j v number : ℕ) → v < 2 ^ w → stamped w v number ≡ pair_at w values j → (number ≡ j) × (v ≡ get_or values j 0)
  same-pair j v number l e = (
    sym (number_stamped w v number l) ∙ ap (number_of w) e ∙ number_stamped w (get_or values j 0) j (K.tables.written.small j),
    sym (value_stamped w v number l) ∙ ap (value_of w) e ∙ value_stamped w (get_or values j 0) j (K.tables.written.small j),
  )

  -- what has not finished is later than the last that has
  after_last : (j : ℕ) → 0 < j → j < m → T (not (finished P x (write_at w values begun j))) → last < j
  after_last j p l n = go (dec_le (suc last) j) (ℕ_discrete j last)
    where
      go : Dec (last < j) → Dec (j ≡ last) → last < j
      go (yes h) d = h
      go (no h) (yes e) = absurd (T_not (finished P x (write_at w values begun j)) n (rw e (K.found.passing (omega arith))))
      go (no h) (no d) =
          let f = finished_by P x (write_at w values begun last) (K.found.passing (omega arith)) in
          let u = unfinished_from P x (write_at w values begun j) n in
          let r = begun-rises j last p (omega arith) K.found.below in
          absurd (omega arith)

  not-later : (j : ℕ) → j < m → T (finished P x (write_at w values begun j)) → j ≤ last
  not-later j l t = elim (dec_le j last) [
    | yes h ↦ h
    | no h ↦ absurd (T_not (finished P x (write_at w values begun j)) (K.found.failing j (omega arith) l) t)
  ]

  no-higher : 0 < last → last_finished P x < pair_at w values last → ⊥
  no-higher p l =
      T_not (finished P x (write_at w values begun last)) (unfinished_above P x (write_at w values begun last) (write-in last p K.found.below) l) (K.found.passing p)

  pub last_pair : last_finished P x ≡ pair_at w values last
  last_pair = go (last_cases P x)
    where
      Either : Type 0
      Either = (last_finished P x ≡ P.initial) ⊎ ((u : Write) × In u P.writes × (last_finished P x ≡ u.pair) × T (finished P x u))

      by_number : (j : ℕ) → j ≤ last → last_finished P x ≡ pair_at w values j → Dec (j ≡ last) → last_finished P x ≡ pair_at w values last
      by_number j l e (yes d) = e ∙ ap (pair_at w values) d
      by_number j l e (no d) = absurd (no-higher (omega arith) (omega (arith, pair-rises j last (omega arith))))

      go : Either → last_finished P x ≡ pair_at w values last
      go (inl e) = by_number 0 (omega arith) (e ∙ K.tables.initial) (ℕ_discrete 0 last)
      go (inr (u, i, e, t)) =
          let (j, p, l, z) = in-write u i in
          by_number j (not-later j l (rw z at t)) (e ∙ ap (λ (q : Write). q.pair) z) (ℕ_discrete j last)

  -- an allowed pair is the last finished one, or a later one whose write began by the read's end
  pub record AllowedAs (p j : ℕ) : Type 0 where
    pub below : j < m
    pub same : p ≡ pair_at w values j
    pub cases : (j ≡ last) ⊎ ((last < j) × (get_or begun j 0 ≤ read_end P x))

  allowed_number : (p : ℕ) → T (allowed P x p) → (j : ℕ) × AllowedAs p j
  unfolding allowed concurrent
  allowed_number p t = go (or_e (eqb p (last_finished P x)) (any meant P.writes) t)
    where
      meant : Write → Bool
      meant u = eqb u.pair p && concurrent P x u

      go : T (eqb p (last_finished P x)) ⊎ T (any meant P.writes) → (j : ℕ) × AllowedAs p j
      go (inl h) = (last, record { below = K.found.below; same = eqb→eq p (last_finished P x) h ∙ last_pair; cases = inl refl })
      go (inr h) =
          let (u, i, t) = any_in meant P.writes h in
          let (j, z, l, y) = in-write u i in
          let e : T (eqb u.pair p) = and_l (eqb u.pair p) (concurrent P x u) t in
          let c : T (concurrent P x u) = and_r (eqb u.pair p) (concurrent P x u) t in
          let n : T (not (finished P x u)) = and_l (not (finished P x u)) (leb u.begun (read_end P x)) c in
          let b : T (leb u.begun (read_end P x)) = and_r (not (finished P x u)) (leb u.begun (read_end P x)) c in (
            j,
            record {
              below = l;
              same = sym (eqb→eq u.pair p e) ∙ ap (λ (q : Write). q.pair) y;
              cases = inr (after_last j z l (rw y at n), leb→le (get_or begun j 0) (read_end P x) (rw y at b));
            },
          )

  later-allowed : (j : ℕ) → last < j → j < m → get_or begun j 0 ≤ read_end P x → T (allowed P x (pair_at w values j))
  unfolding allowed concurrent
  later-allowed j l h b =
      let u : Write = write_at w values begun j in
      or_r (eqb (pair_at w values j) (last_finished P x)) _
      (in_any (λ u. eqb u.pair (pair_at w values j) && concurrent P x u) u P.writes (write-in j (omega arith) h)
      (and_i (eqb (pair_at w values j) (pair_at w values j)) (concurrent P x u) (eqb_refl (pair_at w values j))
      (and_i (not (finished P x u)) (leb (get_or begun j 0) (read_end P x)) (K.found.failing j l h) (le→leb (get_or begun j 0) (read_end P x) b))))

  -- no pair is allowed by a number without these
  refused-unless : (v number : ℕ) → v < 2 ^ w → (AllowedAs (stamped w v number) number → ⊥) → allowed P x (stamped w v number) ≡ false
  refused-unless v number l f = F_eq (allowed P x p) (not_T (allowed P x p) (λ t. none (allowed_number p t)))
    where
      p : ℕ
      p = stamped w v number

      none : (j : ℕ) × AllowedAs p j → ⊥
      none (j, S) = f (rw (← (same-pair j v number l S.same).0) at S)

  -- the cases of a value and a number: no such number, not its value, the last finished, an earlier one, a later one
  module _ (v number : ℕ) where
    pub unknown_number : v < 2 ^ w → m ≤ number → allowed P x (stamped w v number) ≡ false
    unknown_number l h = refused-unless v number l (λ S. omega (arith, S.below))

    pub other_value : v < 2 ^ w → (get_or values number 0 ≡ v → ⊥) → allowed P x (stamped w v number) ≡ false
    other_value l n = refused-unless v number l (λ S. n (sym (same-pair number v number l S.same).1))

    pub is_last : get_or values number 0 ≡ v → number ≡ last → allowed P x (stamped w v number) ≡ true
    unfolding allowed
    is_last e d =
        let q : stamped w v number ≡ last_finished P x = rw (← e, d) (sym last_pair) in
        T_eq (allowed P x (stamped w v number))
        (or_l (eqb (stamped w v number) (last_finished P x)) _ (rw q (eqb_refl (last_finished P x))))

    pub too_early : get_or values number 0 ≡ v → number < last → allowed P x (stamped w v number) ≡ false
    too_early e l = refused-unless v number (rw e at (K.tables.written.small number))
        (λ S. elim S.cases [ inl d ↦ omega arith | inr h ↦ omega arith ])

    pub later_by_end : get_or values number 0 ≡ v → last < number → number < m
        → allowed P x (stamped w v number) ≡ leb (get_or begun number 0) (read_end P x)
    later_by_end e l h = rw (← e) (T_iff (allowed P x p) inside to (λ t. later-allowed number l h (leb→le (get_or begun number 0) (read_end P x) t)))
      where
        p : ℕ
        p = pair_at w values number

        inside : Bool
        inside = leb (get_or begun number 0) (read_end P x)

        by : (j : ℕ) × AllowedAs p j → get_or begun number 0 ≤ read_end P x
        by (j, S) = elim (rw (← (same-pair j (get_or values number 0) number (K.tables.written.small number) S.same).0) at S.cases) [
          | inl d ↦ absurd (omega arith)
          | inr b ↦ b.1
        ]

        to : T (allowed P x p) → T inside
        to t = le→leb (get_or begun number 0) (read_end P x) (by (allowed_number p t))

  -- Some write is concurrent exactly where the first one behind the last finished one began by the read's end.
  concurrent-number : T (any (concurrent P x) P.writes) → (j : ℕ) × (last < j) × (j < m) × (get_or begun j 0 ≤ read_end P x)
  unfolding concurrent
  concurrent-number t =
      let (u, i, c) = any_in (concurrent P x) P.writes t in
      let (j, z, l, y) = in-write u i in
      let n : T (not (finished P x u)) = and_l (not (finished P x u)) (leb u.begun (read_end P x)) c in
      let b : T (leb u.begun (read_end P x)) = and_r (not (finished P x u)) (leb u.begun (read_end P x)) c in
      (j, after_last j z l (rw y at n), l, leb→le (get_or begun j 0) (read_end P x) (rw y at b))

  pub none_concurrent : m ≤ suc last → any (concurrent P x) P.writes ≡ false
  none_concurrent h = F_eq some (not_T some (λ t. none (concurrent-number t)))
    where
      some : Bool
      some = any (concurrent P x) P.writes

      none : (j : ℕ) × (last < j) × (j < m) × (get_or begun j 0 ≤ read_end P x) → ⊥
      none (j, l, k, b) = omega arith

  pub next_concurrent : suc last < m → any (concurrent P x) P.writes ≡ leb (get_or begun (suc last) 0) (read_end P x)
  unfolding concurrent
  next_concurrent h = T_iff (any (concurrent P x) P.writes) inside (λ t. le→leb next (read_end P x) (by (concurrent-number t))) from
    where
      next : ℕ
      next = get_or begun (suc last) 0

      inside : Bool
      inside = leb next (read_end P x)

      first : (j : ℕ) → last < j → j < m → get_or begun j 0 ≤ read_end P x → Dec (j ≡ suc last) → next ≤ read_end P x
      first j l k b (yes e) = rw e at b
      first j l k b (no d) = omega (arith, begun-rises (suc last) j (omega arith) (omega arith) k)

      by : (j : ℕ) × (last < j) × (j < m) × (get_or begun j 0 ≤ read_end P x) → next ≤ read_end P x
      by (j, l, k, b) = first j l k b (ℕ_discrete j (suc last))

      from : T inside → T (any (concurrent P x) P.writes)
      from t =
          let u : Write = write_at w values begun (suc last) in
          in_any (concurrent P x) u P.writes (write-in (suc last) (omega arith) h)
          (and_i (not (finished P x u)) inside (K.found.failing (suc last) (omega arith) h) t)
