-- Request Four against document 01: no answer is allowed that was not, and one is lost only where a write ends in the tick in which the read begins.
-- It stands on the definitions, and on JustSet for which pair is lost.
use mathlib.Core.Path.{◌≡◌, ◌∙◌, refl, sym}
use mathlib.Core.Bool.{Bool, not, ◌&&◌, ◌||◌}
use mathlib.Core.Logic.{◌⊎◌, inl, inr}
use mathlib.Core.List.{map}
use Prim.Native.Nat.{ℕ, suc, ◌≤◌}
use native.Mathlib.Omega.{arith}
use native.Mathlib.Decide.{dec_le}
use lib.Dec.{T, eqb, eqb→eq, eqb_refl, leb, leb→le, le→leb, ltb→lt, lt→ltb, not_T, T_not}
use Rattle.register.specs.Lists.{any, filter, highest, In}
use Rattle.register.specs.Plan.{Write, Read, Plan, read_end, write_end}
use Rattle.register.specs.Regular.{finished, concurrent, last_finished, allowed}
use Rattle.register.specs.Stricter.{finished01, concurrent01, last_finished01, allowed01, Stricter}
use Rattle.register.proofs.Logic.{and_l, and_r, and_i, or_e, or_l, or_r, test, T_eq, T_iff}
use Rattle.register.proofs.Lists.{in_filter, filter_in, any_in, in_any, in_map, map_in, highest_in, highest_le, highest_all}
use Rattle.register.proofs.Good.{Good}
use Rattle.register.proofs.JustSet.{last_just_set}

module _ (P : Plan) (r : Read) where
  -- What is allowed by either reading of 'finished before'.
  module _ (done : Write → Bool) where
    abbrev last : ℕ
    last = highest P.initial (map (λ (w : Write). w.pair) (filter done P.writes))

    abbrev meant : ℕ → Write → Bool
    meant p w = eqb w.pair p && (not (done w) && leb w.begun (read_end P r))

    abbrev judged : ℕ → Bool
    judged p = eqb p last || any (meant p) P.writes

    abbrev Being : ℕ → Type 0
    Being p = (w : Write) × In w P.writes × (w.pair ≡ p) × T (not (done w)) × (w.begun ≤ read_end P r)

    by_last : (p : ℕ) → p ≡ last → T (judged p)
    by_last p e = or_l (eqb p last) (any (meant p) P.writes) (rw e (eqb_refl last))

    by-write : (p : ℕ) → Being p → T (judged p)
    by-write p (w, i, e, n, l) =
        or_r (eqb p last) (any (meant p) P.writes) (in_any (meant p) w P.writes i
        (and_i (eqb w.pair p) _ (rw e (eqb_refl p)) (and_i (not (done w)) _ n (le→leb w.begun (read_end P r) l))))

    cases : (p : ℕ) → T (judged p) → (p ≡ last) ⊎ Being p
    cases p t = go (or_e (eqb p last) (any (meant p) P.writes) t)
      where
        go : T (eqb p last) ⊎ T (any (meant p) P.writes) → (p ≡ last) ⊎ Being p
        go (inl h) = inl (eqb→eq p last h)
        go (inr h) =
            let (w, i, u) = any_in (meant p) P.writes h in
            let v = and_r (eqb w.pair p) (not (done w) && leb w.begun (read_end P r)) u in
            inr (
              w,
              i,
              eqb→eq w.pair p (and_l (eqb w.pair p) (not (done w) && leb w.begun (read_end P r)) u),
              and_l (not (done w)) (leb w.begun (read_end P r)) v,
              leb→le w.begun (read_end P r) (and_r (not (done w)) (leb w.begun (read_end P r)) v),
            )

    last_of : (last ≡ P.initial) ⊎ ((w : Write) × In w P.writes × (last ≡ w.pair) × T (done w))
    last_of = elim (highest_in P.initial (map (λ (w : Write). w.pair) (filter done P.writes))) [
      | inl e ↦ inl e
      | inr i ↦ (let m = in_map (λ (w : Write). w.pair) _ (filter done P.writes) i in
          let f = in_filter done m.0 P.writes m.1 in
          inr (m.0, f.0, m.2, f.1))
    ]

    no-higher : (w : Write) → In w P.writes → T (done w) → w.pair ≤ last
    no-higher w i t = highest_all P.initial (map (λ (w : Write). w.pair) (filter done P.writes)) w.pair
        (map_in (λ (w : Write). w.pair) w (filter done P.writes) (filter_in done w P.writes i t))

    no_lower : P.initial ≤ last
    no_lower = highest_le P.initial _

  -- The two readings, and where they differ.
  before : Write → Bool
  before = finished01 P r

  today : Write → Bool
  today = finished P r

  allowed-is : (p : ℕ) → allowed P r p ≡ judged today p
  unfolding allowed concurrent last_finished today
  allowed-is p = refl

  allowed01-is : (p : ℕ) → allowed01 P r p ≡ judged before p
  unfolding allowed01 concurrent01 last_finished01 before
  allowed01-is p = refl

  today-by : (w : Write) → T (today w) → write_end P w ≤ r.begun
  unfolding finished today
  today-by w t = leb→le (write_end P w) r.begun t

  before-today : (w : Write) → T (before w) → T (today w)
  unfolding finished finished01 before today
  before-today w t = le→leb (write_end P w) r.begun (omega (arith, ltb→lt (write_end P w) r.begun t))

  -- a write finished today and not before ends in the tick of the read's begin
  just : (w : Write) → T (today w) → T (not (before w)) → write_end P w ≡ r.begun
  unfolding finished01 before
  just w t n = elim (dec_le (suc (write_end P w)) r.begun) [
    | yes l ↦ absurd (T_not (before w) n (lt→ltb (write_end P w) r.begun l))
    | no l ↦ omega (arith, today-by w t)
  ]

  abbrev Ends : Type 0
  Ends = (w : Write) × In w P.writes × (write_end P w ≡ r.begun) × (last today ≡ w.pair)

  -- the last finished pair is the same by both readings, or its write ends so
  lasts : (last today ≡ last before) ⊎ Ends
  lasts = go (last_of today)
    where
      lower : last before ≤ last today
      lower = elim (last_of before) [
        | inl e ↦ omega (arith, no_lower today)
        | inr (w, i, e, t) ↦ omega (arith, no-higher today w i (before-today w t))
      ]

      of-write : (w : Write) → In w P.writes → last today ≡ w.pair → T (today w) → T (before w) ⊎ T (not (before w)) → (last today ≡ last before) ⊎ Ends
      of-write w i e t (inl u) = inl (omega (arith, lower, no-higher before w i u))
      of-write w i e t (inr n) = inr (w, i, just w t n, e)

      go : (last today ≡ P.initial) ⊎ ((w : Write) × In w P.writes × (last today ≡ w.pair) × T (today w)) → (last today ≡ last before) ⊎ Ends
      go (inl e) = inl (omega (arith, lower, no_lower before))
      go (inr (w, i, e, t)) = of-write w i e t (test (before w))

  not_before : (w : Write) → T (not (today w)) → T (not (before w))
  not_before w n = not_T (before w) (λ t. T_not (today w) n (before-today w t))

  just-not : (w : Write) → write_end P w ≡ r.begun → T (not (before w))
  unfolding finished01 before
  just-not w e = not_T (before w) (λ t. omega (arith, ltb→lt (write_end P w) r.begun t))

  kept-judged : (p : ℕ) → T (judged today p) → T (judged before p)
  kept-judged p t = go (cases today p t) lasts
    where
      go : (p ≡ last today) ⊎ Being today p → (last today ≡ last before) ⊎ Ends → T (judged before p)
      go (inr (w, i, e, n, l)) o = by-write before p (w, i, e, not_before w n, l)
      go (inl e) (inl f) = by_last before p (e ∙ f)
      go (inl e) (inr (w, i, f, g)) = by-write before p (w, i, sym (e ∙ g), just-not w f, omega arith)

  -- an answer that was allowed is allowed, or a write ends so: the last finished one, or that of the answer
  lost-judged : (p : ℕ) → T (judged before p)
      → T (judged today p) ⊎ (((p ≡ last before) × Ends) ⊎ ((w : Write) × In w P.writes × (write_end P w ≡ r.begun) × (w.pair ≡ p)))
  lost-judged p t = go (cases before p t) lasts
    where
      Either : Type 0
      Either = T (judged today p) ⊎ (((p ≡ last before) × Ends) ⊎ ((w : Write) × In w P.writes × (write_end P w ≡ r.begun) × (w.pair ≡ p)))

      of-write : (w : Write) → In w P.writes → w.pair ≡ p → T (not (before w)) → w.begun ≤ read_end P r → T (today w) ⊎ T (not (today w)) → Either
      of-write w i e n l (inl u) = inr (inr (w, i, just w u n, e))
      of-write w i e n l (inr m) = inl (by-write today p (w, i, e, m, l))

      go : (p ≡ last before) ⊎ Being before p → (last today ≡ last before) ⊎ Ends → Either
      go (inl e) (inl f) = inl (by_last today p (e ∙ sym f))
      go (inl e) (inr x) = inr (inl (e, x))
      go (inr (w, i, e, n, l)) o = of-write w i e n l (test (today w))

  -- These two hold of every plan.
  pub kept_allowed : (p : ℕ) → T (allowed P r p) → T (allowed01 P r p)
  kept_allowed p t = rw (allowed01-is p) (kept-judged p (rw (allowed-is p) at t))

  pub same_allowed : ((w : Write) → In w P.writes → write_end P w ≡ r.begun → ⊥) → (p : ℕ) → allowed P r p ≡ allowed01 P r p
  same_allowed none p = T_iff (allowed P r p) (allowed01 P r p) (kept_allowed p) (λ t. rw (allowed-is p) (go (lost-judged p (rw (allowed01-is p) at t))))
    where
      go : T (judged today p) ⊎ (((p ≡ last before) × Ends) ⊎ ((w : Write) × In w P.writes × (write_end P w ≡ r.begun) × (w.pair ≡ p))) → T (judged today p)
      go (inl u) = u
      go (inr (inl (e, (w, i, f, g)))) = absurd (none w i f)
      go (inr (inr (w, i, f, e))) = absurd (none w i f)

  -- and this of one whose writes are those of one writer, in order
  module _ (G : Good P) where
    lost-allowed : (p : ℕ) → T (not (allowed P r p)) → T (allowed01 P r p)
        → (p ≡ last_finished01 P r) × ((w : Write) × In w P.writes × (write_end P w ≡ r.begun) × (last_finished P r ≡ w.pair))
    unfolding last_finished01 last_finished before today
    lost-allowed p n t = go (lost-judged p (rw (allowed01-is p) at t))
      where
        no : T (judged today p) → ⊥
        no u = T_not (allowed P r p) n (rw (allowed-is p) u)

        go : T (judged today p) ⊎ (((p ≡ last before) × Ends) ⊎ ((w : Write) × In w P.writes × (write_end P w ≡ r.begun) × (w.pair ≡ p)))
            → (p ≡ last before) × Ends
        go (inl u) = absurd (no u)
        go (inr (inl x)) = x
        go (inr (inr (w, i, f, e))) = absurd (no (by_last today p (sym e ∙ sym (last_just_set P G r w i f))))

    pub stricter : Stricter P r
    stricter = record {
      kept = λ p e. T_eq (allowed01 P r p) (kept_allowed p (rw e tt));
      lost = λ p e f. lost-allowed p (rw e tt) (rw f tt);
      same = same_allowed;
    }
