-- A pair that a store need not take in stays so, and a server that has taken in every pair with a quorum stays so: at the start, and through all
-- stages of a tick. It stands on StageLaws and on register's laws of counting.
use mathlib.Core.Path.{◌≡◌, refl, sym, ap, ◌∙◌, fun_ext}
use mathlib.Core.Bool.{Bool, true, false, ◌&&◌, ◌||◌, cond, or-false, or-true, and-false, false≢true}
use mathlib.Core.{Logic.◌⊎◌, Logic.inl, Logic.inr, List.List, List.[], List.◌∷◌}
use Prim.Native.Nat.{ℕ, zero, suc, ◌≤◌, ◌<◌}
use native.Mathlib.{Omega.arith, Decide.dec_le, Decide.ℕ_discrete}
use lib.{Dec.T, Dec.leb, Dec.ltb, Seq.take-take}
use lib.ListN.{length, take, length-take}
use borrow.Author.Tests.{lt-ltb, le-ltb, le-leb, lt-leb, eq-eqb, ne_eqb, leb-true}
use Rattle.register.specs.Lists.{count}
use Rattle.register.specs.Server.{faulty, is_faulty, cured_at, insert}
use Rattle.register.proofs as register-laws
use Rattle.register.proofs.Logic.{test, T_eq, F_eq, cond_e}
use Rattle.plan.specs.Packed.{store_depth}
use Rattle.calendar.specs.Layout.{rows, low_of, high_of, sender}
use Rattle.limits.specs.Limits.{places}
use Rattle.calendar.specs.View.{Spanned}
use Rattle.tables.specs.declared.Rules.{Rules}
use Rattle.serving.specs.Stored.{Plain, Both}
use Rattle.tallies.specs.Tallies.{no_votes, joined}
use Rattle.serving.specs.Stages.{blank_as, reset_at, turned, in_span, taken, voting, with_write, delivered, delivered_of, stage_one, stage_two, moved_on, stage_four, stages_of}
use Rattle.serving.specs.Settled.{Settled}
use Rattle.serving.proofs.StageLaws.{write_kept}

-- ---- putting a pair in

-- over the first pair, at it, and under it
put_over : (p x : ℕ) (l : List ℕ) → x < p → insert p (x ∷ l) ≡ p ∷ x ∷ l
unfolding insert
put_over p x l h = rw (lt-ltb x p h)

put_at_lem : (p : ℕ) (l : List ℕ) → insert p (p ∷ l) ≡ p ∷ l
unfolding insert
put_at_lem p l = rw (le-ltb p p (omega arith), eq-eqb p p refl)

put_under : (p x : ℕ) (l : List ℕ) → p < x → insert p (x ∷ l) ≡ x ∷ insert p l
unfolding insert
put_under p x l h = rw (le-ltb x p (omega arith), ne_eqb x p (λ e. omega arith))

-- one of the three is the case
module _ (Q : Type 0) (p x : ℕ) where
  three : (x < p → Q) → (x ≡ p → Q) → (p < x → Q) → Q
  three over at under = elim (dec_le p x) [ no d ↦ over (omega arith) | yes d ↦ elim (ℕ_discrete x p) [ yes e ↦ at e | no e ↦ under (omega arith) ] ]

-- what is cut off does not matter
pub put_cut : (n p : ℕ) (l : List ℕ) → take n (insert p (take n l)) ≡ take n (insert p l)
unfolding insert
put_cut zero p l = refl
put_cut (suc n) p [] = refl
put_cut (suc n) p (x ∷ l) = three _ p x
    (λ d. rw (put_over p x l d, put_over p x (take n l) d) (ap (λ (k : List ℕ). p ∷ k) (take-take n (suc n) (x ∷ l) (omega arith))))
    (λ e. rw (e, put_at_lem p l, put_at_lem p (take n l)) (ap (λ (k : List ℕ). p ∷ k) (take-take n n l (omega arith))))
    (λ d. rw (put_under p x l d, put_under p x (take n l) d, put_cut n p l))

put_twice : (p : ℕ) (l : List ℕ) → insert p (insert p l) ≡ insert p l
unfolding insert
put_twice p [] = put_at_lem p []
put_twice p (x ∷ l) = three _ p x
    (λ d. rw (put_over p x l d) (put_at_lem p (x ∷ l)))
    (λ e. rw (e, put_at_lem p l) (put_at_lem p l))
    (λ d. rw (put_under p x l d, put_under p x (insert p l) d, put_twice p l))

-- two pairs in either order
put_lower : (p q : ℕ) (l : List ℕ) → p < q → insert p (insert q l) ≡ insert q (insert p l)
unfolding insert
put_lower p q [] h = put_under p q [] h ∙ sym (put_over q p [] h)
put_lower p q (x ∷ l) h = three _ q x
    (λ d. rw (put_over q x l d, put_under p q (x ∷ l) h) (three _ p x
    (λ z. rw (put_over p x l z, put_over q p (x ∷ l) h))
    (λ e. rw (e, put_at_lem p l, put_over q p l h))
    (λ z. rw (put_under p x l z, put_over q x (insert p l) d))))
    (λ e. rw (e, put_at_lem q l, put_under p q l h, put_at_lem q (insert p l)))
    (λ d. rw (put_under q x l d, put_under p x (insert q l) (omega arith), put_under p x l (omega arith), put_under q x (insert p l) d, put_lower p q l h))

put_turn : (p q : ℕ) (l : List ℕ) → insert p (insert q l) ≡ insert q (insert p l)
put_turn p q l = three _ p q (λ d. sym (put_lower q p l d)) (λ e. rw e) (λ d. put_lower p q l d)

-- ---- a pair that a store need not take in stays so

-- putting it in changes nothing
abbrev pub Kept : ℕ → List ℕ → Type 0
Kept p l = take store_depth (insert p l) ≡ l

abbrev put : Bool → ℕ → List ℕ → List ℕ
put b q l = cond b (take store_depth (insert q l)) l

put_in : (p : ℕ) (l : List ℕ) → Kept p (take store_depth (insert p l))
put_in p l = put_cut store_depth p (insert p l) ∙ rw (put_twice p l)

put_keeps : (b : Bool) (p q : ℕ) (l : List ℕ) → Kept p l → Kept p (put b q l)
put_keeps true p q l w = rw (put_cut store_depth p (insert q l), put_turn p q l, ← put_cut store_depth q (insert p l), w)
put_keeps false p q l w = w

put_few : (b : Bool) (q : ℕ) (l : List ℕ) → length l ≤ store_depth → length (put b q l) ≤ store_depth
put_few true q l h = omega (arith, length-take store_depth (insert q l))
put_few false q l h = h

put_same : (b : Bool) (p : ℕ) (l : List ℕ) → (T b → Kept p l) → put b p l ≡ l
put_same b p l w = cond_e (λ (k : List ℕ). k ≡ l) b _ _ w (λ f. refl)

-- ---- taking in by number

taken_few : (c : ℕ → Bool) (m : ℕ) (l : List ℕ) → length l ≤ store_depth → length (taken c m l) ≤ store_depth
unfolding taken
taken_few c zero l h = h
taken_few c (suc j) l h = put_few (c j) j (taken c j l) (taken_few c j l h)

taken_keeps : (c : ℕ → Bool) (m p : ℕ) (l : List ℕ) → Kept p l → Kept p (taken c m l)
unfolding taken
taken_keeps c zero p l w = w
taken_keeps c (suc m) p l w = put_keeps (c m) p m (taken c m l) (taken_keeps c m p l w)

taken_kept : (c : ℕ → Bool) (m : ℕ) (l : List ℕ) (j : ℕ) → j < m → c j ≡ true → Kept j (taken c m l)
unfolding taken
taken_kept c zero l j h e = absurd (omega arith)
taken_kept c (suc m) l j h e = elim (ℕ_discrete j m) [
  | yes d ↦ rw (← d, e) (put_in j (taken c j l))
  | no d ↦ put_keeps (c m) j m (taken c m l) (taken_kept c m l j (omega arith) e)
]

-- whether a pair is taken in that the store need not take in does not matter
taken_alike : (c d : ℕ → Bool) (m : ℕ) (l : List ℕ) → ((j : ℕ) → j < m → Kept j l ⊎ (c j ≡ d j)) → taken c m l ≡ taken d m l
unfolding taken
taken_alike c d zero l e = refl
taken_alike c d (suc m) l e = rw (taken_alike c d m l (λ j a. e j (omega arith))) (elim (e m (omega arith)) [
  | inl n ↦ (let w = taken_keeps d m m l n in put_same (c m) m (taken d m l) (λ t. w) ∙ sym (put_same (d m) m (taken d m l) (λ t. w)))
  | inr n ↦ rw n
])

-- what was settled is taken in to no effect
pub taken_none : (c : ℕ → Bool) (m : ℕ) (l : List ℕ) → ((j : ℕ) → j < m → c j ≡ true → Kept j l) → taken c m l ≡ l
unfolding taken
taken_none c zero l h = refl
taken_none c (suc m) l h = rw (taken_none c m l (λ j a. h j (omega arith))) (put_same (c m) m l (λ t. h m (omega arith) (T_eq _ t)))

-- ---- only the pairs that got votes

-- of a settled server the pairs outside the span of its row of the calendar are taken in to no effect
module _ (m e r w : ℕ) (work : List ℕ) (row : ℕ) (s : Plain) (K : Settled m e r s) (few : m ≤ places) (l : row < rows) (S : Spanned work) where
  abbrev in_row : ℕ → Bool
  in_row j = in_span (low_of work row) (high_of work row) j

  abbrev voted : ℕ → Bool
  voted j = voting e r (joined m s.fresh (sender work row)) (joined m s.recent (sender work row)) j

  silent-outside : (votes : ℕ → ℕ → Bool) (j : ℕ) → j < m → in_row j ≡ false → joined m votes (sender work row) j ≡ votes j
  silent-outside votes j h out = fun_ext (λ i. elim (test (sender work row j i)) [
    | inl d ↦ absurd (let z = S.within row j i l (omega arith) (T_eq _ d) in false≢true (sym out ∙ rw (le-leb (low_of work row) j z.0, lt-ltb j (high_of work row) z.1)))
    | inr d ↦ rw (F_eq (sender work row j i) d, and-false (ltb j m)) (or-false (votes j i))
  ])

  pub span_enough : taken (λ j. in_row j && voted j) m (with_write m w s).kept ≡ taken voted m (with_write m w s).kept
  span_enough = rw (write_kept m w s) (taken_alike (λ j. in_row j && voted j) voted m _ go)
    where
      go : (j : ℕ) → j < m → Kept j (put (ltb w m) w s.kept) ⊎ (in_row j && voted j ≡ voted j)
      go j h = elim (test (in_row j)) [
        | inl d ↦ inr (rw (T_eq (in_row j) d))
        | inr d ↦ elim (test (voted j)) [
          | inl v ↦ inl (put_keeps (ltb w m) j w s.kept (K.same j h (rw (← silent-outside s.fresh j h (F_eq _ d), ← silent-outside s.recent j h (F_eq _ d)) (T_eq _ v))))
          | inr v ↦ inr (rw (F_eq (voted j) v) (and-false (in_row j)))
        ]
      ]

-- ---- the stages

module _ (m e r : ℕ) (he : 1 ≤ e) (hr : 1 ≤ r) where
  abbrev Fine : Plain → Type 0
  Fine s = Settled m e r s

  -- no votes, no quorum
  pub unvoted_settled : (s : Plain) → length s.kept ≤ store_depth → s.fresh ≡ no_votes → s.recent ≡ no_votes → Fine s
  unvoted_settled s h f o = record {
    few = h;
    same = λ j l v. absurd (false≢true (rw (f, o, register-laws.Counting.count_none 16, lt-leb e 0 he, lt-leb r 0 hr) at v));
    present = λ j i q. absurd (false≢true (rw f at q));
  }

  delivered-settled : (w : ℕ) (got : ℕ → ℕ → Bool) (asks live : ℕ → Bool) (s : Plain) → Fine s → Fine (delivered m e r w got asks live s).server
  unfolding delivered delivered_of
  delivered-settled w got asks live s S = record {
    few = taken_few _ m (with_write m w s).kept (rw (write_kept m w s) (put_few (ltb w m) w s.kept S.few));
    same = λ j l v. taken_kept (voting e r (joined m s.fresh got) (joined m s.recent got)) m (with_write m w s).kept j l v;
    present = λ j i q. more (s.fresh j i) (s.recent j i) (ltb j m && got j i) (S.present j i) q;
  }
    where
      more : (a b c : Bool) → (a ≡ true → b ≡ true) → a || c ≡ true → b || c ≡ true
      more true b c h q = rw (h refl)
      more false true c h q = refl
      more false false c h q = q

  one-settled : (w : ℕ) (got : ℕ → ℕ → Bool) (asks live : ℕ → Bool) (s : Plain) → Fine s → Fine (stage_one m e r w got asks live s).server
  unfolding stage_one
  one-settled w got asks live s S = cond_e (λ (o : Both). Fine o.server) (is_faulty s.status) _ _ (λ t. S) (λ f. delivered-settled w got asks live s S)

  two-settled : (delta t : ℕ) (o : Both) → Fine o.server → Fine (stage_two delta t o).server
  unfolding stage_two
  two-settled delta t o S = cond_e (λ (x : Both). Fine x.server) (cured_at delta t o.server.status) _ _ (λ y. record { few = S.few; same = S.same; present = S.present }) (λ f. S)

  turned-settled : (two : Bool) (s : Plain) → Fine s → Fine (turned two s)
  turned-settled false s S = unvoted_settled (turned false s) S.few refl refl
  turned-settled true s S = record { few = S.few; same = λ j l v. S.same j l (before j v); present = λ j i q. absurd (false≢true q) }
    where
      before : (j : ℕ) → voting e r no_votes s.fresh j ≡ true → voting e r s.fresh s.recent j ≡ true
      before j v =
          let q : leb r (count (s.fresh j) 16) ≡ true = rw (register-laws.Counting.count_none 16, lt-leb e 0 he) at v in
          let more = register-laws.Counting.count_mono (s.fresh j) (s.recent j) 16 (λ i l t. rw (S.present j i (T_eq _ t)) tt) in
          rw (le-leb r (count (s.recent j) 16) (omega (arith, leb-true r (count (s.fresh j) 16) q, more))) (or-true (leb e (count (s.fresh j) 16)))

  moved-settled : (two h : Bool) (t : ℕ) (s : Plain) → Fine s → Fine (moved_on two h t s)
  unfolding moved_on
  moved-settled two true t s S = unvoted_settled (blank_as faulty) (omega arith) refl refl
  moved-settled two false t s S =
      cond_e Fine (is_faulty s.status) (reset_at t) (turned two s) (λ y. unvoted_settled (reset_at t) (omega arith) refl refl) (λ f. turned-settled two s S)

-- all stages of a tick
pub stages_settled : (m : ℕ) (rules : Rules) (w : ℕ) (got : ℕ → ℕ → Bool) (asks live : ℕ → Bool) (moving h : Bool) (t : ℕ) (s : Plain) → 1 ≤ rules.echo → 1 ≤ rules.reply
    → Settled m rules.echo rules.reply s → Settled m rules.echo rules.reply (stages_of m rules w got asks live moving h t s).server
unfolding stages_of stage_four
stages_settled m rules w got asks live moving h t s he hr S =
    let fine : Both → Type 0 = λ o. Settled m rules.echo rules.reply o.server in
    let second = two-settled m rules.echo rules.reply he hr rules.delta t _ (one-settled m rules.echo rules.reply he hr w got asks live s S) in
    cond_e fine moving _ _ (λ y. moved-settled m rules.echo rules.reply he hr rules.two h t _ second) (λ f. second)
