-- Judge says yes to all answers of an accepted plan, where every read is served.
-- It stands on what Check accepts and on the answers' bytes.
use mathlib.Core.Path.{◌≡◌, sym, ap, ◌∙◌}
use mathlib.Core.Bool.{Bool, true, ◌&&◌}
use mathlib.Core.Logic.{◌⊎◌, inl, inr}
use mathlib.Core.List.{List}
use Prim.Native.Nat.{ℕ, ◌*◌, ◌<◌}
use native.Mathlib.Omega.{arith}
use lib.Dec.{T, eqb, eqb→eq, eqb_refl}
use lib.ListN.{length}
use Rattle.bits.proofs.Laws.{field_lt}
use Rattle.register.specs.Lists.{In, any, all_up_to}
use Rattle.register.specs.Plan.{Plan, Write, Read, number_of}
use Rattle.register.specs as register-specs
use Rattle.register.specs.Regular.{concurrent, last_finished, allowed}
use Rattle.register.proofs as register-laws
use Rattle.plan.specs as plan-specs
use Rattle.plan.specs.Packed.{plan_of}
use Rattle.plan.proofs as plan-laws
use Rattle.answers.specs.Answers.{answer_size, answers_of}
use Rattle.results.specs.Judge.{read_of, answer_fits, answer_allowed, judge_after, judge_of}
use Rattle.results.proofs.AnswerBytes.{FieldsFit, begin_of, reader_of, pair_of, zero_of, answers_of_length}

-- what the regular register allows is the initial pair or that of a write
pub allowed_cases : (P : Plan) (r : Read) (p : ℕ) → allowed P r p ≡ true → (p ≡ P.initial) ⊎ ((u : Write) × In u P.writes × (u.pair ≡ p))
unfolding allowed
allowed_cases P r p e = go (register-laws.Logic.or_e (eqb p (last_finished P r)) (any written P.writes) (rw e tt))
  where
    written : Write → Bool
    written u = eqb u.pair p && concurrent P r u

    Either : Type 0
    Either = (p ≡ P.initial) ⊎ ((u : Write) × In u P.writes × (u.pair ≡ p))

    go : T (eqb p (last_finished P r)) ⊎ T (any written P.writes) → Either
    go (inl h) =
        let q = eqb→eq p (last_finished P r) h in
        elim (register-laws.Regular.last_cases P r) [ inl e ↦ inl (q ∙ e) | inr (u, i, e, t) ↦ inr (u, i, sym (q ∙ e)) ]
    go (inr h) =
        let (u, i, t) = register-laws.Lists.any_in written P.writes h in
        inr (u, i, eqb→eq u.pair p (register-laws.Logic.and_l (eqb u.pair p) (concurrent P r u) t))

pub initial_number : (w : ℕ) (s : List ℕ) → number_of w (plan_of w s).initial ≡ 0
unfolding plan_of plan-specs.Header.header_of
initial_number w s = register-laws.Stamped.number_stamped w (plan-specs.Header.header_of w s).initial 0 (field_lt s 28 w)

module _ (w : ℕ) (s : List ℕ) (A : plan-laws.Accept.Accepted w s) where
  -- the number of an allowed pair fits its field
  pub allowed_number : (r : Read) (p : ℕ) → allowed (plan_of w s) r p ≡ true → number_of w p < 256
  allowed_number r p e = go (allowed_cases (plan_of w s) r p e)
    where
      go : (p ≡ (plan_of w s).initial) ⊎ ((u : Write) × In u (plan_of w s).writes × (u.pair ≡ p)) → number_of w p < 256
      go (inl q) = omega (arith, ap (number_of w) q, initial_number w s)
      go (inr (u, i, q)) = omega (arith, ap (number_of w) q, plan-laws.AcceptWrites.number_hi w s A.playable u i)

  -- the answer of a served read fits its fields
  pub fits : (r : Read) → In r (plan_of w s).reads → register-specs.Promise.Served (plan_of w s) r → FieldsFit w r (register-specs.Reading.answer_of (plan_of w s) r)
  unfolding register-specs.Reading.count_naming plan_of
  fits r i S =
      let P : Plan = plan_of w s in
      let R = plan-laws.AcceptReads.read_stands w s A.playable r i in
      let most = register-laws.Counting.count_le (λ b. register-specs.Server.has (register-specs.Reading.noted_by P r) (register-specs.Reading.answer_of P r).pair b) P.n in
      record {
        begun_fits = R.begun_below;
        reader_fits = R.reader_below;
        number_fits = allowed_number r (register-specs.Reading.answer_of P r).pair S.regular;
        count_fits = omega (arith, S.counted, most, (plan-laws.Accept.in_range w s A.playable).n_hi);
      }

  -- Judge's yes to all answers, in three tests
  module _ (served : (r : Read) → In r (plan_of w s).reads → register-specs.Promise.Served (plan_of w s) r) where
    abbrev none : Read
    none = record { begun = 0; reader = 0 }

    read-in : (i : ℕ) → i < length (plan_of w s).reads → In (read_of (plan_of w s) i) (plan_of w s).reads
    read-in i l = plan-laws.Tests.get_d_in (plan_of w s).reads i none l

    read_fits : (i : ℕ) → i < length (plan_of w s).reads → FieldsFit w (read_of (plan_of w s) i) (register-specs.Reading.answer_of (plan_of w s) (read_of (plan_of w s) i))
    read_fits i l = fits (read_of (plan_of w s) i) (read-in i l) (served (read_of (plan_of w s) i) (read-in i l))

    all_fit : (i : ℕ) → i < length (plan_of w s).reads → T (answer_fits w s (answers_of w s) i)
    unfolding answer_fits answers_of
    all_fit i l =
        let P : Plan = plan_of w s in
        let r : Read = read_of P i in
        let F = read_fits i l in
        rw (begin_of w P P.reads none i l F, reader_of w P P.reads none i l F, zero_of w P P.reads none i l F)
        (register-laws.Logic.and_i (eqb r.begun r.begun) (eqb r.reader r.reader && eqb 0 0) (eqb_refl r.begun)
        (register-laws.Logic.and_i (eqb r.reader r.reader) (eqb 0 0) (eqb_refl r.reader) tt))

    all-allowed : (i : ℕ) → i < length (plan_of w s).reads → T (answer_allowed w s (answers_of w s) i)
    unfolding answer_allowed answers_of
    all-allowed i l =
        let P : Plan = plan_of w s in
        rw (pair_of w P P.reads none i l (read_fits i l), (served (read_of P i) (read-in i l)).regular) tt

    pub judge_yes : judge_of w s (answers_of w s) ≡ plan-specs.Check.result true
    unfolding judge_of judge_after
    judge_yes =
        let m : ℕ = length (plan_of w s).reads in
        let a : List ℕ = answers_of w s in
        let n : ℕ = answer_size w * m in
        let long : eqb (length a) n ≡ true = register-laws.Logic.T_eq (eqb (length a) n) (rw (answers_of_length w s) (eqb_refl n)) in
        let fit : all_up_to m (answer_fits w s a) ≡ true = register-laws.Logic.T_eq (all_up_to m (answer_fits w s a)) (plan-laws.Tests.all_from m (answer_fits w s a) all_fit) in
        let yes : all_up_to m (answer_allowed w s a) ≡ true = register-laws.Logic.T_eq (all_up_to m (answer_allowed w s a)) (plan-laws.Tests.all_from m (answer_allowed w s a) all-allowed) in
        rw (plan-laws.Accept.accepts w s A, long, fit, yes)
