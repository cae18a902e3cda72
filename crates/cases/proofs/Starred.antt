-- The starred cases hold, and those of document 02: one test that is computed over a whole table, and a law that turns it into each row.
use mathlib.Core.Path.{◌≡◌, refl, ap, ap₂}
use mathlib.Core.Bool.{Bool, true, false, ◌&&◌, beq}
use mathlib.Core.Logic.{inl, inr}
use mathlib.Core.List.{List, [], ◌∷◌}
use Prim.Native.Nat.{ℕ, suc}
use native.Mathlib.Omega.{arith}
use lib.{Dec.T, Dec.eqb, Dec.eqb→eq, ListN.length}
use Rattle.bits.specs.Layout.{records}
use Rattle.register.specs.{Cluster.cluster, Cluster.server_of, Lists.In, Lists.same_list, Plan.Plan, Plan.number_of, Plan.value_of, Reading.Answer, Reading.answer_of}
use Rattle.register.proofs.{Logic.and_l, Logic.and_r, Lists.same_list_eq}
use Rattle.plan.specs.{Buffer.Buffered, Buffer.into_buffer, Check.Outcome, Check.check_of, Check.check_in, Check.refused, Check.result, Form.width_of, Header.header_of, Header.k_in, Packed.plan_of}
use Rattle.answers.specs.Answers.{answers_of}
use Rattle.results.specs.{Judge.judge_of, Judge.read_of, Look.Condition, Look.Shown, Look.Stamped, Look.is_correct, Look.is_cured, Look.is_faulty, Look.shown_by}
use Rattle.lines.specs.Text.{text_of}
use Rattle.lists.specs.Lists.{lists_of, plan_bits, packed_plan}
use Rattle.carrying.specs.Carrying.{carried_plan, values_fit, carry_tests, carry_after, carry_of}
use Rattle.cases.specs.Starred as S
use Rattle.cases.specs.FormTwo as F
use Rattle.cases.proofs.Opened.{opened}

-- the definitions that a row of form two computes with besides
carrying : ℕ
unfolding opened check_in records lists_of plan_bits packed_plan into_buffer carried_plan values_fit carry_tests carry_after carry_of
carrying = 0

opened_two : ℕ
unfolding carrying F.one_read_two F.start_most F.start_most_two F.start_wide F.write_most F.write_most_two F.write_wide F.forged_wide F.form_two_rows
opened_two = 0

-- Tests for equality, each with the law that it is one.
verdict_same : (x y : Bool) → T (beq x y) → x ≡ y
verdict_same true true h = refl
verdict_same true false h = absurd h
verdict_same false true h = absurd h
verdict_same false false h = refl

module _ {A : Type 0} (same : A → A → Bool) (by : (x y : A) → T (same x y) → x ≡ y) where
  same_outcome : Outcome A → Outcome A → Bool
  same_outcome (refused i) (refused j) = eqb i j
  same_outcome (refused i) (result n) = false
  same_outcome (result m) (refused j) = false
  same_outcome (result m) (result n) = same m n

  outcome-same : (x y : Outcome A) → T (same_outcome x y) → x ≡ y
  unfolding same_outcome
  outcome-same (refused i) (refused j) h = ap refused (eqb→eq i j h)
  outcome-same (refused i) (result n) h = absurd h
  outcome-same (result m) (refused j) h = absurd h
  outcome-same (result m) (result n) h = ap result (by m n h)

condition_number : Condition → ℕ
condition_number is_faulty = 0
condition_number is_cured = 1
condition_number is_correct = 2

condition_same : (x y : Condition) → condition_number x ≡ condition_number y → x ≡ y
unfolding condition_number
condition_same is_faulty is_faulty h = refl
condition_same is_faulty is_cured h = absurd (omega arith)
condition_same is_faulty is_correct h = absurd (omega arith)
condition_same is_cured is_faulty h = absurd (omega arith)
condition_same is_cured is_cured h = refl
condition_same is_cured is_correct h = absurd (omega arith)
condition_same is_correct is_faulty h = absurd (omega arith)
condition_same is_correct is_cured h = absurd (omega arith)
condition_same is_correct is_correct h = refl

same_pairs : List Stamped → List Stamped → Bool
same_pairs [] [] = true
same_pairs [] (y ∷ ys) = false
same_pairs (x ∷ xs) [] = false
same_pairs (x ∷ xs) (y ∷ ys) = eqb x.value y.value && (eqb x.number y.number && same_pairs xs ys)

pairs_same : (xs ys : List Stamped) → T (same_pairs xs ys) → xs ≡ ys
unfolding same_pairs
pairs_same [] [] h = refl
pairs_same [] (y ∷ ys) h = absurd h
pairs_same (x ∷ xs) [] h = absurd h
pairs_same (x ∷ xs) (y ∷ ys) h =
    let e : x.value ≡ y.value = eqb→eq x.value y.value (and_l (eqb x.value y.value) _ h) in
    let k = and_r (eqb x.value y.value) _ h in
    let d : x.number ≡ y.number = eqb→eq x.number y.number (and_l (eqb x.number y.number) _ k) in
    let r = pairs_same xs ys (and_r (eqb x.number y.number) _ k) in
    ap₂ (λ (z : Stamped) (zs : List Stamped). z ∷ zs) (ap₂ (λ (v m : ℕ). let z : Stamped = record { value = v; number = m } in z) e d) r

shown_same : (x y : Shown) → T (eqb (condition_number x.condition) (condition_number y.condition) && same_pairs x.pairs y.pairs) → x ≡ y
shown_same x y h =
    let c = condition_same x.condition y.condition (eqb→eq _ (condition_number y.condition) (and_l (eqb (condition_number x.condition) (condition_number y.condition)) _ h)) in
    let p = pairs_same x.pairs y.pairs (and_r (eqb (condition_number x.condition) (condition_number y.condition)) _ h) in
    ap₂ (λ (d : Condition) (q : List Stamped). let z : Shown = record { condition = d; pairs = q } in z) c p

same_buffered : Buffered → Buffered → Bool
same_buffered x y = same_outcome eqb eqb→eq x.outcome y.outcome && same_list x.out y.out

buffered_same : (x y : Buffered) → T (same_buffered x y) → x ≡ y
unfolding same_buffered
buffered_same x y h =
    let e = outcome-same eqb eqb→eq x.outcome y.outcome (and_l (same_outcome eqb eqb→eq x.outcome y.outcome) _ h) in
    let d = same_list_eq x.out y.out (and_r (same_outcome eqb eqb→eq x.outcome y.outcome) _ h) in
    ap₂ (λ (o : Outcome ℕ) (bytes : List ℕ). let z : Buffered = record { outcome = o; out = bytes } in z) e d

-- the test of a row
passes : ℕ → S.Row → Bool
passes w (S.has_length s n) = eqb (length s) n
passes w (S.checks s o) = same_outcome eqb eqb→eq (check_of w s) o
passes w (S.has_k s k) = eqb (k_in (header_of w s)) k
passes w (S.writes_bytes s bytes) = same_list (answers_of w s) bytes
passes w (S.prints s text) = same_list (text_of w s) text
passes w (S.answers s value number count) =
    let P : Plan = plan_of w s in
    let a : Answer = answer_of P (read_of P 0) in
    eqb (value_of w a.pair) value && (eqb (number_of w a.pair) number && eqb a.count count)
passes w (S.shows s b t shown) =
    let x : Shown = shown_by w (server_of (cluster (plan_of w s) (suc t)) b) in
    eqb (condition_number x.condition) (condition_number shown.condition) && same_pairs x.pairs shown.pairs
passes w (S.judges s a o) = same_outcome beq verdict_same (judge_of w s a) o
passes w (S.checks_in form s o) = same_outcome eqb eqb→eq (check_in form s) o
passes w (S.carries from to s out p) = same_buffered (carry_of (width_of from) (width_of to) s out) p

-- a row that passes holds
row_holds : (w : ℕ) (r : S.Row) → T (passes w r) → S.Holds w r
unfolding passes S.Holds
row_holds w (S.has_length s n) h = eqb→eq _ n h
row_holds w (S.checks s o) h = outcome-same eqb eqb→eq _ o h
row_holds w (S.has_k s k) h = eqb→eq _ k h
row_holds w (S.writes_bytes s bytes) h = same_list_eq _ bytes h
row_holds w (S.prints s text) h = same_list_eq _ text h
row_holds w (S.answers s value number count) h =
    let P : Plan = plan_of w s in
    let a : Answer = answer_of P (read_of P 0) in
    let k = and_r (eqb (value_of w a.pair) value) _ h in
    let j = and_r (eqb (number_of w a.pair) number) _ k in
    (eqb→eq _ value (and_l (eqb (value_of w a.pair) value) _ h), eqb→eq _ number (and_l (eqb (number_of w a.pair) number) _ k), eqb→eq _ count j)
row_holds w (S.shows s b t shown) h = shown_same (shown_by w (server_of (cluster (plan_of w s) (suc t)) b)) shown h
row_holds w (S.judges s a o) h = outcome-same beq verdict_same _ o h
row_holds w (S.checks_in form s o) h = outcome-same eqb eqb→eq _ o h
row_holds w (S.carries from to s out p) h = buffered_same _ p h

-- all rows pass, by computation
all_pass : ℕ → List S.Row → Bool
all_pass w [] = true
all_pass w (r ∷ rs) = passes w r && all_pass w rs

starred_pass : T (all_pass S.one_width S.starred)
unfolding opened same_outcome condition_number same_pairs passes all_pass
starred_pass = tt

ended_as_begun_pass : T (all_pass S.one_width S.ended_as_begun)
unfolding opened same_outcome condition_number same_pairs passes all_pass
ended_as_begun_pass = tt

-- and those of form two
form_two_pass : T (all_pass S.two_width F.form_two_rows)
unfolding opened_two same_outcome same_buffered passes all_pass
form_two_pass = tt

each : (w : ℕ) (rs : List S.Row) → T (all_pass w rs) → (r : S.Row) → In r rs → S.Holds w r
unfolding all_pass
each w [] h r i = absurd i
each w (x ∷ rs) h r (inl e) = rw e (row_holds w x (and_l (passes w x) (all_pass w rs) h))
each w (x ∷ rs) h r (inr i) = each w rs (and_r (passes w x) (all_pass w rs) h) r i

-- every starred case holds
pub starred_holds : (r : S.Row) → In r S.starred → S.Holds S.one_width r
starred_holds = each S.one_width S.starred starred_pass

-- so do those of a read that begins as a write ends
pub ended_as_begun_holds : (r : S.Row) → In r S.ended_as_begun → S.Holds S.one_width r
ended_as_begun_holds = each S.one_width S.ended_as_begun ended_as_begun_pass

-- and those of form two
pub form_two_holds : (r : S.Row) → In r F.form_two_rows → S.Holds S.two_width r
form_two_holds = each S.two_width F.form_two_rows form_two_pass
