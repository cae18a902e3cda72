-- Check accepts the longest plan, and it has exactly the most bytes and the most reads.
-- It stands on the fields of the plan and on what is computed of its lists.
use mathlib.Core.Path.{◌≡◌, refl, ap, ◌∙◌}
use mathlib.Core.Bool.{Bool, true, false, not, ◌&&◌, ◌||◌, cond, or-true}
use mathlib.Core.List.{List}
use Prim.Native.Nat.{ℕ, suc, ◌+◌, ◌*◌, ◌-◌, ◌/◌, ◌%◌, ◌^◌, ◌≤◌, ◌<◌}
use native.Mathlib.{Nat.div-one, Nat.mul-one, Nat.mul-le-mul_right, Decide.ℕ_discrete, Omega.arith}
use lib.{Arith.digits_div, Arith.digits_mod, Dec.leb, Dec.ltb, Dec.eqb, ListN.length, ListN.get_or, Pow.pow_pos, Pow.pow-add}
use borrow.Author.Tests.{lt-ltb, le-leb, eq-eqb, ne_eqb}
use Rattle.bits.specs.{Field.field_of, Fill.bytes_for, Layout.numbers_at}
use Rattle.bits.proofs.Laws.{field_zero, field_split, field_inner}
use Rattle.register.specs.Lists.{one_if, all_up_to}
use Rattle.register.proofs as register-laws
use Rattle.plan.specs.{Widths.forgery_widths, Form.is_form, Form.width_of, Header.header_bits, Header.forgery_bits, Header.bit_length, Header.moves, Header.placement_at, Header.operation_at, Header.forgery_at, Parts.Operation, Parts.operation_from, Parts.forgery_from, Parts.in_placement, Parts.operation_of, Parts.operations_of, Parts.forgery_of, Parts.delay_of, Parts.is_link, Check.result, Check.check_of, Check.check_in, Check.end_of, Check.placement_stands, Check.operation_rises, Check.operation_waits, Check.operation_stands, Check.forgery_rises, Check.forgery_stands, Check.delay_stands, Check.placements_stand, Check.operations_stand, Check.forgeries_stand, Check.delays_stand, Check.final_bits_zero}
use Rattle.plan.specs as plan-specs
use Rattle.plan.proofs.{Laws.all_at, Laws.all_from, Laws.all_same, Final.bytes_rounded, Forms.form_known, Forms.by_form}
use Rattle.plan.proofs as plan-laws
use Rattle.longest.specs.Longest.{forgery_numbers, longest_plan, begun_at, party_of, delay_in}
use Rattle.longest.proofs.Parts as parts
use Rattle.longest.proofs.Passes as passes
use Rattle.longest.proofs.Passes.{header, operation, key}

-- a tick and a receiver as one number, with k behind them
joined : (t r k : ℕ) → t * (16 * (32 * k)) + (0 * (32 * k) + ((r + 1) * k + 0)) ≡ (t * 512 + (r + 1)) * k
joined t r k = omega arith

times_lt : (a b k : ℕ) → a < b → 0 < k → a * k < b * k
times_lt a b k h p = omega (arith, mul-le-mul_right {m = suc a} {n = b} k h)

-- a delay of 1 on a link, else 0
delay_stands_lem : (b : Bool) → cond b (leb 1 (one_if b) && leb (one_if b) 1) (eqb (one_if b) 0) ≡ true
delay_stands_lem true = refl
delay_stands_lem false = refl

module _ (w : ℕ) where
  -- Placements: server 0 alone is faulty.
  faulty-is : (i b : ℕ) → i < 128 → b < 16 → in_placement w (longest_plan w) header i b ≡ eqb (0x8000 / 2 ^ (15 - b) % 2) 1
  unfolding in_placement
  faulty-is i b l h =
      let e : b + 1 + (15 - b) ≡ 16 = omega arith in
      let p = ap (λ (xs : List ℕ). get_or xs 0 0) (parts.placement_is w i l) in
      rw (field_inner (longest_plan w) (placement_at w i) b 1 (15 - b), e, p) refl

  placements-stand : placements_stand w (longest_plan w) header ≡ true
  unfolding placements_stand placement_stands moves
  placements-stand =
      all_from (placement_stands w (longest_plan w) header) 128
      (λ i l.
      rw (register-laws.Counting.count_cong (in_placement w (longest_plan w) header i) (λ b. eqb (0x8000 / 2 ^ (15 - b) % 2) 1) 16 (λ b h. faulty-is i b l h), passes.one_faulty, field_zero)
      refl)

  -- Operations: as listed.
  operation_is : (i : ℕ) → i < 232 → operation_of w (longest_plan w) header i ≡ operation i
  unfolding operation_of
  operation_is i l = ap operation_from (parts.operation_is w i l)

  key-is : (i : ℕ) → i < 232 → field_of (longest_plan w) (operation_at w header i) 10 ≡ key i
  unfolding operation_of
  key-is i l =
      field_split (longest_plan w) (operation_at w header i) 7 3
      ∙ rw (ap (λ (o : Operation). o.at) (operation_is i l), ap (λ (o : Operation). o.party) (operation_is i l)) refl

  rises-is : (i : ℕ) → i < 232 → operation_rises w (longest_plan w) header i ≡ (eqb i 0 || ltb (key (i - 1)) (key i))
  unfolding operation_rises
  rises-is i l = rw (key-is i l, key-is (i - 1) (omega arith)) refl

  waits-is : (i : ℕ) → i < 232
      → operation_waits w (longest_plan w) header i ≡ all_up_to i (λ j. not (eqb (party_of j) (party_of i)) || ltb (end_of header (operation j)) (begun_at i))
  unfolding operation_waits
  waits-is i l = rw (operation_is i l) (all_same _ _ i (λ j h. rw (operation_is j (omega arith)) refl))

  operations-stand : operations_stand w (longest_plan w) header ≡ true
  unfolding operations_stand operation_stands passes.stands
  operations-stand =
      all_from (operation_stands w (longest_plan w) header) 232
      (λ i l.
      let all = all_at passes.stands 232 i l passes.all_stand in
      let b = register-laws.Logic.and_both (leb (party_of i) 4) _ all in
      let c = register-laws.Logic.and_both (ltb (end_of header (operation i)) 128) _ b.1 in
      rw (rises-is i l, waits-is i l, operation_is i l, b.0, c.0, c.1) (ap (λ (x : Bool). x && true) (or-true (eqb (party_of i) 0))))

  -- Forgeries: votes of server 0.
  placed-zero : (t : ℕ) → t < 128 → (plan-specs.Packed.plan_of w (longest_plan w)).placed t 0 ≡ true
  unfolding plan-specs.Packed.plan_of
  placed-zero t l = rw (parts.header_is w, mul-one t, lt-ltb t 128 l, faulty-is t 0 l (omega arith)) refl

  forgery_is : (i : ℕ) → i < 1024 → forgery_of w (longest_plan w) header i ≡ forgery_from w (forgery_numbers i)
  unfolding forgery_of
  forgery_is i l = ap (forgery_from w) (parts.forgery_is w i l)

  -- forgery i as a number, its last two fields 0
  abbrev word : ℕ → ℕ
  word i = (i / 8 * 2 ^ 9 + (i % 8 + 1)) * 2 ^ (w + 8)

  forgery-word : (i : ℕ) → i < 1024 → field_of (longest_plan w) (forgery_at w header i) (forgery_bits w) ≡ word i
  forgery-word i l =
      let at : ℕ = forgery_at w header i in
      let is : (k : ℕ) → get_or (numbers_at (forgery_widths w) (longest_plan w) at) k 0 ≡ get_or (forgery_numbers i) k 0 = λ k. ap (λ (xs : List ℕ). get_or xs k 0) (parts.forgery_is w i l) in
      let s = longest_plan w in
      field_split s at 7 (4 + (5 + (w + 8)))
      ∙ rw (field_split s (at + 7) 4 (5 + (w + 8)), field_split s (at + 7 + 4) 5 (w + 8), field_split s (at + 7 + 4 + 5) w 8, is 0, is 1, is 2, is 3, is 4)
      (rw (pow-add 2 4 (5 + (w + 8)), pow-add 2 5 (w + 8)) (joined (i / 8) (i % 8) (2 ^ (w + 8))))

  forgery-rises : (i : ℕ) → i < 1024 → forgery_rises w (longest_plan w) header i ≡ true
  unfolding forgery_rises
  forgery-rises i l = elim (ℕ_discrete i 0) [
    | yes e ↦ rw e refl
    | no d ↦ rw (forgery-word i l, forgery-word (i - 1) (omega arith), lt-ltb (word (i - 1)) (word i) (times_lt _ _ (2 ^ (w + 8)) (omega arith) (pow_pos (w + 8)))) (or-true (eqb i 0))
  ]

  forgeries-stand : forgeries_stand w (longest_plan w) header ≡ true
  unfolding forgeries_stand forgery_stands
  forgeries-stand =
      all_from (forgery_stands w (longest_plan w) header) 1024
      (λ i l.
      rw (
        forgery_is i l,
        lt-ltb (i / 8) 128 (omega arith),
        div-one (i / 8),
        placed-zero (i / 8) (omega arith),
        lt-ltb (i % 8 + 1) 16 (omega arith),
        ne_eqb (i % 8 + 1) 0 (λ e. omega arith),
        forgery-rises i l,
      )
      refl)

  -- Delays: 1 on every link.
  delay-of : (t i j : ℕ) → t < 128 → i < 21 → j < 21 → delay_of w (longest_plan w) header t i j ≡ one_if (is_link 16 i j)
  unfolding delay_of moves delay_in
  delay-of t i j lt li lj =
      let q : ℕ = (t * 21 + i) * 21 + j in
      ap (λ (xs : List ℕ). get_or xs 0 0) (parts.delay_is w q (omega arith))
      ∙ rw (digits_div (t * 21 + i) lj, digits_mod (t * 21 + i) lj, digits_mod t li) refl

  delays-stand : delays_stand w (longest_plan w) header ≡ true
  unfolding delays_stand delay_stands
  delays-stand =
      all_from _ 128 (λ t lt. all_from _ 21 (λ i li. all_from _ 21 (λ j lj. rw (delay-of t i j lt li lj) (delay_stands_lem (is_link 16 i j)))))

  final-bits-zero : final_bits_zero w (longest_plan w) header ≡ true
  unfolding final_bits_zero
  final-bits-zero = eq-eqb _ 0 (parts.final_zero w)

  reads-are : length (plan-specs.Packed.plan_of w (longest_plan w)).reads ≡ plan-specs.Limits.most_reads
  unfolding plan-specs.Packed.plan_of operations_of
  reads-are =
      rw (parts.header_is w, plan-laws.Reading.length_reads 232 (operation_of w (longest_plan w) header))
      (register-laws.Counting.count_cong _ (λ j. not (eqb (party_of j) 0)) 232 (λ j l. rw (operation_is j l) refl) ∙ passes.reads)

  header_long : bytes_for (header_bits w) ≤ length (longest_plan w)
  header_long = rw (parts.length_longest w, bytes_rounded (header_bits w), bytes_rounded (bit_length w header)) (omega arith)

  -- Check accepts it at every width
  pub longest_accepted : check_of w (longest_plan w) ≡ result plan-specs.Limits.most_reads
  longest_accepted =
      rw (← reads-are)
      (plan-laws.Accept.accepts w (longest_plan w) (record {
        playable = record {
          long = rw (le-leb _ _ header_long) tt;
          header = rw (parts.header_is w, passes.in_range) tt;
          size = rw (parts.header_is w, eq-eqb _ _ (parts.length_longest w)) tt;
          placements = rw (parts.header_is w, placements-stand) tt;
          operations = rw (parts.header_is w, operations-stand) tt;
          forgeries = rw (parts.header_is w, forgeries-stand) tt;
          delays = rw (parts.header_is w, delays-stand, final-bits-zero) tt;
        };
        servers = rw (parts.header_is w, passes.enough) tt;
      }))

-- in each form there is an accepted plan with the most bytes, and it has the most reads
pub longest_in : (form : ℕ) → is_form form ≡ true
    → (check_in form (longest_plan (width_of form)) ≡ result plan-specs.Limits.most_reads) × (length (longest_plan (width_of form)) ≡ plan-specs.Limits.most_bytes form)
longest_in form known =
    let long = by_form (λ (form : ℕ). length (longest_plan (width_of form)) ≡ plan-specs.Limits.most_bytes form) parts.length_one parts.length_two form known in
    (form_known form (longest_plan (width_of form)) known ∙ longest_accepted (width_of form), long)
