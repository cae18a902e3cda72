-- The tests of Pack as facts, both ways.
-- It stands on the definition of Pack.
use mathlib.Core.Path.{◌≡◌, refl, ◌∙◌, sym}
use mathlib.Core.Bool.{Bool, true, false, ◌&&◌, and-eq-true_iff}
use mathlib.Core.List.{List}
use Prim.Native.Nat.{ℕ, ◌<◌}
use native.Mathlib.Omega.{arith}
use lib.{Dec.T, Dec.leb, Dec.lit<, ListN.length}
use Rattle.bits.specs.Layout.{fits}
use Rattle.register.proofs.Logic.{T_eq}
use Rattle.plan.specs.{Form.is_form, Form.width_of, Header.Header, Check.refused, Check.result, CheckParts.Tests, CheckParts.done, CheckParts.test, CheckParts.run, Buffer.into_buffer}
use Rattle.plan.specs.Widths as widths
use Rattle.plan.specs.Check as check
use Rattle.plan.proofs.{Chain.Left, Chain.all_passed, Chain.refusal_by, Buffer.into_outcome}
use Rattle.lists.specs.Lists as lists
use Rattle.lists.specs.Lists.{Lists, listed, packed_plan}
use Rattle.lists.proofs.Inverse.{Fit}
use Rattle.pack.specs.Pack.{lengths_implied, part_tests, pack_tests, pack_of, pack_in}

-- what all tests say together
pub record Passed (w : ℕ) (l : Lists) (room : ℕ) : Type 0 where
  pub fit : Fit w l
  pub in_range : check.header_in_range (listed l) ≡ true
  pub enough : check.enough_servers (listed l) ≡ true
  pub lengths : lengths_implied w (listed l) l ≡ true
  pub placements : check.placements_stand w (packed_plan w l) (listed l) ≡ true
  pub operations : check.operations_stand w (packed_plan w l) (listed l) ≡ true
  pub forgeries : check.forgeries_stand w (packed_plan w l) (listed l) ≡ true
  pub delays : check.delays_stand w (packed_plan w l) (listed l) ≡ true
  pub long : leb (length (packed_plan w l)) room ≡ true

-- the parts' tests and all tests, in their order
module _ (w : ℕ) (h : Header) (s : List ℕ) (l : Lists) (room : ℕ) where
  abbrev pub part_chain : Tests
  part_chain =
      test (fits (lists.placements_widths h) l.placements && check.placements_stand w s h) 5
      (test (fits (lists.operations_widths w h) l.operations && check.operations_stand w s h) 6
      (test (fits (lists.forgeries_widths w h) l.forgeries && check.forgeries_stand w s h) 7
      (test (fits (lists.delays_widths h) l.delays && check.delays_stand w s h) 8
      (test (leb (length s) room) 14
      done))))

  pub parts_left : Left (part_tests w h s l room) part_chain (result (length s))
  unfolding part_tests run
  parts_left = record { is = refl }

module _ (w : ℕ) (l : Lists) (room : ℕ) where
  abbrev pack_chain : Tests
  pack_chain =
      let h = listed l in
      test (fits (widths.header_widths w) l.header && check.header_in_range h) 2
      (test (check.enough_servers h) 3
      (test (lengths_implied w h l) 4
      (part_chain w h (packed_plan w l) l room)))

  tests-chain : pack_tests w l room ≡ run pack_chain (result (length (packed_plan w l)))
  unfolding pack_tests part_tests run
  tests-chain = refl

-- both parts of a test that passed
each : (a b : Bool) → T (a && b) → (a ≡ true) × (b ≡ true)
each a b t = (and-eq-true_iff a b).0 (T_eq (a && b) t)

module _ (w : ℕ) (l : Lists) where
  pub tests_passed : (room m : ℕ) → pack_tests w l room ≡ result m → Passed w l room × (m ≡ length (packed_plan w l))
  tests_passed room m e =
      let ((t2, (t3, (t4, (t5, (t6, (t7, (t8, (t14, _)))))))), last) = all_passed (pack_chain w l room) (result (length (packed_plan w l))) m (sym (tests-chain w l room) ∙ e) in
      let (p2, q2) = each _ _ t2 in
      let (p5, q5) = each _ _ t5 in
      let (p6, q6) = each _ _ t6 in
      let (p7, q7) = each _ _ t7 in
      let (p8, q8) = each _ _ t8 in (
        record {
          fit = record {
            header = p2;
            placements = p5;
            operations = p6;
            forgeries = p7;
            delays = p8;
          };
          in_range = q2;
          enough = T_eq _ t3;
          lengths = T_eq _ t4;
          placements = q5;
          operations = q6;
          forgeries = q7;
          delays = q8;
          long = T_eq _ t14;
        },
        cc,
      )

  pub passes_tests : (room : ℕ) → Passed w l room → pack_tests w l room ≡ result (length (packed_plan w l))
  unfolding pack_tests part_tests
  passes_tests room p =
      rw (
        p.fit.header,
        p.in_range,
        p.enough,
        p.lengths,
        p.fit.placements,
        p.placements,
        p.fit.operations,
        p.operations,
        p.fit.forgeries,
        p.forgeries,
        p.fit.delays,
        p.delays,
        p.long,
      )

  -- the outcome is that of the tests
  pub outcome_tests : (out : List ℕ) → (pack_of w l out).outcome ≡ pack_tests w l (length out)
  unfolding pack_of
  outcome_tests out = into_outcome (packed_plan w l) out (pack_tests w l (length out))

-- in a form that there is, Pack is that at the form's width
pub form_packs : (form : ℕ) (l : Lists) (out : List ℕ) → is_form form ≡ true → pack_in form l out ≡ pack_of (width_of form) l out
unfolding pack_in pack_of
form_packs form l out e = rw e

-- in any other it is refusal 1
pub no_form_packs : (form : ℕ) (l : Lists) (out : List ℕ) → is_form form ≡ false → pack_in form l out ≡ record { outcome = refused 1; out = out }
unfolding pack_in into_buffer
no_form_packs form l out e = rw e

-- 'Here 1 never occurs'
pub never_one : (w : ℕ) (l : Lists) (out : List ℕ) → (pack_of w l out).outcome ≡ refused 1 → ⊥
never_one w l out e =
    let more : 1 < 1 = refusal_by (λ (n : ℕ). 1 < n) (pack_chain w l (length out)) (length (packed_plan w l)) 1
    (lit< tt, (lit< tt, (lit< tt, (lit< tt, (lit< tt, (lit< tt, (lit< tt, (lit< tt, tt))))))))
    (sym (tests-chain w l (length out)) ∙ sym (outcome_tests w l out) ∙ e) in
    omega arith
