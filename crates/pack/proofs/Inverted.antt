-- Packing and Check are each other's inverse: what is packed is accepted and read back, and an accepted plan is the only packing of its lists.
-- It stands on the laws of the lists, and on what Check accepts.
use mathlib.Core.Path.{◌≡◌, ◌∙◌, refl, ap, sym}
use mathlib.Core.Bool.{Bool, true, false, ◌&&◌, and-eq-true_iff}
use mathlib.Core.List.{List}
use Prim.Native.Nat.{ℕ, ◌≤◌}
use native.Mathlib.Omega.{arith}
use lib.ListN.{length}
use borrow.Author.Tests.{le-leb, eq-eqb, eqb-true}
use Rattle.bits.specs.{Field.field_of, Field.Bytes, Fill.fill, Fill.bytes_for}
use Rattle.bits.proofs.Packing.{in_final}
use Rattle.register.proofs.Logic.{T_eq}
use Rattle.plan.specs.{Form.is_form, Form.width_of, Header.header_of, Header.header_bits, Header.bit_length, Check.Outcome, Check.refused, Check.result, Check.check_of, Buffer.Buffered, Buffer.into_buffer}
use Rattle.plan.specs.Check as check
use Rattle.plan.proofs.Accept as accept
use Rattle.plan.proofs.Final.{bytes_rounded}
use Rattle.lists.specs.Lists.{Lists, listed, lists_of, packed_plan, plan_bits, reads_listed}
use Rattle.lists.proofs.Inverse as inverse
use Rattle.lists.proofs.Again as again
use Rattle.lists.proofs.Counted.{reads_listed_lem}
use Rattle.pack.specs.{Pack.lengths_implied, Pack.pack_of, Pack.pack_in, Inverse.PacksWell, Inverse.IsPacking}
use Rattle.pack.proofs.Tests.{Passed, tests_passed, passes_tests, outcome_tests, form_packs, no_form_packs}

-- lists that fit have the lengths that the header implies
fit_lengths : (w : ℕ) (l : Lists) → inverse.Fit w l → lengths_implied w (listed l) l ≡ true
unfolding lengths_implied
fit_lengths w l f =
    let g = inverse.fit_full w l f in
    rw (eq-eqb _ _ g.placements, eq-eqb _ _ g.operations, eq-eqb _ _ g.forgeries, eq-eqb _ _ g.delays)

-- Lists whose numbers fit and whose tests pass.
module _ (w : ℕ) (l : Lists) (room : ℕ) (p : Passed w l room) where
  s : List ℕ
  s = packed_plan w l

  same-header : header_of w s ≡ listed l
  unfolding s
  same-header = inverse.header_same w l p.fit.header

  size : length s ≡ bytes_for (bit_length w (listed l))
  unfolding s
  size = inverse.plan_bytes w l p.fit.header (inverse.fit_full w l p.fit)

  header_long : bytes_for (header_bits w) ≤ length s
  header_long = rw (size, bytes_rounded (header_bits w), bytes_rounded (bit_length w (listed l))) (omega arith)

  final_zero : check.final_bits_zero w s (listed l) ≡ true
  unfolding check.final_bits_zero s packed_plan
  final_zero =
      let n = bit_length w (listed l) in
      let e = inverse.plan_length w l p.fit.header (inverse.fit_full w l p.fit) in
      let z : field_of s n (fill 8 n) ≡ 0 = rw (← e) (in_final (plan_bits w l) (inverse.plan_small w l) (fill 8 (length (plan_bits w l)))) in
      eq-eqb (field_of s n (fill 8 n)) 0 z

  accepted : accept.Accepted w s
  unfolding s
  accepted = record {
    playable = record {
      long = rw (le-leb _ _ header_long) tt;
      header = rw (same-header, p.in_range) tt;
      size = rw (same-header, eq-eqb _ _ size) tt;
      placements = rw (same-header, p.placements) tt;
      operations = rw (same-header, p.operations) tt;
      forgeries = rw (same-header, p.forgeries) tt;
      delays = rw (same-header, p.delays, final_zero) tt;
    };
    servers = rw (same-header, p.enough) tt;
  }

  pub packs_well : PacksWell w l (length (packed_plan w l))
  unfolding s
  packs_well =
      let back = inverse.lists_back w l p.fit in
      record {
        bytes = refl;
        checked = accept.accepts w s accepted ∙ ap result (reads_listed_lem w s ∙ ap (reads_listed w) back);
        fields = back;
      }

-- 'A packed plan, read field by field, gives the lists it came from', and passes Check
pub packed_well : (w : ℕ) (l : Lists) (out : List ℕ) (m : ℕ) → (pack_of w l out).outcome ≡ result m → PacksWell w l m
packed_well w l out m e =
    let r = tests_passed w l (length out) m (sym (outcome_tests w l out) ∙ e) in
    rw r.1 (packs_well w l (length out) r.0)

-- the same in a form: there is such a form, and the lists were packed at its width
pub form_packed_well : (form : ℕ) (l : Lists) (out : List ℕ) (m : ℕ) → (pack_in form l out).outcome ≡ result m → (is_form form ≡ true) × PacksWell (width_of form) l m
form_packed_well form l out m e = go (is_form form) refl
  where
    go : (known : Bool) → is_form form ≡ known → (is_form form ≡ true) × PacksWell (width_of form) l m
    go true k = (k, packed_well (width_of form) l out m (ap (λ (x : Buffered). x.outcome) (sym (form_packs form l out k)) ∙ e))
    go false k =
        let r : ◌≡◌ {A = Outcome ℕ} (refused 1) (result m) = ap (λ (x : Buffered). x.outcome) (sym (no_form_packs form l out k)) ∙ e in
        let z : ◌≡◌ {A = ℕ} 0 1 = cc in absurd (omega arith)

-- A plan that Check accepts.
module _ (w : ℕ) (s : List ℕ) (m : ℕ) (bytes : Bytes s) (e : check_of w s ≡ result m) where
  A : accept.Accepted w s
  A = accept.accepted w s m e

  ends : (check.delays_stand w s (header_of w s) ≡ true) × (check.final_bits_zero w s (header_of w s) ≡ true)
  ends =
      let d = check.delays_stand w s (header_of w s) in
      let f = check.final_bits_zero w s (header_of w s) in
      (and-eq-true_iff d f).0 (T_eq (d && f) A.playable.delays)

  pub packs_again : packed_plan w (lists_of w s) ≡ s
  unfolding check.final_bits_zero
  packs_again =
      let n = bit_length w (header_of w s) in
      again.plan_again w s bytes (accept.exact w s A.playable) (eqb-true (field_of s n (fill 8 n)) 0 ends.1)

  tests : (room : ℕ) → length s ≤ room → Passed w (lists_of w s) room
  tests room fit =
      let Y = A.playable in
      record {
        fit = again.lists_fit w s;
        in_range = rw (again.listed_same w s) (T_eq _ Y.header);
        enough = rw (again.listed_same w s) (T_eq _ A.servers);
        lengths = fit_lengths w (lists_of w s) (again.lists_fit w s);
        placements = rw (again.listed_same w s, packs_again) (T_eq _ Y.placements);
        operations = rw (again.listed_same w s, packs_again) (T_eq _ Y.operations);
        forgeries = rw (again.listed_same w s, packs_again) (T_eq _ Y.forgeries);
        delays = rw (again.listed_same w s, packs_again) ends.0;
        long = rw packs_again (le-leb (length s) room fit);
      }

-- 'each accepted plan is the only packing of its lists'
pub is_packing : (w : ℕ) (s : List ℕ) (m : ℕ) → Bytes s → check_of w s ≡ result m → IsPacking w s
unfolding pack_of into_buffer
is_packing w s m bytes e = record {
  packed = λ out fit. rw (passes_tests w (lists_of w s) (length out) (tests w s m bytes e (length out) fit), packs_again w s m bytes e);
  only = λ t n b f same. sym (packs_again w t n b f) ∙ ap (packed_plan w) same ∙ packs_again w s m bytes e;
}
