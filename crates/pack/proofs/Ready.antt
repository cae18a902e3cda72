-- What the tests of the header and of the lengths leave: the lists packed into zero bytes are a plan that the parts' tests can be asked of.
-- It stands on the laws of the lists and of bits written over zeros.
use mathlib.Core.Path.{◌≡◌, ◌∙◌, sym}
use mathlib.Core.Bool.{Bool, true, ◌&&◌, and-eq-true_iff}
use mathlib.Core.List.{List}
use Prim.Native.Nat.{ℕ, ◌*◌, ◌≤◌}
use native.Mathlib.Omega.{arith}
use lib.Dec.{eqb, lit<}
use lib.ListN.{length, take, replicate}
use borrow.Author.Tests.{eqb-true}
use Rattle.bits.specs.{Field.Bytes, Fill.bytes_for, Layout.fits, Writing.Wrote}
use Rattle.bits.proofs.{Packing.fits_at, Started.fresh}
use Rattle.plan.specs.Widths as widths
use Rattle.plan.specs.{Form.most_width, Header.Header, Header.header_of, Header.bit_length, Header.moves, Header.delay_count, Limits.implied_bytes, Buffer.into_buffer, Shape.Ranged, Shape.Sized}
use Rattle.plan.specs.Check as check
use Rattle.plan.proofs.{Ranges.ranged, Sizes.sizes, Sizes.implied_few}
use Rattle.lists.specs.{Lists.Lists, Lists.Full, Lists.listed, Lists.plan_bits, Lists.packed_plan}
use Rattle.lists.proofs.Inverse as inverse
use Rattle.pack.specs.{Pack.lengths_implied, Pack.part_tests, Pack.pack_tests, Pack.pack_of, Numbered.parts_from, Numbered.Listed}

-- equal lengths, as the test has them
same : (a b : ℕ) (rest : Bool) → eqb a b && rest ≡ true → (a ≡ b) × (rest ≡ true)
same a b rest e = let r = (and-eq-true_iff (eqb a b) rest).0 e in (eqb-true a b r.0, r.1)

lengths_full : (w : ℕ) (h : Header) (l : Lists) → lengths_implied w h l ≡ true → Full w h l
unfolding lengths_implied
lengths_full w h l e =
    let r1 = same (length l.placements) (1 * moves h) _ e in
    let r2 = same (length l.operations) (3 * h.operations) _ r1.1 in
    let r3 = same (length l.forgeries) (5 * h.forgeries) _ r2.1 in
    record { placements = r1.0; operations = r2.0; forgeries = r3.0; delays = eqb-true (length l.delays) (1 * delay_count h) r3.1 }

module _ (w : ℕ) (l : Lists) (h : Header) (is : h ≡ listed l) (fit : fits (widths.header_widths w) l.header ≡ true) (in_range : check.header_in_range h ≡ true) where
  pub listed_ranged : Ranged h
  listed_ranged = ranged h in_range (rw is (omega (arith, fits_at (widths.header_widths w) l.header fit 7 (lit< tt))))

  pub listed_as : lengths_implied w h l ≡ true → Listed w l h
  listed_as e = record { header = is; fit = fit; ranged = listed_ranged; full = lengths_full w h l e }

module _ (w : ℕ) (narrow : w ≤ most_width) (l : Lists) (h : Header) (p : Listed w l h) where
  full : Full w (listed l) l
  full = let z = p.full in rw p.header at z

  size : length (packed_plan w l) ≡ bytes_for (bit_length w h)
  size = rw p.header (inverse.plan_bytes w l p.fit full)

  -- the first bytes are the packed plan
  pub plan_own : (own : List ℕ) (n : ℕ) → n ≡ bytes_for (bit_length w h) → Wrote (replicate implied_bytes 0) own 0 (plan_bits w l) → Bytes own → take n own ≡ packed_plan w l
  unfolding packed_plan
  plan_own own n e W bytes =
      let bits : length (plan_bits w l) ≡ bit_length w h = rw p.header (inverse.plan_length w l p.fit full) in
      let few : bytes_for (length (plan_bits w l)) ≤ implied_bytes = rw bits (implied_few w h p.ranged narrow) in
      rw (e, ← bits) (fresh implied_bytes own (plan_bits w l) W (inverse.plan_small w l) bytes few)

  pub plan_sized : Sized w (packed_plan w l) h
  plan_sized = sizes w (packed_plan w l) h p.ranged narrow size

  pub plan_header : h ≡ header_of w (packed_plan w l)
  plan_header = p.header ∙ sym (inverse.header_same w l p.fit)

  -- what is left of Pack is the parts' tests, which do not look at the list of the header
  parts_left : check.header_in_range (listed l) ≡ true → check.enough_servers (listed l) ≡ true → lengths_implied w (listed l) l ≡ true → (out : List ℕ)
      → pack_of w l out
      ≡ into_buffer (packed_plan w l) out (part_tests w (listed l) (packed_plan w l) (parts_from l.placements l.operations l.forgeries l.delays) (length out))
  unfolding pack_of pack_tests part_tests
  parts_left r s e out = rw (p.fit, r, s, e)

  pub pack_parts : check.header_in_range h ≡ true → check.enough_servers h ≡ true → lengths_implied w h l ≡ true → (out : List ℕ)
      → pack_of w l out ≡ into_buffer (packed_plan w l) out (part_tests w h (packed_plan w l) (parts_from l.placements l.operations l.forgeries l.delays) (length out))
  pack_parts r s e out = rw p.header (parts_left (rw p.header at r) (rw p.header at s) (rw p.header at e) out)
