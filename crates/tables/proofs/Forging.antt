-- The forged part of a plan that can be played can be read, and what is read there are the plan's forged messages.
-- It stands on Placing and Messages.
use mathlib.Core.Path.{◌≡◌, ap, sym, subst, ◌∙◌}
use mathlib.Core.List.{List}
use Prim.Native.Nat.{ℕ, ◌+◌, ◌*◌, ◌-◌, ◌/◌, ◌%◌, ◌≤◌, ◌<◌}
use native.Mathlib.Nat.{add_assoc}
use native.Mathlib.Omega.{arith}
use lib.ListN.{length, take, drop, length-drop}
use Rattle.bits.proofs.Laws.{field_part}
use Rattle.register.specs.Plan.{Forgery}
use Rattle.register.proofs.Lists.{part_from}
use Rattle.plan.specs as plan-specs
use Rattle.plan.specs.Header.{Header, header_of, operation_at}
use Rattle.plan.proofs.Accept.{in_range}
use Rattle.tables.specs as tables-specs
use Rattle.tables.specs.Forged.{forged_at, forged_delay, Legible, message_of, message_delay}
use Rattle.tables.specs.Rules.{LinksOf}
use Rattle.tables.proofs as tables-laws
use Rattle.tables.proofs.Messages.{sent_below, sender_below, on_link, message_reach}

pub shape_ranged : (w : ℕ) (s : List ℕ) → plan-specs.Playable.Playable w s → (x : plan-specs.declared.header.Shape.Shape) → plan-specs.Shape.shape x ≡ header_of w s
    → plan-specs.Shape.Ranged (plan-specs.Shape.shape x)
shape_ranged w s c x e = rw e (in_range w s c)

module _ (w : ℕ) (s : List ℕ) (A : plan-specs.Playable.Playable w s) (x : plan-specs.declared.header.Shape.Shape) (same : plan-specs.Shape.shape x ≡ header_of w s) (at : ℕ)
    (starts-at : at ≡ operation_at w (plan-specs.Shape.shape x) x.operations) where
  -- the bytes from the one that holds its first bit on
  abbrev pub part : List ℕ
  part = take (length s - at / 8) (drop (at / 8) s)

  first_bit : at ≡ operation_at w (header_of w s) (header_of w s).operations
  first_bit = starts-at ∙ ap (λ (h : Header). operation_at w h h.operations) same

  pub counted : x.forgeries ≡ (header_of w s).forgeries
  counted = ap (λ (h : Header). h.forgeries) same

  pub part_starts : at / 8 ≤ length s
  part_starts = omega (arith, first_bit, tables-laws.Placing.bits_inside w s A)

  part-whole : part ≡ drop (at / 8) s
  part-whole = part_from (at / 8) s

  -- the part has the messages, from the byte that holds its first bit on, at an offset under eight
  pub message : (e : ℕ) → forged_at w part (at % 8) e ≡ message_of w s e
  unfolding plan-specs.Parts.forgery_of
  message e =
      let z : 8 * (at / 8) + at % 8 ≡ at = omega arith in
      let bits : forged_at w (drop (at / 8) s) (at % 8) e ≡ forged_at w s at e = simp (field_part, ← add_assoc, z) in
      rw (part-whole, bits, first_bit)

  module _ (links : tables-specs.declared.Links.Links) (linked : LinksOf w (plan-specs.Shape.shape x) links) where
    L : LinksOf w (header_of w s) links
    L = rw same at linked

    pub legible : w ≤ plan-specs.Form.most_width → Legible w part (at % 8) x.forgeries s links links.n
    legible narrow = record {
      narrow = narrow;
      start = omega arith;
      few = omega (arith, counted, (in_range w s A).forgeries_hi);
      inside = rw (part-whole, length-drop, counted) (omega (arith, first_bit, counted, tables-laws.Placing.bits_inside w s A, part_starts));
      reach = λ e l. subst (λ (g : Forgery). tables-specs.Links.Reach s links links.n g.at g.from g.to) (sym (message e)) (message_reach w s A e (omega (arith, counted)) narrow links L);
    }

    pub delay_same : (e : ℕ) → e < (header_of w s).forgeries → forged_delay s links (forged_at w part (at % 8) e) ≡ message_delay w s e
    delay_same e h =
        ap (forged_delay s links) (message e)
        ∙ tables-laws.Placing.link_delay_lem w s A links L (message_of w s e).at (message_of w s e).from (message_of w s e).to
        (sent_below w s A e h) (omega (arith, sender_below w s A e h)) (on_link w s A e h).0 (on_link w s A e h).1
