-- The forged messages of a plan that can be played: who sends them and to whom, and that they rise by tick.
-- It stands on what Check accepts, and on where the parts stand.
use mathlib.Core.Path.{◌≡◌}
use mathlib.Core.Bool.{◌||◌}
use mathlib.Core.Logic.{inl, inr}
use mathlib.Core.List.{List}
use Prim.Native.Nat.{ℕ, zero, suc, ◌+◌, ◌-◌, ◌/◌, ◌^◌, ◌≤◌, ◌<◌}
use native.Mathlib.Omega.{arith}
use native.Mathlib.Decide.{dec_le}
use lib.Dec.{T, eqb, ltb, ltb→lt, eqb-suc-zero}
use lib.ListN.{drop}
use Rattle.bits.specs.{Field.field_of, Layout.total}
use Rattle.bits.proofs.Laws.{field_lt, field_split}
use Rattle.register.specs.Lists.{In}
use Rattle.register.proofs.Logic.{and_l, and_r}
use Rattle.plan.specs.Header.{Header, header_of, parties, forgery_bits, forgery_at}
use Rattle.plan.specs as plan-specs
use Rattle.plan.proofs as plan-laws
use Rattle.tables.specs.declared.Links.{Links}
use Rattle.tables.specs.Links.{Reach}
use Rattle.tables.specs.Rules.{LinksOf}
use Rattle.tables.specs.Forged.{message_of}
use Rattle.tables.proofs.Tables.{tab_in}
use Rattle.tables.proofs.Placing.{other_link, table}

-- fields that rise do not fall in their first bits
first_rises : (s : List ℕ) (i j a b : ℕ) → field_of s i (a + b) < field_of s j (a + b) → field_of s i a ≤ field_of s j a
first_rises s i j a b h = elim (dec_le (field_of s i a) (field_of s j a)) [
  | yes l ↦ l
  | no l ↦
      absurd (omega (arith, field_split s i a b, field_split s j a b, field_lt s (j + a) b, plan-laws.Laws.row_inside (field_of s j a) (field_of s i a) (2 ^ b) (omega arith)))
]

module _ (w : ℕ) (s : List ℕ) (A : plan-specs.Playable.Playable w s) where
  listed : (e : ℕ) → e < (header_of w s).forgeries → In (message_of w s e) (plan-specs.Packed.plan_of w s).forged
  unfolding plan-specs.Packed.plan_of
  listed e l = tab_in (header_of w s).forgeries (plan-specs.Parts.forgery_of w s (header_of w s)) e l

  module _ (e : ℕ) (l : e < (header_of w s).forgeries) where
    pub sent_below : (message_of w s e).at < (header_of w s).ticks
    sent_below = plan-laws.AcceptForgeries.forged_below w s A (message_of w s e) (listed e l)

    pub sender_below : (message_of w s e).from < (header_of w s).n
    sender_below =
        plan-laws.AcceptForgeries.placed_below w s ((message_of w s e).at / (header_of w s).period) (message_of w s e).from (plan-laws.AcceptForgeries.forger_placed w s A (message_of w s e) (listed e l))

    -- it goes to another server or to a reader
    pub on_link : ((message_of w s e).to < parties (header_of w s)) × T (plan-specs.Parts.is_link (header_of w s).n (message_of w s e).from (message_of w s e).to)
    unfolding plan-specs.Packed.plan_of
    on_link = elim (plan-laws.AcceptForgeries.forged_to_lem w s A (message_of w s e) (listed e l)) [
      | inl v ↦ (omega (arith, v.to_server), other_link (header_of w s).n (message_of w s e).from (message_of w s e).to sender_below v.to_other (λ z. omega (arith, v.to_server)))
      | inr r ↦
          let S = plan-laws.AcceptReads.read_stands w s A r.read r.listed in (
            omega (arith, r.to_reader, S.reader_hi),
            other_link (header_of w s).n (message_of w s e).from (message_of w s e).to sender_below (λ z. omega (arith, r.to_reader, sender_below)) (λ z. omega (arith, r.to_reader, S.reader_lo)),
          )
    ]

    pub message_reach : w ≤ plan-specs.Form.most_width → (links : Links) → LinksOf w (header_of w s) links
        → Reach s links links.n (message_of w s e).at (message_of w s e).from (message_of w s e).to
    message_reach narrow links L = record {
      linked = table w s A links L narrow ((message_of w s e).at + 1) (omega (arith, sent_below));
      sender = omega (arith, sender_below, L.parties);
      receiver = omega (arith, on_link.0, L.parties);
    }

  -- 'Forgeries strictly rise as 40-bit numbers', or at their form's width, and so their ticks do not fall
  next-rises : (e : ℕ) → suc e < (header_of w s).forgeries → (message_of w s e).at ≤ (message_of w s (suc e)).at
  unfolding plan-specs.Check.forgeries_stand plan-specs.Check.forgery_stands plan-specs.Check.forgery_rises plan-specs.Parts.forgery_of
  next-rises e l =
      let h : Header = header_of w s in
      let t = plan-laws.Tests.all_at h.forgeries (plan-specs.Check.forgery_stands w s h) A.forgeries (suc e) l in
      let rises : T (eqb (suc e) 0 || ltb (field_of s (forgery_at w h (suc e - 1)) (forgery_bits w)) (field_of s (forgery_at w h (suc e)) (forgery_bits w))) = search (and_l, and_r) in
      let z : suc e - 1 ≡ e = omega arith in
      let less = ltb→lt (field_of s (forgery_at w h e) (forgery_bits w)) (field_of s (forgery_at w h (suc e)) (forgery_bits w)) (rw (eqb-suc-zero e, z) at rises) in
      first_rises s (forgery_at w h e) (forgery_at w h (suc e)) 7 (total (drop 1 (plan-specs.Widths.forgery_widths w))) less

  pub messages_rise : (e i : ℕ) → e ≤ i → i < (header_of w s).forgeries → (message_of w s e).at ≤ (message_of w s i).at
  messages_rise e zero l m = let z : e ≡ 0 = omega arith in rw z (omega arith)
  messages_rise e (suc i) l m = elim (dec_le e i) [
    | yes h ↦ omega (arith, messages_rise e i h (omega arith), next-rises i m)
    | no h ↦ let z : e ≡ suc i = omega arith in rw z (omega arith)
  ]
