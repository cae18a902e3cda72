-- One forgery: its fields out of one number, the movement that decides on its sender, the open read that it may answer.
-- It stands on the laws of bit fields and of reads among operations.
use mathlib.Core.Path.{◌≡◌, sym, ap, ◌∙◌, fun_ext}
use mathlib.Core.Bool.{Bool, false, not, ◌&&◌, ◌||◌, and-false, and_assoc}
use mathlib.Core.List.{List}
use Prim.Native.Nat.{ℕ, suc, ◌+◌, ◌*◌, ◌-◌, ◌/◌, ◌%◌, ◌≤◌, ◌<◌}
use native.Mathlib.Nat.{mul-le-mul_left, div-mul-le_self}
use native.Mathlib.Decide.{ℕ_discrete, dec_le}
use native.Mathlib.Omega.{arith}
use lib.Dec.{leb, ltb, eqb}
use lib.ListN.{length, length-drop}
use borrow.Author.Tests.{lt-ltb, le-ltb, le-leb, lt-leb, eq-eqb, ne_eqb}
use Rattle.bits.specs.Field.{field_of}
use Rattle.bits.proofs.Laws.{field_part}
use Rattle.register.specs as register-specs
use Rattle.register.proofs.Counting.{none_up}
use Rattle.plan.specs.Header.{Header, header_of, forgery_bits, operation_at, forgery_at}
use Rattle.plan.specs.Parts.{in_placement, operation_of, operations_of, forgery_of}
use Rattle.plan.specs as plan-specs
use Rattle.plan.specs.Check.{read_open, forgery_stands, forgery_rises}
use Rattle.forgeries.specs.Steps.{ForgedPart, is_received, forged_alone}
use Rattle.operations.specs.Reads.{spans, open_among, Opened}
use Rattle.plan.proofs as plan-laws

module _ (w : ℕ) (s : List ℕ) (h : Header) where
  module _ (part : List ℕ) (offset : ℕ) (p : ForgedPart w s h part offset) where
    -- forgery i lies in the part
    pub forgery_inside : plan-specs.Shape.Sized w s h → (i : ℕ) → i < h.forgeries
        → (offset + forgery_bits w * i + forgery_bits w ≤ 8 * length part) × (offset + forgery_bits w * i ≤ plan-specs.Limits.most_bits)
    forgery_inside z i l =
        let first = operation_at w h h.operations in
        let long : length part ≡ length s - first / 8 = ap length p.bytes ∙ length-drop (first / 8) s in
        let m = mul-le-mul_left {m = suc i} {n = h.forgeries} w l in
        (omega (arith, m, z, long, p.first), omega (arith, m, z, long, p.first))

    -- a field of the forged part
    pub in_part : (i n : ℕ) → field_of part (offset + forgery_bits w * i) n ≡ field_of s (forgery_at w h i) n
    in_part i n =
        let first = operation_at w h h.operations in
        let e : 8 * (first / 8) + (first % 8 + forgery_bits w * i) ≡ first + forgery_bits w * i = omega arith in
        rw (p.bytes, p.first, field_part, e)

forged_is : (w : ℕ) (s : List ℕ) (h : Header) (i all : ℕ) (g : plan-specs.declared.forgeries.Forged.Forged) → all ≡ field_of s (forgery_at w h i) (forgery_bits w) → plan-specs.Steps.IsForged w all g
    → forgery_of w s h i ≡ plan-specs.Steps.forgery w g
unfolding forgery_of
forged_is w s h i all g e is = sym (plan-laws.Taken.forged_in_lem w s (forgery_at w h i) all g e is)

eqb_add : (n p x : ℕ) → eqb (n + p) (n + x) ≡ eqb p x
eqb_add n p x = elim (ℕ_discrete p x) [
  | yes e ↦ rw (eq-eqb p x e, eq-eqb (n + p) (n + x) (omega arith))
  | no d ↦ rw (ne_eqb p x d, ne_eqb (n + p) (n + x) (λ e. d (omega arith)))
]

module _ (w : ℕ) (s : List ℕ) where
  -- the reads of a packed plan
  open_any : (g : register-specs.Plan.Forgery) → read_open w s (header_of w s) g
      ≡ register-specs.Lists.any_up_to (header_of w s).operations (λ j.
      plan-laws.Reading.is_read (operation_of w s (header_of w s) j)
      && (eqb ((header_of w s).n + (operation_of w s (header_of w s) j).party) g.to
      && (leb (operation_of w s (header_of w s) j).at g.at && ltb g.at ((operation_of w s (header_of w s) j).at + 2 * (header_of w s).delta))))
  unfolding read_open plan-specs.Packed.plan_of operations_of
  open_any g = plan-laws.Reading.any_reads _ (header_of w s).operations (operation_of w s (header_of w s))

  -- a receiver among the readers
  open-reader : (g : register-specs.Plan.Forgery) (x : ℕ) → g.to ≡ (header_of w s).n + x
      → read_open w s (header_of w s) g ≡ open_among w s (header_of w s) (header_of w s).operations x g.at
  unfolding open_among spans
  open-reader g x e = open_any g ∙ ap (register-specs.Lists.any_up_to (header_of w s).operations) (fun_ext (λ j. rw (e, eqb_add)))

  -- a server has no reads
  open-server : (g : register-specs.Plan.Forgery) → g.to < (header_of w s).n → read_open w s (header_of w s) g ≡ false
  open-server g l =
      let party : ℕ → ℕ = λ j. (operation_of w s (header_of w s) j).party in
      let other : (j : ℕ) → eqb ((header_of w s).n + party j) g.to ≡ false = λ j. ne_eqb ((header_of w s).n + party j) g.to (λ e. omega arith) in
      open_any g ∙ none_up _ _ (λ j l. rw (other j) (and-false (plan-laws.Reading.is_read (operation_of w s (header_of w s) j))))

  received-plan : (table : List Bool) (g : register-specs.Plan.Forgery) → Opened w s (header_of w s) (header_of w s).operations table → g.at < 128
      → is_received (header_of w s).n table g.at g.from g.to
      ≡ (ltb g.to (header_of w s).n && not (eqb g.to g.from)) || read_open w s (header_of w s) g
  received-plan table g o l = elim (dec_le (header_of w s).n g.to) [
    | yes m ↦
        let e : g.to ≡ (header_of w s).n + (g.to - (header_of w s).n) = omega arith in
        rw (le-ltb g.to (header_of w s).n m, le-leb (header_of w s).n g.to m, open-reader g (g.to - (header_of w s).n) e, o (g.to - (header_of w s).n) g.at l)
    | no m ↦
        let m' : g.to < (header_of w s).n = omega arith in
        rw (lt-ltb g.to (header_of w s).n m', lt-leb (header_of w s).n g.to m', open-server g m')
  ]

  -- the table answers for the plan's reads
  pub received : (h : Header) → h ≡ header_of w s → (table : List Bool) (g : register-specs.Plan.Forgery) → Opened w s h h.operations table → g.at < 128
      → is_received h.n table g.at g.from g.to ≡ (ltb g.to h.n && not (eqb g.to g.from)) || read_open w s h g
  received h e = rw e received-plan

  -- the placement of a tick
  placed-plan : (at from : ℕ) → at < (header_of w s).ticks
      → (plan-specs.Packed.plan_of w s).placed (at / (header_of w s).period) from ≡ ltb from (header_of w s).n && in_placement w s (header_of w s) (at / (header_of w s).period) from
  unfolding plan-specs.Packed.plan_of
  placed-plan at from l =
      let m = div-mul-le_self at (header_of w s).period in
      rw (lt-ltb (at / (header_of w s).period * (header_of w s).period) (header_of w s).ticks (omega (arith, m)))

  pub placed_is : (h : Header) → h ≡ header_of w s → (at from : ℕ) → at < h.ticks
      → (plan-specs.Packed.plan_of w s).placed (at / h.period) from ≡ ltb from h.n && in_placement w s h (at / h.period) from
  placed_is h e = rw e placed-plan

and_regroup : (a b c d : Bool) → a && (b && (c && d)) ≡ ((a && b) && c) && d
and_regroup a b c d = simp and_assoc

-- a forgery's test: by itself, and its place in the order
pub forgery_as : (w : ℕ) (s : List ℕ) (h : Header) (i all next : ℕ) (g : plan-specs.declared.forgeries.Forged.Forged)
    → all ≡ field_of s (forgery_at w h i) (forgery_bits w) → plan-specs.Steps.IsForged w all g
    → next ≡ plan-laws.Waiting.follows (λ j. field_of s (forgery_at w h j) (forgery_bits w)) i → forgery_stands w s h i ≡ forged_alone w s h (plan-specs.Steps.forgery w g) && leb next all
unfolding forgery_stands forgery_rises
forgery_as w s h i all next g e is f =
    let key : ℕ → ℕ = λ j. field_of s (forgery_at w h j) (forgery_bits w) in
    rw (plan-laws.Waiting.follows_rises key i (key i), ← f, ← e, forged_is w s h i all g e is)
    (and_regroup (ltb g.at h.ticks) ((plan-specs.Packed.plan_of w s).placed (g.at / h.period) g.from)
    ((ltb g.to h.n && not (eqb g.to g.from)) || read_open w s h (plan-specs.Steps.forgery w g)) (leb next all))
