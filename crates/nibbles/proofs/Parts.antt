-- Bits of which a part stands, write after write. It stands on the laws of bits.
use mathlib.Core.Path.{◌≡◌, ◌∙◌}
use mathlib.Core.Logic.{inl, inr}
use mathlib.Core.List.{List, ◌++◌}
use Prim.Native.Nat.{ℕ, ◌+◌, ◌*◌, ◌-◌, ◌≤◌, ◌<◌}
use native.Mathlib.Decide.{dec_lt}
use native.Mathlib.Omega.{arith}
use lib.ListN.{length, get_or, get_or-append}
use lib.Seq.{get_or-append-add}
use Rattle.bits.specs.Layout.{bits_of}
use Rattle.bits.specs.Writing.{Wrote}
use Rattle.bits.proofs.Bits.{length_bits_of}
use Rattle.nibbles.specs.Nibbles.{Part}

-- the first w bits of a are those of the list from `from` on
abbrev pub Within : List ℕ → ℕ → ℕ → List ℕ → Type 0
Within bits from w a = (i : ℕ) → i < w → get_or a i 0 ≡ get_or bits (from + i) 0

-- and those of b behind them
pub within_two : (bits a b : List ℕ) (from w v : ℕ) → length a ≡ w → Within bits from w a → Within bits (from + w) v b → Within bits from (w + v) (a ++ b)
within_two bits a b from w v n f g i l = elim (dec_lt i w) [
  | yes h ↦ get_or-append a b 0 i (omega arith) ∙ f i h
  | no h ↦ (
      let j = i - w in
      let e : i ≡ length a + j = omega arith in
      let d : from + (length a + j) ≡ from + w + j = omega arith in
      rw (e, get_or-append-add a b j 0, d) (g j (omega arith))
      )
]

module _ {at : ℕ} {bits : List ℕ} where
  -- a number written to its place
  pub part_of : {a b : List ℕ} {p from to : ℕ} (w x : ℕ) → p ≡ at + from → to ≡ from + w → Wrote a b p (bits_of w x)
      → Within bits from w (bits_of w x)
      → Part a b at bits from to
  part_of {a} {b} {p} {from} {to} w x place end f same =
      let n = length_bits_of w x in
      record {
        size = f.size;
        inside = λ i l h.
            let j = i - from in
            let e : at + i ≡ p + j = omega arith in
            let d : from + j ≡ i = omega arith in
            rw (e, f.inside j (omega arith), same j (omega arith), d);
        other = λ i o. elim o [ inl h ↦ f.other i (inl (omega arith)) | inr h ↦ f.other i (inr (omega arith)) ];
      }

  -- a part, and one that begins in it or right behind it and ends no earlier
  pub part_then : {a b c : List ℕ} {from mid lo to : ℕ} → from ≤ lo → lo ≤ mid → mid ≤ to → Part a b at bits from mid → Part b c at bits lo to → Part a c at bits from to
  part_then {lo = lo} h l g f s = record {
    size = s.size ∙ f.size;
    inside = λ i m n. elim (dec_lt i lo) [
      | yes k ↦ s.other (at + i) (inl (omega arith)) ∙ f.inside i m (omega arith)
      | no k ↦ s.inside i (omega arith) n
    ];
    other = λ i o. elim o [
      | inl k ↦ s.other i (inl (omega arith)) ∙ f.other i (inl k)
      | inr k ↦ s.other i (inr k) ∙ f.other i (inr (omega arith))
    ];
  }

  -- all of them
  pub part_all : {a b : List ℕ} {to : ℕ} → length bits ≡ to → Part a b at bits 0 to → Wrote a b at bits
  part_all e f = record {
    size = f.size;
    inside = λ i h. f.inside i (omega arith) (omega arith);
    other = λ i o. elim o [ inl h ↦ f.other i (inl (omega arith)) | inr h ↦ f.other i (inr (omega arith)) ];
  }

  -- n times eight bits: the first eight, then the bytes behind their first one, which begin `off` bits before each further eight, then the last eight
  pub part_ends : {a b c d : List ℕ} (off n : ℕ) → off < 8 → 1 ≤ n
      → Part a b at bits 0 8 → Part b c at bits (8 - off) (8 * n - off) → Part c d at bits (8 * (n - 1)) (8 * n)
      → Part a d at bits 0 (8 * n)
  part_ends off n h g first between last = record {
    size = last.size ∙ between.size ∙ first.size;
    inside = λ i m l. elim (dec_lt i (8 * (n - 1))) [
      | no k ↦ last.inside i (omega arith) l
      | yes k ↦
          last.other (at + i) (inl (omega arith))
          ∙ elim (dec_lt i (8 - off)) [
            | no j ↦ between.inside i (omega arith) (omega arith)
            | yes j ↦ between.other (at + i) (inl (omega arith)) ∙ first.inside i m (omega arith)
          ]
    ];
    other = λ i o. elim o [
      | inl k ↦ last.other i (inl (omega arith)) ∙ between.other i (inl (omega arith)) ∙ first.other i (inl k)
      | inr k ↦ last.other i (inr k) ∙ between.other i (inr (omega arith)) ∙ first.other i (inr (omega arith))
    ];
  }
