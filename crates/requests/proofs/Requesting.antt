-- What a request adds, and what is left when a tick's requests are taken. It stands on the calendar's laws of words.
use mathlib.Core.Path.{◌≡◌, refl, sym, ◌∙◌}
use mathlib.Core.Bool.{Bool, false, ◌&&◌, ◌||◌, and_comm, or-false, or_assoc}
use mathlib.Core.List.{List}
use Prim.Native.Nat.{ℕ, ◌+◌, ◌*◌, ◌%◌, ◌^◌, ◌≤◌, ◌<◌}
use native.Mathlib.Omega.{arith}
use native.Mathlib.Decide.{ℕ_discrete, dec_le}
use lib.Dec.{eqb}
use lib.ListN.{length}
use lib.Bits.{bit_or}
use borrow.Author.Tests.{eq-eqb, ne_eqb, eqb-true}
use Rattle.tables.specs.declared.sending.Sending.{Sending}
use Rattle.limits.specs.Bits.{bit}
use Rattle.calendar.specs.Words.{word_of, put_word}
use Rattle.calendar.specs.Layout.{calendar_size, rows, cell_word, sender}
use Rattle.limits.specs.Limits.{places}
use Rattle.calendar.specs.View.{SamePast, Spanned, Empty, Zeroed}
use Rattle.tables.specs.Sending.{arrival_of}
use Rattle.calendar.proofs.Laws as laws
use Rattle.limits.proofs as limits-laws
use Rattle.requests.specs.Requests.{party_slots, requests_at, requests_end, request_word, reached_by, asked_first, SameBehind, SameOutside, Asked, Taken, Unasked}

-- ---- bytes that stay

pub outside_none : (a : List ℕ) → SameOutside a a
outside_none a = record { rest = record { size = refl; behind = λ k l. refl }; before = λ k l. refl }

pub behind_trans : (a b c : List ℕ) → SameBehind a b → SameBehind b c → SameBehind a c
behind_trans a b c A B = record { size = B.size ∙ A.size; behind = λ k l. B.behind k l ∙ A.behind k l }

pub outside_trans : (a b c : List ℕ) → SameOutside a b → SameOutside b c → SameOutside a c
outside_trans a b c A B = record { rest = behind_trans a b c A.rest B.rest; before = λ k l. B.before k l ∙ A.before k l }

-- what leaves all bytes past the calendar leaves the requests and what stands behind them
pub past_behind : (a b : List ℕ) → SamePast a b → SameBehind a b
past_behind a b S = record { size = S.size; behind = λ k l. S.past k (omega arith) }

pub past_requests : (a b : List ℕ) → SamePast a b → (t p c : ℕ) → reached_by b t p c ≡ reached_by a t p c
past_requests a b S t p c =
    rw (laws.word_same a b (request_word t p) (S.past (2 * request_word t p) (omega arith)) (S.past (2 * request_word t p + 1) (omega arith)))

-- ---- requests one after the other

pub asked_none : (a : List ℕ) (g : ℕ → ℕ → ℕ → Bool) → ((t p b : ℕ) → g t p b ≡ false) → Asked a a g
asked_none a g none = record { outside = outside_none a; requests = λ t p b l. rw (none t p b) (sym (or-false (reached_by a t p b))) }

pub asked_eq : (a r : List ℕ) (g h : ℕ → ℕ → ℕ → Bool) → Asked a r g → ((t p b : ℕ) → p < party_slots → g t p b ≡ h t p b) → Asked a r h
asked_eq a r g h A e = record { outside = A.outside; requests = λ t p b l. A.requests t p b l ∙ rw (e t p b l) }

pub asked_trans : (a b c : List ℕ) (g h : ℕ → ℕ → ℕ → Bool) → Asked a b g → Asked b c h → Asked a c (λ t p i. g t p i || h t p i)
asked_trans a b c g h A B = record {
  outside = outside_trans a b c A.outside B.outside;
  requests = λ t p i l. B.requests t p i l ∙ rw (A.requests t p i l) (or_assoc (reached_by a t p i) (g t p i) (h t p i));
}

-- ---- a request is posted

same_request : (t q u p : ℕ) → q < party_slots → p < party_slots → eqb (request_word t q) (request_word u p) ≡ eqb q p && eqb (u % 16) (t % 16)
same_request t q u p hq hp = laws.eqb_both (request_word t q) (request_word u p) q p (u % 16) (t % 16) (λ e. (omega arith, omega arith)) (λ d e. omega arith)

module _ (s : Sending) (p : ℕ) (hp : p < party_slots) where
  -- server b's share
  to_server : (t q c b : ℕ) → (eqb q p && eqb (arrival_of s b % 16) (t % 16)) && eqb c b ≡ eqb c b && (eqb q p && eqb (arrival_of s c % 16) (t % 16))
  to_server t q c b = and_comm (eqb q p && eqb (arrival_of s b % 16) (t % 16)) (eqb c b) ∙ laws.under (eqb c b) _ _ (λ e. rw (eqb-true c b e))

  -- the bytes with server b reached
  unfoldable pub reaching : List ℕ → ℕ → List ℕ
  reaching r b = put_word r (request_word (arrival_of s b) p) (bit_or (word_of r (request_word (arrival_of s b) p)) (2 ^ b))

  pub asked_more : (a r : List ℕ) (b : ℕ) → requests_end ≤ length r → Asked a r (asked_first s p b) → Asked a (reaching r b) (asked_first s p (b + 1))
  unfolding reaching
  asked_more a r b size A =
      let w = request_word (arrival_of s b) p in
      let x = bit_or (word_of r w) (2 ^ b) in record {
        outside = record {
          rest = record {
            size = laws.put_length r w x ∙ A.outside.rest.size;
            behind = λ k l. laws.put_byte r w x k (λ e. omega arith) (λ e. omega arith) ∙ A.outside.rest.behind k l;
          };
          before = λ k l. laws.put_byte r w x k (λ e. omega arith) (λ e. omega arith) ∙ A.outside.before k l;
        };
        requests = λ t q c l. laws.put_member r w b (request_word t q) c (omega arith)
            ∙ rw (same_request t q (arrival_of s b) p l hp, to_server t q c b, A.requests t q c l)
            (or_assoc (reached_by a t q c) (asked_first s p b t q c) (eqb c b && (eqb q p && eqb (arrival_of s c % 16) (t % 16)))
            ∙ rw (laws.ltb_more c b (eqb q p && eqb (arrival_of s c % 16) (t % 16))));
      }

-- ---- requests are taken

-- a word outside of the zeroed bytes
module _ (a r : List ℕ) (from to w b : ℕ) (Z : Zeroed a r from to) where
  word_below : 2 * w + 1 < from → bit b (word_of r w) ≡ bit b (word_of a w)
  word_below h = rw (laws.word_same a r w (Z.below (2 * w) (omega arith)) (Z.below (2 * w + 1) h))

  word-above : to ≤ 2 * w → bit b (word_of r w) ≡ bit b (word_of a w)
  word-above h = rw (laws.word_same a r w (Z.above (2 * w) h) (Z.above (2 * w + 1) (omega arith)))

zeroed_outside : (a r : List ℕ) (from to : ℕ) → calendar_size ≤ from → to ≤ requests_end → Zeroed a r from to → SameOutside a r
zeroed_outside a r from to h l Z = record {
  rest = record { size = Z.size; behind = λ k m. Z.above k (omega arith) };
  before = λ k m. Z.below k (omega arith);
}

-- the words of a tick are zeroed
pub taken : (a r : List ℕ) (t from : ℕ) → from ≡ 2 * request_word t 0 → Zeroed a r from (from + 2 * party_slots) → Taken a r t
taken a r t from d Z = record {
  outside = zeroed_outside a r from (from + 2 * party_slots) (omega arith) (omega arith) Z;
  requests = λ u p b l. elim (ℕ_discrete (u % 16) (t % 16)) [
    | yes e ↦ rw (eq-eqb (u % 16) (t % 16) e, laws.zeroed_word a r from (from + 2 * party_slots) (request_word u p) (omega arith) (omega arith) Z) (limits-laws.Bits.bit_zero b)
    | no e ↦ rw (ne_eqb (u % 16) (t % 16) e) (elim (dec_le (u % 16) (t % 16)) [
      | yes g ↦ word_below a r from (from + 2 * party_slots) (request_word u p) b Z (below (u % 16) (t % 16) p l e g d)
      | no g ↦ word-above a r from (from + 2 * party_slots) (request_word u p) b Z (above (u % 16) (t % 16) p g d)
    ])
  ];
}
  where
    below : (v w p : ℕ) → p < party_slots → (v ≡ w → ⊥) → v ≤ w → from ≡ 2 * (requests_at + (party_slots * w + 0)) → 2 * (requests_at + (party_slots * v + p)) + 1 < from
    below v w p l e g d = omega arith

    above : (v w p : ℕ) → (v ≤ w → ⊥) → from ≡ 2 * (requests_at + (party_slots * w + 0)) → from + 2 * party_slots ≤ 2 * (requests_at + (party_slots * v + p))
    above v w p g d = omega arith

-- all words are zeroed
pub unasked : (a r : List ℕ) → Zeroed a r calendar_size requests_end → SameOutside a r × Unasked r
unasked a r Z = (
  zeroed_outside a r calendar_size requests_end (omega arith) (omega arith) Z,
  record { requests = λ t p b l. rw (laws.zeroed_word a r calendar_size requests_end (request_word t p) (omega arith) (omega arith) Z) (limits-laws.Bits.bit_zero b) },
)

-- ---- the calendar where only requests change

module _ (a r : List ℕ) (O : SameOutside a r) where
  pub outside_sender : (x j i : ℕ) → x < rows → j < places → sender r x j i ≡ sender a x j i
  outside_sender x j i l m = rw (laws.word_same a r (cell_word x j) (O.before (2 * cell_word x j) (omega arith)) (O.before (2 * cell_word x j + 1) (omega arith)))

  pub outside_spanned : Spanned a → Spanned r
  outside_spanned S = record {
    top = λ x l. rw (O.before (2 * x + 1) (omega arith)) (S.top x l);
    within = λ x j i l m e.
        let w = S.within x j i l m (sym (outside_sender x j i l m) ∙ e) in
        (rw (O.before (2 * x) (omega arith)) w.0, rw (O.before (2 * x + 1) (omega arith)) w.1);
  }

  pub outside_empty : Empty a → Empty r
  outside_empty E = record {
    low = λ x l. rw (O.before (2 * x) (omega arith)) (E.low x l);
    high = λ x l. O.before (2 * x + 1) (omega arith) ∙ E.high x l;
    cells = λ x j i l m. outside_sender x j i l m ∙ E.cells x j i l m;
  }
