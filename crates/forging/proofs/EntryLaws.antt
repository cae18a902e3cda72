-- The bytes of a forged entry after its five stores, and one entry more.
-- It stands on the library's laws of stores.
use mathlib.Core.Path.{◌≡◌, refl, ◌∙◌}
use mathlib.Core.Logic.{inl, inr, ◌≢◌}
use mathlib.Core.List.{List, [], ◌∷◌, ◌++◌, append_assoc}
use Prim.Native.Nat.{ℕ, ◌+◌, ◌*◌, ◌≤◌, ◌<◌}
use native.Mathlib.Numerals.{towards_suc}
use native.Mathlib.Omega.{arith}
use native.Mathlib.Decide.{ℕ_discrete}
use lib.ListN.{length, get_or, take, drop, length-set}
use lib.Seq.{get_or-set_other, get_or-append-add, length-take-le, sets-eq}
use Rattle.register.specs.Plan.{Forgery}
use Rattle.forging.specs.Entries.{entries_at, entry_at, entry_bytes, Entry, Filled}

module _ (work : List ℕ) (at a b c d e : ℕ) where
  bytes-other : (p : ℕ) → ((k : ℕ) → k < 5 → p ≢ at + k) → get_or (entry_bytes work at a b c d e) p 0 ≡ get_or work p 0
  unfolding entry_bytes
  bytes-other p h =
      let first : p ≢ at = λ z. h 0 (omega arith) (omega arith) in
      simp (get_or-set_other, first, h 1 (omega arith), h 2 (omega arith), h 3 (omega arith), h 4 (omega arith))

  module _ (fits : at + 5 ≤ length work) where
    stores : entry_bytes work at a b c d e ≡ take at work ++ (a ∷ b ∷ c ∷ d ∷ e ∷ drop (at + 5) work)
    unfolding entry_bytes
    stores = simp towards_suc (simp (towards_suc, append_assoc) at (sets-eq (a ∷ b ∷ c ∷ d ∷ e ∷ []) work at fits))

    byte : (k : ℕ) → get_or (entry_bytes work at a b c d e) (at + k) 0 ≡ get_or (a ∷ b ∷ c ∷ d ∷ e ∷ drop (at + 5) work) k 0
    byte k = rw stores (rw (length-take-le at work (omega arith)) at (get_or-append-add (take at work) (a ∷ b ∷ c ∷ d ∷ e ∷ drop (at + 5) work) k 0))

-- an entry stays where its bytes stay
pub entry_kept : (work after : List ℕ) (e : ℕ) (g : Forgery) (delay number : ℕ) → ((k : ℕ) → k < 5 → entry_at after e k ≡ entry_at work e k) → Entry work e g delay number → Entry after e g delay number
entry_kept work after e g delay number same E = record {
  sent = same 0 (omega arith) ∙ E.sent;
  arrival = same 1 (omega arith) ∙ E.arrival;
  receiver = same 2 (omega arith) ∙ E.receiver;
  sender = same 3 (omega arith) ∙ E.sender;
  known = same 4 (omega arith) ∙ E.known;
}

pub filled_none : (work : List ℕ) (g : ℕ → Forgery) (delay number : ℕ → ℕ) → Filled work work 0 g delay number
filled_none work g delay number = record { size = refl; entry = λ e l. absurd (omega arith); other = λ p h. refl }

module _ (before work : List ℕ) (e : ℕ) (g : ℕ → Forgery) (delay number : ℕ → ℕ) (F : Filled before work e g delay number) (fits : entries_at + 8 * e + 5 ≤ length work) where
  abbrev pub after : List ℕ
  after = entry_bytes work (entries_at + 8 * e) (g e).at ((g e).at + delay e) (g e).to (g e).from (number e)

  other : (p : ℕ) → ((k : ℕ) → k < 5 → p ≢ entries_at + 8 * e + k) → get_or after p 0 ≡ get_or work p 0
  other = bytes-other work (entries_at + 8 * e) _ _ _ _ _

  here : (k : ℕ) → entry_at after e k ≡ get_or ((g e).at ∷ ((g e).at + delay e) ∷ (g e).to ∷ (g e).from ∷ number e ∷ drop (entries_at + 8 * e + 5) work) k 0
  here = byte work (entries_at + 8 * e) _ _ _ _ _ fits

  pub filled_more : Filled before after (e + 1) g delay number
  unfolding entry_bytes
  filled_more = record {
    size = simp length-set F.size;
    entry = λ i l. elim (ℕ_discrete i e) [
      | yes z ↦ rw z (record { sent = here 0; arrival = here 1; receiver = here 2; sender = here 3; known = here 4 })
      | no d ↦ entry_kept work after i _ _ _ (λ k m. other (entries_at + 8 * i + k) (λ j n z. omega arith)) (F.entry i (omega arith))
    ];
    other = λ p h. elim h [
      | inl x ↦ other p (λ k l z. omega arith) ∙ F.other p (inl x)
      | inr x ↦ other p (λ k l z. omega arith) ∙ F.other p (inr (omega arith))
    ];
  }
