-- Steps of the stages' proofs: the quorum's test by masks, a turn of taking in, and the stages put together from what their calls give.
-- It stands on the laws of sets kept as the bits of a number.
use mathlib.Core.Path.{◌≡◌, refl, sym, ap, ◌∙◌, fun_ext}
use mathlib.Core.Bool.{Bool, true, false, ◌&&◌, ◌||◌, cond}
use mathlib.Core.List.{List, []}
use Prim.Native.Nat.{ℕ, zero, suc, ◌+◌, ◌/◌, ◌%◌, ◌^◌, ◌≤◌, ◌<◌}
use native.Mathlib.Omega.{arith}
use lib.Dec.{leb, ltb}
use lib.ListN.{take}
use lib.Bits.{bit_or, bit_and}
use lib.Count.{ones}
use borrow.Author.Tests.{lt-ltb, le-leb, ltb-true}
use Rattle.register.specs.Lists.{same_list, one_if}
use Rattle.register.specs.Server.{Status, faulty, cured, correct, is_correct, insert}
use Rattle.register.proofs as register-laws
use Rattle.plan.specs.Packed.{store_depth}
use Rattle.limits.specs.Bits.{bit}
use Rattle.limits.proofs.Bits.{bit_zero, bit_or_lem, bit_and_lem, ones_count}
use Rattle.calendar.proofs.Laws.{under}
use Rattle.serving.specs.declared.Status.{Status as StoredStatus}
use Rattle.serving.specs.declared.Status.TheVariants.{Faulty, Cured, Correct}
use Rattle.serving.specs.declared.Server.{Server}
use Rattle.serving.specs.Stored.{Plain, Both, status_of, Becomes}
use Rattle.stores.specs.Stores.{keys}
use Rattle.serving.specs.Stages.{nobody, blank_as, restated, written, reset_at, in_span, quorate, taken, voting, with_write, replies_to, delivered, delivered_of, stage_one}
use Rattle.tallies.specs.Tallies.{no_votes, joined}

pub zero_set : (λ x. bit x 0) ≡ nobody
zero_set = fun_ext bit_zero

-- ---- quorums

module _ (e r f o : ℕ) (h : f < 2 ^ 16) (g : o < 2 ^ 16) where
  pub quorate_law : quorate e r (λ i. bit i f) (λ i. bit i o) ≡ (leb e (ones f) || leb r (ones o))
  quorate_law = rw (ones_count 16 f h, ones_count 16 o g)

-- a pair in the span
pub in_span_lem : (low high j : ℕ) (b v : Bool) → low ≤ j → j < high → v ≡ b → in_span low high j && v ≡ b
in_span_lem low high j b v l h e = rw (le-leb low j l, lt-ltb j high h) e

-- ---- a turn of taking in

module _ (c : ℕ → Bool) (j : ℕ) (l k r : List ℕ) (e : k ≡ taken c j l) where
  pub taken_more : (b : Bool) → c j ≡ b → r ≡ cond b (take store_depth (insert j k)) k → r ≡ taken c (j + 1) l
  unfolding taken
  taken_more b h q = let z : j + 1 ≡ suc j = omega arith in rw (z, h, ← e) q

-- ---- stage 1

pub replied_law : (r a p : ℕ) (c s c' s' : Bool) → r ≡ cond c (cond s a p) 0 → c ≡ c' → s ≡ s'
    → (λ x. bit x r) ≡ replies_to c' s' (λ x. bit x a) (λ x. bit x p)
replied_law r a p c s true true e f g = rw (e, f, g)
replied_law r a p c s true false e f g = rw (e, f, g)
replied_law r a p c s false s' e f g = rw (e, f) zero_set

pub pending_law : (p l a : ℕ) → ◌≡◌ {A = ℕ → Bool} (λ x. bit x (bit_or (bit_and p l) a)) (λ x. (bit x p && bit x l) || bit x a)
pending_law p l a = fun_ext (λ x. rw (bit_or_lem x (bit_and p l) a, bit_and_lem x p l))

pub write_kept : (m w : ℕ) (s : Plain) → (with_write m w s).kept ≡ cond (ltb w m) (take store_depth (insert w s.kept)) s.kept
write_kept m w s = register-laws.Logic.cond_ap (λ (x : Plain). x.kept) (ltb w m) (written w s) s

pub delivered_law : (m : ℕ) (c : ℕ → Bool) (w : ℕ) (got : ℕ → ℕ → Bool) (asks live : ℕ → Bool) (s : Plain) (first kept : List ℕ) (pend readers : ℕ → Bool)
    (fresh recent : ℕ → ℕ → Bool)
    → first ≡ cond (ltb w m) (take store_depth (insert w s.kept)) s.kept → kept ≡ taken c m first
    → pend ≡ (λ x. (s.pending x && live x) || asks x) → readers ≡ replies_to (is_correct s.status) (same_list s.kept kept) asks pend
    → fresh ≡ joined m s.fresh got → recent ≡ joined m s.recent got
    → record {
      server = record { status = s.status; kept = kept; pending = pend; fresh = fresh; recent = recent };
      said = record { wrote = w; echoed = false; readers = readers; pairs = kept };
    } ≡ delivered_of m c w got asks live s
unfolding delivered_of
delivered_law m c w got asks live s first kept pend readers fresh recent f k p a x y = rw (a, k, p, f, x, y, write_kept m w s)

-- the pairs that pass may be those of a span
pub spanned_law : (m e r w : ℕ) (got : ℕ → ℕ → Bool) (asks live : ℕ → Bool) (s : Plain) (o : Both) (c : ℕ → Bool) → o ≡ delivered_of m c w got asks live s
    → taken c m (with_write m w s).kept ≡ taken (voting e r (joined m s.fresh got) (joined m s.recent got)) m (with_write m w s).kept
    → o ≡ delivered m e r w got asks live s
unfolding delivered delivered_of
spanned_law m e r w got asks live s o c d k = d ∙ rw k

-- only what arrives for the known pairs matters
joined_alike : (m : ℕ) (votes got got' : ℕ → ℕ → Bool) → ((j i : ℕ) → j < m → got j i ≡ got' j i) → joined m votes got ≡ joined m votes got'
joined_alike m votes got got' e = fun_ext (λ j. fun_ext (λ i. ap (λ (x : Bool). votes j i || x) (under (ltb j m) _ _ (λ l. e j i (ltb-true j m l)))))

pub one_alike : (m e r w : ℕ) (got got' : ℕ → ℕ → Bool) (asks live : ℕ → Bool) (s : Plain) → ((j i : ℕ) → j < m → got j i ≡ got' j i)
    → stage_one m e r w got asks live s ≡ stage_one m e r w got' asks live s
unfolding stage_one delivered delivered_of
one_alike m e r w got got' asks live s h = rw (joined_alike m s.fresh got got' h, joined_alike m s.recent got got' h)

-- ---- stages 2 to 4

-- a server with no pair, no reader and no vote
pub blank_law : (st : Status) (kept : List ℕ) (pend : ℕ → Bool) (fresh recent : ℕ → ℕ → Bool) → kept ≡ [] → pend ≡ nobody → fresh ≡ no_votes → recent ≡ no_votes
    → record { status = st; kept = kept; pending = pend; fresh = fresh; recent = recent } ≡ blank_as st
blank_law st kept pend fresh recent k p f r = rw (k, p, f, r)

-- a server that becomes faulty is reset first
pub seized : (t : ℕ) (s q : Plain) → q ≡ reset_at t → s ≡ restated faulty q → s ≡ blank_as faulty
seized t s q e f = rw (f, e)

-- ---- the stored parts of a server that takes a pair in

stored : Status → StoredStatus
stored faulty = Faulty
stored (cured t) = Cured t
stored correct = Correct

stored_same : (s : StoredStatus) → stored (status_of s) ≡ s
unfolding stored
stored_same Faulty = refl
stored_same (Cured t) = refl
stored_same Correct = refl

-- a set has one number
bits_same : (n a b : ℕ) → a ≤ n → b ≤ n → ((x : ℕ) → bit x a ≡ bit x b) → a ≡ b
unfolding bit
bits_same zero a b h k e = omega arith
bits_same (suc n) a b h k e =
    let q : a / 2 ≡ b / 2 = bits_same n (a / 2) (b / 2) (omega arith) (omega arith) (λ x. e (suc x)) in
    let d : a % 2 ≡ b % 2 =
    register-laws.Counting.digit_one (a % 2) (omega arith) ∙ (ap one_if (e 0) ∙ sym (register-laws.Counting.digit_one (b % 2) (omega arith))) in
    omega arith

module _ (p : ℕ) (s r : Server) (B : Becomes (written p) s r) where
  pub written_status : r.status ≡ s.status
  written_status = sym (stored_same r.status) ∙ (ap (λ (x : Plain). stored x.status) (B 0 [] 0) ∙ stored_same s.status)

  pub written_pending : r.pending ≡ s.pending
  written_pending = bits_same (r.pending + s.pending) r.pending s.pending (omega arith) (omega arith) (λ x. ap (λ (y : Plain). y.pending x) (B 0 [] 0))

  pub written_keys : keys r.kept ≡ take store_depth (insert p (keys s.kept))
  written_keys = ap (λ (x : Plain). x.kept) (B 0 [] 0)
