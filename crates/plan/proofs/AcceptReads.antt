-- The reads of a plan that can be played: each is an operation of a reader and ends below H, those of one reader are apart, and they stand in order
-- of begin, then reader. It stands on AcceptOperations.
use mathlib.Core.Path.{◌≡◌, refl, sym, ap, ◌∙◌}
use mathlib.Core.Bool.{Bool, true, false, not, cond}
use mathlib.Core.Logic.{inl, inr}
use mathlib.Core.List.{List, ◌∷◌, map}
use Prim.Native.Nat.{ℕ, zero, suc, ◌+◌, ◌*◌, ◌≤◌, ◌<◌}
use native.Mathlib.Omega.{arith}
use native.Mathlib.Decide.{dec_le}
use lib.Dec.{T, eqb, T_not}
use lib.ListN.{length, get_or}
use Rattle.register.specs.Lists.{In, tab_from, filter}
use Rattle.register.specs.Plan.{Read, read_end}
use Rattle.plan.specs.Header.{header_of}
use Rattle.plan.specs.Parts.{Operation, operation_of, operations_of, reads_from}
use Rattle.plan.specs.Packed.{plan_of}
use Rattle.plan.specs.Playable.{Playable}
use Rattle.plan.specs.Check.{end_of}
use Rattle.plan.proofs.Tests.{get_d_in}
use Rattle.plan.proofs.Accept.{in_range}
use Rattle.plan.proofs.AcceptOperations.{read_end_lem, stands, waits, rises, at_lt}
use Rattle.plan.proofs.Reading.{read_by}

-- the reads of an operation, where c says that it is a reader's, and of those behind it
abbrev reads_after : Bool → Operation → List Operation → List Read
reads_after c o os = map read_by (cond c (o ∷ filter (λ q. not (eqb q.party 0)) os) (filter (λ q. not (eqb q.party 0)) os))

no_reader : (x : ℕ) → ¬ (1 ≤ x) → T (eqb x 0)
no_reader x l = let z : x ≡ 0 = omega arith in rw z tt

-- r is the read of operation i, one of those from a on, below b
pub record ReadOf (op : ℕ → Operation) (a b : ℕ) (r : Read) : Type 0 where
  pub index : ℕ
  pub index_lo : a ≤ index
  pub index_hi : index < b
  pub by_reader : T (not (eqb (op index).party 0))
  pub same : r ≡ read_by (op index)

module _ (op : ℕ → Operation) where
  read-from : (a m b : ℕ) → a + m ≡ b → (r : Read) → In r (reads_from (tab_from a m op)) → ReadOf op a b r
  unfolding reads_from tab_from filter
  read-from a zero b e r i = absurd i
  read-from a (suc m) b e r i = go (not (eqb (op a).party 0)) refl i (λ j. read-from (suc a) m b (omega arith) r j)
    where
      later : ReadOf op (suc a) b r → ReadOf op a b r
      later R = record { index = R.index; index_lo = omega arith; index_hi = R.index_hi; by_reader = R.by_reader; same = R.same }

      go : (c : Bool) → not (eqb (op a).party 0) ≡ c
          → In r (reads_after c (op a) (tab_from (suc a) m op))
          → (In r (reads_from (tab_from (suc a) m op)) → ReadOf op (suc a) b r) → ReadOf op a b r
      go true q (inl d) ih = record { index = a; index_lo = omega arith; index_hi = omega arith; by_reader = rw q tt; same = d }
      go true q (inr j) ih = later (ih j)
      go false q j ih = later (ih j)

  reads-at-most : (a m : ℕ) → length (reads_from (tab_from a m op)) ≤ m
  unfolding reads_from tab_from filter
  reads-at-most a zero = omega arith
  reads-at-most a (suc m) = go (not (eqb (op a).party 0)) (reads-at-most (suc a) m)
    where
      go : (c : Bool) → length (reads_from (tab_from (suc a) m op)) ≤ m → length (reads_after c (op a) (tab_from (suc a) m op)) ≤ suc m
      go true h = omega arith
      go false h = omega arith

  -- where the operations rise, so do their reads
  reads-ordered : (d : Read) (a m : ℕ)
      → ((i j : ℕ) → i < j → j < a + m → (op i).at * 8 + (op i).party < (op j).at * 8 + (op j).party)
      → (i j : ℕ) → i < j → j < length (reads_from (tab_from a m op))
      → (get_or (reads_from (tab_from a m op)) i d).begun * 8 + (get_or (reads_from (tab_from a m op)) i d).reader
      < (get_or (reads_from (tab_from a m op)) j d).begun * 8 + (get_or (reads_from (tab_from a m op)) j d).reader
  unfolding reads_from tab_from filter
  reads-ordered d a zero up i j l k = absurd (omega arith)
  reads-ordered d a (suc m) up i j l k =
      go (not (eqb (op a).party 0)) i j l k (λ x y. reads-ordered d (suc a) m (λ u v q z. up u v q (omega arith)) x y)
    where
      rest : List Read
      rest = reads_from (tab_from (suc a) m op)

      key : Read → ℕ
      key r = r.begun * 8 + r.reader

      first : (j : ℕ) → j < length rest → key (read_by (op a)) < key (get_or rest j d)
      first j k =
          let R = read-from (suc a) m (a + suc m) (omega arith) (get_or rest j d) (get_d_in rest j d k) in
          omega (arith, up a R.index R.index_lo R.index_hi, ap key R.same)

      go : (c : Bool) (i j : ℕ) → i < j
          → j < length (reads_after c (op a) (tab_from (suc a) m op))
          → ((x y : ℕ) → x < y → y < length rest → key (get_or rest x d) < key (get_or rest y d))
          → key (get_or (reads_after c (op a) (tab_from (suc a) m op)) i d)
          < key (get_or (reads_after c (op a) (tab_from (suc a) m op)) j d)
      go false i j l k ih = ih i j l k
      go true i zero l k ih = absurd (omega arith)
      go true zero (suc j) l k ih = first j (omega arith)
      go true (suc i) (suc j) l k ih = ih i j (omega arith) (omega arith)

pub few_reads : (w : ℕ) (s : List ℕ) → length (plan_of w s).reads ≤ (header_of w s).operations
unfolding plan_of operations_of
few_reads w s = reads-at-most (operation_of w s (header_of w s)) 0 (header_of w s).operations

-- a read of an accepted plan
pub record ReadStands (w : ℕ) (s : List ℕ) (r : Read) : Type 0 where
  pub reader_lo : 1 ≤ r.reader
  pub reader_hi : r.reader ≤ (header_of w s).readers
  pub reader_below : r.reader < 8
  pub begun_below : r.begun < 128
  pub ends : read_end (plan_of w s) r < (header_of w s).ticks

module _ (w : ℕ) (s : List ℕ) (A : Playable w s) where
  pub read_operation : (r : Read) → In r (plan_of w s).reads → ReadOf (operation_of w s (header_of w s)) 0 (header_of w s).operations r
  unfolding plan_of operations_of
  read_operation r i = read-from (operation_of w s (header_of w s)) 0 (header_of w s).operations (header_of w s).operations (omega arith) r i

  -- its end is that of its operation
  read_ends : (r : Read) → (R : ReadOf (operation_of w s (header_of w s)) 0 (header_of w s).operations r)
      → end_of (header_of w s) (operation_of w s (header_of w s) R.index) ≡ read_end (plan_of w s) r
  unfolding plan_of
  read_ends r R =
      let e = read_end_lem (header_of w s) (operation_of w s (header_of w s) R.index) R.by_reader in
      omega (arith, ap (λ (q : Read). q.begun) R.same)

  pub read_stands : (r : Read) → In r (plan_of w s).reads → ReadStands w s r
  read_stands r i =
      let R = read_operation r i in
      let S = stands w s A R.index R.index_hi in
      let party : r.reader ≡ (operation_of w s (header_of w s) R.index).party = ap (λ (q : Read). q.reader) R.same in
      let begin : r.begun ≡ (operation_of w s (header_of w s) R.index).at = ap (λ (q : Read). q.begun) R.same in
      let H = in_range w s A in
      record {
        reader_lo = elim (dec_le 1 r.reader) [
          | yes l ↦ l
          | no l ↦ absurd (T_not (eqb r.reader 0) (rw party R.by_reader) (no_reader r.reader l))
        ];
        reader_hi = omega arith;
        reader_below = omega arith;
        begun_below = omega (arith, at_lt w s A R.index);
        ends = omega (arith, read_ends r R);
      }

  -- a reader's next read begins after its last one ended
  pub reads_apart : (q r : Read) → In q (plan_of w s).reads → In r (plan_of w s).reads → q.reader ≡ r.reader → q.begun < r.begun
      → read_end (plan_of w s) q < r.begun
  reads_apart q r i j e l = go (dec_le (suc Q.index) R.index) (dec_le (suc R.index) Q.index)
    where
      op : ℕ → Operation
      op k = operation_of w s (header_of w s) k

      Q : ReadOf (operation_of w s (header_of w s)) 0 (header_of w s).operations q
      Q = read_operation q i

      R : ReadOf (operation_of w s (header_of w s)) 0 (header_of w s).operations r
      R = read_operation r j

      parties-same : (op Q.index).party ≡ (op R.index).party
      parties-same = sym (ap (λ (x : Read). x.reader) Q.same) ∙ e ∙ ap (λ (x : Read). x.reader) R.same

      go : Dec (Q.index < R.index) → Dec (R.index < Q.index) → read_end (plan_of w s) q < r.begun
      go (yes a) b =
          let first = waits w s A Q.index R.index a R.index_hi parties-same in
          omega (arith, first, read_ends q Q, ap (λ (x : Read). x.begun) R.same)
      go (no a) (yes b) =
          let first = waits w s A R.index Q.index b Q.index_hi (sym parties-same) in
          absurd (omega (arith, first, read_ends r R, ap (λ (x : Read). x.begun) Q.same))
      go (no a) (no b) =
          let z : Q.index ≡ R.index = omega arith in
          absurd (omega (arith, ap (λ (x : Read). x.begun) Q.same, ap (λ (x : Read). x.begun) R.same, ap (λ (k : ℕ). (op k).at) z))

  -- 'Answers stand in order of begin, then screen'
  pub reads_rise : (d : Read) (i j : ℕ) → i < j → j < length (plan_of w s).reads
      → (get_or (plan_of w s).reads i d).begun * 8 + (get_or (plan_of w s).reads i d).reader
      < (get_or (plan_of w s).reads j d).begun * 8 + (get_or (plan_of w s).reads j d).reader
  unfolding plan_of operations_of
  reads_rise d i j l k =
      reads-ordered (operation_of w s (header_of w s)) d 0 (header_of w s).operations (λ x y a b. rises w s A x y a (omega arith)) i j l k
