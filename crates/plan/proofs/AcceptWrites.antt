-- The writes of a plan that can be played: the j-th is numbered j + 1 and is an operation of the writer, each begins after the last one ended, and
-- there are at most 64. It stands on AcceptOperations.
use mathlib.Core.Path.{◌≡◌, refl, sym, ◌∙◌}
use mathlib.Core.Bool.{Bool, true, false, cond}
use mathlib.Core.List.{List, ◌∷◌}
use Prim.Native.Nat.{ℕ, zero, suc, ◌+◌, ◌*◌, ◌≤◌, ◌<◌}
use native.Mathlib.Nat.{add-zero}
use native.Mathlib.Omega.{arith}
use lib.Dec.{eqb, eqb→eq}
use lib.ListN.{length, get_or}
use Rattle.register.specs.Lists.{In, tab_from}
use Rattle.register.specs.Plan.{Write, stamped, number_of}
use Rattle.plan.specs.Header.{header_of}
use Rattle.plan.specs.Parts.{Operation, operation_of, operations_of, writes_from}
use Rattle.plan.specs.Packed.{plan_of}
use Rattle.plan.proofs.Tests.{in_get_d}
use Rattle.register.proofs.Stamped.{number_stamped}
use Rattle.plan.specs.Playable.{Playable}
use Rattle.plan.proofs.Accept.{in_range}
use Rattle.plan.proofs.AcceptOperations.{write_end_lem, stands, waits, value_lt}

-- v is the write of an operation, one of those from a on, below b, and has this number
pub record WriteOf (w : ℕ) (op : ℕ → Operation) (a b number : ℕ) (v : Write) : Type 0 where
  pub index : ℕ
  pub index_lo : a ≤ index
  pub index_hi : index < b
  pub by_writer : (op index).party ≡ 0
  pub begun_same : v.begun ≡ (op index).at
  pub pair_same : v.pair ≡ stamped w (op index).value number

module _ (w : ℕ) (op : ℕ → Operation) (d : Write) where
  -- the writes of an operation, where c says that it is the writer's, and of those behind it
  abbrev writes_after : Bool → ℕ → ℕ → ℕ → List Write
  writes_after c k a m =
      cond c (record { begun = (op a).at; pair = stamped w (op a).value k } ∷ writes_from w (k + 1) (tab_from (suc a) m op))
      (writes_from w k (tab_from (suc a) m op))

  write-at : (k a m b j : ℕ) → a + m ≡ b → j < length (writes_from w k (tab_from a m op))
      → WriteOf w op a b (k + j) (get_or (writes_from w k (tab_from a m op)) j d)
  unfolding writes_from tab_from
  write-at k a zero b j e l = absurd (omega arith)
  write-at k a (suc m) b j e l =
      go (eqb (op a).party 0) refl j l (λ i. write-at (k + 1) (suc a) m b i (omega arith)) (λ i. write-at k (suc a) m b i (omega arith))
    where
      Numbered : ℕ → List Write → Type 0
      Numbered k l = (i : ℕ) → i < length l → WriteOf w op (suc a) b (k + i) (get_or l i d)

      later : (number : ℕ) (v : Write) → WriteOf w op (suc a) b number v → WriteOf w op a b number v
      later number v W = record {
        index = W.index;
        index_lo = omega arith;
        index_hi = W.index_hi;
        by_writer = W.by_writer;
        begun_same = W.begun_same;
        pair_same = W.pair_same;
      }

      go : (c : Bool) → eqb (op a).party 0 ≡ c → (j : ℕ) → j < length (writes_after c k a m)
          → Numbered (k + 1) (writes_from w (k + 1) (tab_from (suc a) m op)) → Numbered k (writes_from w k (tab_from (suc a) m op))
          → WriteOf w op a b (k + j) (get_or (writes_after c k a m) j d)
      go true q zero l ih1 ih2 = rw add-zero (record {
        index = a;
        index_lo = omega arith;
        index_hi = omega arith;
        by_writer = eqb→eq (op a).party 0 (rw q tt);
        begun_same = refl;
        pair_same = refl;
      })
      go true q (suc j) l ih1 ih2 =
          let number : k + suc j ≡ k + 1 + j = omega arith in
          rw number (later (k + 1 + j) _ (ih1 j (omega arith)))
      go false q j l ih1 ih2 = later (k + j) _ (ih2 j l)

  -- where the operations of the writer are apart, so are the writes
  writes-ordered : (k a m gap : ℕ)
      → ((i j : ℕ) → i < j → j < a + m → (op i).party ≡ 0 → (op j).party ≡ 0 → (op i).at + gap < (op j).at)
      → (i j : ℕ) → i < j → j < length (writes_from w k (tab_from a m op))
      → (get_or (writes_from w k (tab_from a m op)) i d).begun + gap < (get_or (writes_from w k (tab_from a m op)) j d).begun
  unfolding writes_from tab_from
  writes-ordered k a zero gap up i j l h = absurd (omega arith)
  writes-ordered k a (suc m) gap up i j l h =
      go (eqb (op a).party 0) refl i j l h (writes-ordered (k + 1) (suc a) m gap (λ u v q z. up u v q (omega arith)))
      (writes-ordered k (suc a) m gap (λ u v q z. up u v q (omega arith)))
    where
      Apart : List Write → Type 0
      Apart l = (i j : ℕ) → i < j → j < length l → (get_or l i d).begun + gap < (get_or l j d).begun

      go : (c : Bool) → eqb (op a).party 0 ≡ c → (i j : ℕ) → i < j → j < length (writes_after c k a m)
          → Apart (writes_from w (k + 1) (tab_from (suc a) m op)) → Apart (writes_from w k (tab_from (suc a) m op))
          → (get_or (writes_after c k a m) i d).begun + gap < (get_or (writes_after c k a m) j d).begun
      go false q i j l h ih1 ih2 = ih2 i j l h
      go true q i zero l h ih1 ih2 = absurd (omega arith)
      go true q zero (suc j) l h ih1 ih2 =
          let W = write-at (k + 1) (suc a) m (a + suc m) j (omega arith) (omega arith) in
          omega (arith, up a W.index W.index_lo W.index_hi (eqb→eq (op a).party 0 (rw q tt)) W.by_writer, W.begun_same)
      go true q (suc i) (suc j) l h ih1 ih2 = ih1 i j (omega arith) (omega arith)

module _ (w : ℕ) (s : List ℕ) (A : Playable w s) where
  module _ (d : Write) where
    -- 'the desk's writes are 1, 2, 3 .. in order'
    pub write_operation : (j : ℕ) → j < length (plan_of w s).writes
        → WriteOf w (operation_of w s (header_of w s)) 0 (header_of w s).operations (1 + j) (get_or (plan_of w s).writes j d)
    unfolding plan_of operations_of
    write_operation j l = write-at w (operation_of w s (header_of w s)) d 1 0 (header_of w s).operations (header_of w s).operations j (omega arith) l

    -- a write begins after the last one ended
    pub writes_apart : (i j : ℕ) → i < j → j < length (plan_of w s).writes
        → (get_or (plan_of w s).writes i d).begun + (header_of w s).delta < (get_or (plan_of w s).writes j d).begun
    unfolding plan_of operations_of
    writes_apart i j l h = writes-ordered w op d 1 0 (header_of w s).operations (header_of w s).delta up i j l h
      where
        op : ℕ → Operation
        op k = operation_of w s (header_of w s) k

        up : (i j : ℕ) → i < j → j < 0 + (header_of w s).operations → (op i).party ≡ 0 → (op j).party ≡ 0 → (op i).at + (header_of w s).delta < (op j).at
        up i j l h p q = omega (arith, waits w s A i j l (omega arith) (p ∙ sym q), write_end_lem (header_of w s) (op i) p)

    pub write_ends : (j : ℕ) → j < length (plan_of w s).writes → (get_or (plan_of w s).writes j d).begun + (header_of w s).delta < (header_of w s).ticks
    write_ends j l =
        let W = write_operation j l in
        let S = stands w s A W.index W.index_hi in
        omega (arith, S.ends, write_end_lem (header_of w s) (operation_of w s (header_of w s) W.index) W.by_writer, W.begun_same)

    -- each takes two ticks or more
    write-late : (j : ℕ) → j < length (plan_of w s).writes → 2 * j ≤ (get_or (plan_of w s).writes j d).begun
    write-late zero l = omega arith
    write-late (suc j) l = omega (arith, write-late j (omega arith), writes_apart j (suc j) (omega arith) l, (in_range w s A).delta_lo)

    pub write_number : (j : ℕ) → j < length (plan_of w s).writes → number_of w (get_or (plan_of w s).writes j d).pair ≡ 1 + j
    write_number j l =
        let W = write_operation j l in
        rw (W.pair_same, number_stamped w (operation_of w s (header_of w s) W.index).value (1 + j) (value_lt w s A W.index))

  pub few_writes : length (plan_of w s).writes ≤ 64
  few_writes = go (length (plan_of w s).writes) refl
    where
      none : Write
      none = record { begun = 0; pair = 0 }

      go : (m : ℕ) → length (plan_of w s).writes ≡ m → m ≤ 64
      go zero e = omega arith
      go (suc m) e = omega (arith, write-late none m (omega arith), write_ends none m (omega arith), (in_range w s A).ticks_hi, (in_range w s A).delta_lo)

  pub number_hi : (u : Write) → In u (plan_of w s).writes → number_of w u.pair ≤ 64
  number_hi u m =
      let none : Write = record { begun = 0; pair = 0 } in
      let (j, l, e) = in_get_d (plan_of w s).writes u none m in
      rw e (omega (arith, write_number none j l, few_writes))
