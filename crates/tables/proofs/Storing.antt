-- The writes and the reads of one operation more, and what the tables say after it is stored.
-- It stands on the definitions of the plan's parts.
use mathlib.Core.Path.{◌≡◌, refl, ap, ◌∙◌}
use mathlib.Core.Bool.{false}
use mathlib.Core.Logic.{inl, inr}
use mathlib.Core.List.{List, [], ◌∷◌, ◌++◌, append-nil}
use Prim.Native.Nat.{ℕ, zero, suc, ◌+◌, ◌-◌, ◌^◌, ◌≤◌, ◌<◌}
use native.Mathlib.Nat.{add-zero, zero-add}
use native.Mathlib.Numerals.{add-one}
use native.Mathlib.Omega.{arith}
use native.Mathlib.Decide.{ℕ_discrete}
use lib.Dec.{eqb}
use lib.ListN.{length, get_or, set, length-append, get_or-append}
use lib.Seq.{get_or-set_same, get_or-set_other, get_or-append_seam}
use Rattle.register.specs.Lists.{tab_from, tab, filter}
use Rattle.register.specs.Plan.{Write, Read, stamped}
use Rattle.register.proofs.Logic.{test, T_eq, F_eq}
use Rattle.register.proofs.Lists.{tab_last}
use Rattle.plan.specs.Parts.{Operation, writes_from, reads_from}
use Rattle.plan.proofs.Reading.{reads_last}
use Rattle.tables.specs.Operations.{no_write, no_read, Written, ReadIn}
use Rattle.tables.proofs.Tables.{each_stored}

writes_append : (w k : ℕ) (os ps : List Operation) → writes_from w k (os ++ ps) ≡ writes_from w k os ++ writes_from w (k + length (writes_from w k os)) ps
unfolding writes_from
writes_append w k [] ps = rw add-zero
writes_append w k (q ∷ os) ps =
    let z : k + 1 + length (writes_from w (k + 1) os) ≡ k + suc (length (writes_from w (k + 1) os)) = omega arith in
    rw (writes_append w (k + 1) os ps, writes_append w k os ps, z) (elim (test (eqb q.party 0)) [ inl t ↦ rw (T_eq (eqb q.party 0) t) | inr t ↦ rw (F_eq (eqb q.party 0) t) ])

module _ (w : ℕ) (op : ℕ → Operation) where
  -- one operation more
  writes_more : (i : ℕ) → writes_from w 1 (tab (i + 1) op) ≡ writes_from w 1 (tab i op) ++ writes_from w (1 + length (writes_from w 1 (tab i op))) (op i ∷ [])
  writes_more i = rw (add-one i, tab_last 0 i op, zero-add i, writes_append w 1 (tab i op) (op i ∷ []))

  -- the writes of some operations are no more than those of more operations
  writes-grow : (i d : ℕ) → length (writes_from w 1 (tab i op)) ≤ length (writes_from w 1 (tab (i + d) op))
  writes-grow i zero = rw add-zero (omega arith)
  writes-grow i (suc d) = let e : i + suc d ≡ i + d + 1 = omega arith in rw (e, writes_more (i + d), length-append) (omega (arith, writes-grow i d))

  -- before the first operation: the initial value alone
  pub written_none : (initial : ℕ) (values begun : List ℕ) → get_or values 0 0 ≡ initial → ((j : ℕ) → get_or values j 0 < 2 ^ w)
      → Written w (writes_from w 1 (tab 0 op)) initial values begun 1
  unfolding writes_from tab_from
  written_none initial values begun e small = record { count = refl; few = omega arith; first = e; small = small; each = λ j l. absurd (omega arith) }

  module _ (i initial : ℕ) (values begun : List ℕ) (m : ℕ) (W : Written w (writes_from w 1 (tab i op)) initial values begun m) where
    pub write_left : eqb (op i).party 0 ≡ false → Written w (writes_from w 1 (tab (i + 1) op)) initial values begun m
    unfolding writes_from
    write_left e = rw (writes_more i, e, append-nil _) W

    module _ (count : ℕ) (below : i < count) (fewer : length (writes_from w 1 (tab count op)) ≤ 64) (e : (op i).party ≡ 0) where
      -- a number is left for a write
      pub number_left : m ≤ 64
      unfolding writes_from
      number_left =
          let z : i + 1 + (count - (i + 1)) ≡ count = omega arith in
          omega (arith, W.count, rw (length-append, e) at (ap length (writes_more i)), rw z at (writes-grow (i + 1) (count - (i + 1))))

      -- it is stored under that number
      pub write_stored : (op i).value < 2 ^ w → length values ≡ 65 → length begun ≡ 65
          → Written w (writes_from w 1 (tab (i + 1) op)) initial (set values m (op i).value) (set begun m (op i).at) (m + 1)
      unfolding writes_from
      write_stored small lv lb =
          let ws = writes_from w 1 (tab i op) in
          let few : m ≤ 64 = number_left in
          let z : 1 + length ws ≡ m = omega (arith, W.count) in
          let x : Write = record { begun = (op i).at; pair = stamped w (op i).value m } in
          rw (writes_more i, e, z) (record {
            count = rw length-append (omega (arith, W.count));
            few = omega arith;
            first = get_or-set_other values m 0 (op i).value 0 (λ y. omega (arith, W.count)) ∙ W.first;
            small = each_stored (λ j y. y < 2 ^ w) values m (op i).value (omega arith) small (λ j d. W.small j);
            each = λ j l. elim (ℕ_discrete j (length ws)) [
              | yes y ↦ rw (y, get_or-append_seam ws x [] no_write, ← W.count, get_or-set_same begun m (op i).at 0 (omega arith), get_or-set_same values m (op i).value 0 (omega arith))
              | no d ↦
                  let k : j < length ws = omega (arith, rw length-append at l) in
                  rw (get_or-append ws (x ∷ []) no_write j k, get_or-set_other begun m (suc j) (op i).at 0 (λ y. omega arith), get_or-set_other values m (suc j) (op i).value 0 (λ y. omega arith))
                  (W.each j k)
            ];
          })

module _ (op : ℕ → Operation) where
  pub read_in_none : (begun reader : List ℕ) → ReadIn (reads_from (tab 0 op)) begun reader 0
  unfolding reads_from filter tab_from
  read_in_none begun reader = record { count = refl; few = omega arith; each = λ i l. absurd (omega arith) }

  module _ (i : ℕ) (begun reader : List ℕ) (m : ℕ) (R : ReadIn (reads_from (tab i op)) begun reader m) where
    -- a read is stored behind the others
    pub read_stored : eqb (op i).party 0 ≡ false → length begun ≡ 255 → length reader ≡ 255 → m < 255
        → ReadIn (reads_from (tab (i + 1) op)) (set begun m (op i).at) (set reader m (op i).party) (m + 1)
    read_stored e lb lr few =
        let rs = reads_from (tab i op) in
        let x : Read = record { begun = (op i).at; reader = (op i).party } in
        rw (add-one i, reads_last i op, e) (record {
          count = rw length-append (omega (arith, R.count));
          few = omega arith;
          each = λ j l. elim (ℕ_discrete j m) [
            | yes y ↦ rw (y, get_or-set_same begun m (op i).at 0 (omega arith), get_or-set_same reader m (op i).party 0 (omega arith), R.count, get_or-append_seam rs x [] no_read)
            | no d ↦ rw (get_or-append rs (x ∷ []) no_read j (omega (arith, R.count)), get_or-set_other begun m j (op i).at 0 d, get_or-set_other reader m j (op i).party 0 d)
                (R.each j (omega arith))
          ];
        })

    pub read_left : (op i).party ≡ 0 → ReadIn (reads_from (tab (i + 1) op)) begun reader m
    read_left e = rw (add-one i, reads_last i op, e, append-nil _) R
