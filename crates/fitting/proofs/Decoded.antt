-- What is decoded of a plan that Check accepts: the tables say the plan's reads and writes.
-- It stands on what Check accepts and on where the operations stand in the plan's bits.
use mathlib.Core.Path.{◌≡◌, sym, ap}
use mathlib.Core.List.{List}
use Prim.Native.Nat.{ℕ, ◌≤◌, ◌<◌}
use native.Mathlib.Omega.{arith}
use lib.ListN.{get_or}
use Rattle.register.specs.Lists.{tab, all_up_to}
use Rattle.plan.specs as plan-specs
use Rattle.plan.specs.Header.{Header, header_of, placement_at, moves}
use Rattle.plan.specs.Parts.{writes_from, reads_from}
use Rattle.plan.specs.Packed.{plan_of}
use Rattle.plan.specs.Shape.{shape}
use Rattle.plan.specs.Check.{check_of, result}
use Rattle.plan.proofs as plan-laws
use Rattle.plan.proofs.Accept.{playable, reads_counted, in_range}
use Rattle.tables.specs.Operations.{op_at, no_write, Written, ReadIn}
use Rattle.tables.proofs.Standing.{writes_same, reads_same}
use Rattle.results.specs.Judge.{read_of, answer_fits}
use Rattle.regular.specs.Tables.{Tables}
use Rattle.fitting.specs.Fitting.{fits_read}

-- A plan that can be played, its header by value, and the bit where its operations start.
module _ (w : ℕ) (s : List ℕ) (A : plan-specs.Playable.Playable w s) (x : plan-specs.declared.header.Shape.Shape) (same : shape x ≡ header_of w s)
    (at : ℕ) (start : at ≡ placement_at w (moves (shape x))) where
  pub write_tables : (values begun : List ℕ) (n : ℕ) → Written w (writes_from w 1 (tab x.operations (op_at w s at))) x.initial values begun n
      → Tables w (plan_of w s) values begun n
  unfolding plan_of
  write_tables values begun n decoded =
      let W = rw (writes_same w s A x same at start) at decoded in
      record {
        initial = rw (W.first, ← same);
        written = rw W.first W;
        rising = λ i j l h. omega (arith, plan-laws.AcceptWrites.writes_apart w s A no_write i j l h);
      }

pub delta_same : (w : ℕ) (s : List ℕ) (x : plan-specs.declared.header.Shape.Shape) → shape x ≡ header_of w s → (plan_of w s).delta ≡ x.delta
unfolding plan_of
delta_same w s x same = sym (ap (λ (h : Header). h.delta) same)

-- A plan that Check accepts with m reads.
module _ (w : ℕ) (s : List ℕ) (m : ℕ) (e : check_of w s ≡ result m) where
  A : plan-specs.Playable.Playable w s
  A = playable w s m e

  pub few_answers : m ≤ 255
  few_answers = omega (arith, reads_counted w s m e, plan-laws.AcceptReads.few_reads w s, (in_range w s A).operations_hi)

  module _ (x : plan-specs.declared.header.Shape.Shape) (same : shape x ≡ header_of w s) (at : ℕ) (start : at ≡ placement_at w (moves (shape x)))
      (begun reader : List ℕ) (q : ℕ) (R : ReadIn (reads_from (tab x.operations (op_at w s at))) begun reader q) where
    read_is : (i : ℕ) → i < m → read_of (plan_of w s) i ≡ record { begun = get_or begun i 0; reader = get_or reader i 0 }
    read_is i l =
        let Q = rw (reads_same w s A x same at start) at R in
        Q.each i (omega (arith, reads_counted w s m e, Q.count))

    pub fits_same : (a : List ℕ) → all_up_to m (λ i. fits_read w a i (get_or begun i 0) (get_or reader i 0)) ≡ all_up_to m (answer_fits w s a)
    unfolding fits_read answer_fits
    fits_same a = plan-laws.Laws.all_same _ (answer_fits w s a) m (λ i l. rw (read_is i l))
