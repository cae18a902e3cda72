-- `look` meets its contract: the ticks up to the one looked at, and the server after them.
use borrow.Author.Rules.{rules}
use native.Mathlib.Omega.{arith}
use mathlib.Core.Path.{◌≡◌, refl, ◌∙◌}
use mathlib.Core.List.{List}
use Prim.Native.Nat.{ℕ, ◌*◌, ◌≤◌, ◌<◌}
use native.Mathlib.{Nat.mul-le-mul, Numerals.add-one}
use lib.ListN.{length}
use Rattle.plan.{specs.Form.most_width, specs.Limits.most_reads, specs.Packed.plan_of, specs.Playable.Playable, proofs.Accept.in_range, proofs.Longest.reads_limited}
use Rattle.answers.{specs.Answers.answer_size, proofs.Lengths.answer_few}
use Rattle.tallies.specs.Tallies.{table_size}
use Rattle.player.proofs.Whole.{ticks_at, ready, begun, blank_table, seen}
use Rattle.player.proofs.look.Goals as goal

-- the answers of all reads fit the buffer that no one asked for
unasked : (w m : ℕ) {s : List ℕ} → w ≤ most_width → Playable w s → m ≡ length (plan_of w s).reads → (n : ℕ) → n ≡ 1008 → answer_size w * m ≤ n
unasked w m narrow A count n e =
    let few : m ≤ most_reads = rw count (reads_limited w _ A) in
    omega (arith, mul-le-mul {n₁ = answer_size w} {m₁ = m} {n₂ = 6} {m₂ = most_reads} (answer_few w narrow) few)

pub overflow_add-tick : goal.overflow_add-tick
overflow_add-tick c = let h : c.args.tick < 128 = omega (arith, c.requires.4, (in_range _ _ c.requires.0).ticks_hi) in search rules

pub bounds-end-server : goal.bounds-end-server
bounds-end-server c = omega (arith, (in_range _ _ c.requires.0).n_hi, c.requires.3)

pub run-end-requires : goal.run-end-requires
run-end-requires c = let p = c.requires in
    let R = ready _ _ _ _ _ _ p.0 p.2 c.read-script.ensures _ c.begin-start.ensures in (
      R,
      begun _ _ _ _ _ _ p.0 p.2 c.read-script.ensures _ c.begin-start.ensures _ refl (blank_table table_size),
      rw c.begin-start.ensures.first (omega arith),
      omega (arith, p.4, ticks_at _ _ _ _ _ _ p.0 p.2 c.read-script.ensures _ c.begin-start.ensures),
      unasked _ _ R.decoded.scripted.narrow R.decoded.playable c.read-script.ensures.0.reads.count _ refl,
    )

pub zero-requires : goal.zero-requires
zero-requires c = omega (arith, c.requires.2, c.read-script.ensures.0.forged.filled.size, c.begin-start.ensures.kept.size, c.run-end.ensures.0.kept.size)

pub returns : goal.returns
returns c = let p = c.requires in
    seen _ _ _ _ _ _ p.0 p.2 c.read-script.ensures _ c.begin-start.ensures _ _ _ _ _ _ c.run-end.ensures.0 c.args.server _ _ p.3 (c.run-end.ensures.1 ∙ add-one _) c.zero.ensures
