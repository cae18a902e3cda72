-- From a script that was read to the end of its ticks: the start, one tick more, all answers, and what is left of the workspace.
-- It stands on Turns and Buffers.
use mathlib.Core.{Path.◌≡◌, Path.refl, Path.ap, Path.◌∙◌, Logic.inr, List.List, List.◌++◌}
use Prim.Native.Nat.{ℕ, zero, suc, ◌+◌, ◌*◌, ◌-◌, ◌≤◌, ◌<◌}
use native.Mathlib.{Nat.mul-zero, Numerals.add-one, Omega.arith, Decide.dec_le}
use lib.{ListN.length, ListN.get_or, ListN.take, ListN.drop, ListN.replicate, Seq.take_all}
use Rattle.register.proofs.Lists.{get_d_replicate_same}
use Rattle.plan.specs as plan-specs
use Rattle.plan.{specs.Packed.plan_of, proofs.Tests.get_d_in, proofs.AcceptReads.read_stands}
use Rattle.requests.{specs.Requests.SameBehind, proofs.Requesting.behind_trans}
use Rattle.refinement.proofs as refinement-laws
use Rattle.tallies.specs.Tallies.{table_size}
use Rattle.serving.specs.Stored.{absent}
use Rattle.script.specs as script-specs
use Rattle.tables.specs as tables-specs
use Rattle.script.specs.Script.{width_in, Decoded}
use Rattle.answers.specs as answers-specs
use Rattle.answers.specs.Answers.{answer_size, answers_for, answers_of}
use Rattle.reading.specs.Reading.{placed}
use Rattle.reading.proofs.Cursors.{until_none, placed_none, placed_on}
use Rattle.script.proofs as script-laws
use Rattle.ticking.specs as ticking-specs
use Rattle.ticking.proofs as ticking-laws
use Rattle.player.specs as player-specs
use Rattle.ticking.specs.Ticked.{Ready, PlayedTo, answer_part, Went}
use Rattle.player.specs.Player.{Fresh}
use Rattle.player.proofs as player-laws
use Rattle.player.proofs.Shown.{pairs_are}

pub ready_kept : (s a b : List ℕ) (r : script-specs.declared.Script.Script) → SameBehind a b → Ready s a r → Ready s b r
ready_kept s a b r K R = record {
  decoded = R.decoded;
  room = omega (arith, K.size, R.room);
  kept = behind_trans R.decoded.after a b R.kept K;
}

-- ---- the start, and one tick more

-- a table of sets in which nobody is
pub blank_table : (n k : ℕ) → ◌≡◌ {A = ℕ} (get_or (replicate n 0) k 0) 0
blank_table n k = get_d_replicate_same {A = ℕ} n k 0

module _ (s : List ℕ) (r : script-specs.declared.Script.Script) where
  pub played_none : (before work sets : List ℕ) (p : ticking-specs.declared.Playing.Playing) → Decoded s r → Fresh before work r p → length sets ≡ table_size → ((k : ℕ) → get_or sets k 0 ≡ 0)
      → PlayedTo s work sets r p
  played_none before work sets p D E size blank =
      rw E.first (record {
        size = E.started.size;
        table = size;
        state = refinement-laws.StateLaws.first_state (plan_of (width_in r) s) _ r.writes.known.m (ticking-laws.Tables.knows s r D) p.cluster sets work E.started blank E.empty;
        valued = λ b l. E.started.valued r.writes.known.values refl b (omega (arith, ticking-laws.Tables.servers_same s r D, ticking-laws.Tables.few_servers s r D));
        requested = refinement-laws.RequestLaws.requested_none (plan_of (width_in r) s) work E.unasked;
        written = record { below = omega (arith, D.scripted.writes.count); before = λ h. absurd (omega arith); last = λ j a b. omega arith };
        begun = until_none r.reads.begun r.reads.m 0 refl;
        answered = until_none r.reads.begun r.reads.m (0 - 2 * r.rules.delta) (omega arith);
      })

  pub went_none : (work sets answers : List ℕ) (p : ticking-specs.declared.Playing.Playing) → PlayedTo s work sets r p → Went s work work sets sets answers answers r p p
  went_none work sets answers p L = record {
    kept = record { size = refl; behind = λ k l. refl };
    played = L;
    ordered = omega arith;
    answers = placed_none (width_in r) (answer_part (width_in r) s) p.answered answers;
  }

  pub went_on : (work now work₁ sets here sets₁ answers then answers₁ : List ℕ) (p q z : ticking-specs.declared.Playing.Playing) → Went s work now sets here answers then r p q
      → Went s now work₁ here sets₁ then answers₁ r q z → Went s work work₁ sets sets₁ answers answers₁ r p z
  went_on work now work₁ sets here sets₁ answers then answers₁ p q z A W =
      let from : p.answered + (q.answered - p.answered) ≡ q.answered = omega (arith, A.ordered) in
      let all : (q.answered - p.answered) + (z.answered - q.answered) ≡ z.answered - p.answered = omega (arith, A.ordered, W.ordered) in
      record {
        kept = behind_trans work now work₁ A.kept W.kept;
        played = W.played;
        ordered = omega (arith, A.ordered, W.ordered);
        answers = W.answers ∙ rw A.answers (rw (from, all) at (placed_on (width_in r) (answer_part (width_in r) s) p.answered (q.answered - p.answered) (z.answered - q.answered) answers));
      }

-- the answers of the first reads, placed one by one
all_placed : (w : ℕ) (s b : List ℕ) (i : ℕ) → i ≤ length (plan_of w s).reads
    → placed w (answer_part w s) 0 i b ≡ answers_for w (plan_of w s) (take i (plan_of w s).reads) ++ drop (answer_size w * i) b
unfolding placed answers_for
all_placed w s b zero h = rw (mul-zero (answer_size w))
all_placed w s b (suc i) h =
    let z : 0 + i ≡ i = omega arith in
    rw (z, ← add-one i)
    (player-laws.Buffers.answers_more w (plan_of w s) (plan_of w s).reads b (placed w (answer_part w s) 0 i b) i tables-specs.Operations.no_read (omega arith)
    (all_placed w s b i (omega arith)))

module _ (s before after started : List ℕ) (r : script-specs.declared.Script.Script) (w : ℕ) (at : plan-specs.Playable.Playable w s) (room : answers-specs.Workspace.workspace_size ≤ length before)
    (read : script-specs.Script.Scripted s before after r × (width_in r ≡ w)) (first : ticking-specs.declared.Playing.Playing) (fresh : Fresh after started r first) where
  abbrev scripted : script-specs.Script.Scripted s before after r
  scripted = read.0

  playable : plan-specs.Playable.Playable (width_in r) s
  playable = rw read.1 at

  abbrev decoded : Decoded s r
  decoded = record { playable = playable; before = before; after = after; scripted = scripted }

  -- the plan's ticks, and the answers of its reads, by the script
  pub ticks_at : r.shape.ticks ≡ (plan-specs.Header.header_of w s).ticks
  ticks_at = script-laws.Feeding.ticks_same s r decoded ∙ ap (λ (v : ℕ). (plan-specs.Header.header_of v s).ticks) read.1

  pub answers_room : (n : ℕ) → answer_size w * length (plan_of w s).reads ≤ n → answer_size (width_in r) * r.reads.m ≤ n
  answers_room n h = rw (scripted.reads.count, read.1) h

  pub ready : Ready s started r
  ready = record { decoded = decoded; room = omega (arith, scripted.forged.filled.size, fresh.kept.size); kept = fresh.kept }

  pub begun : (sets : List ℕ) → length sets ≡ table_size → ((k : ℕ) → get_or sets k 0 ≡ 0) → PlayedTo s started sets r first
  begun sets size blank = played_none s r after started sets first decoded fresh size blank

  module _ (work sets sets₁ answers answers₁ : List ℕ) (p : ticking-specs.declared.Playing.Playing) (W : Went s started work sets sets₁ answers answers₁ r first p) where
    all-zeroed : (end : List ℕ) → end ≡ answers-specs.Workspace.zeroed work → end ≡ answers-specs.Workspace.zeroed before
    all-zeroed end e =
        let K = W.kept in
        e ∙ player-laws.Buffers.zeroed_same before work (K.size ∙ (fresh.kept.size ∙ scripted.forged.filled.size))
        (λ x l. K.behind x (omega arith) ∙ (fresh.kept.behind x (omega arith) ∙ scripted.forged.filled.other x (inr (omega (arith, (script-laws.Feeding.range s r decoded).forgeries_hi)))))

    -- a server after the last of the ticks
    pub seen : (b t : ℕ) (end : List ℕ) → b < (plan-specs.Header.header_of w s).n → p.tick ≡ suc t → end ≡ answers-specs.Workspace.zeroed work → player-specs.Player.Viewed w s b t (get_or p.cluster.servers b absent) before end
    unfolding plan_of
    seen b t end l e z =
        let R = rw e at (W.played.state.servers b (rw read.1 l)) in
        let v = W.played.valued b (omega (arith, scripted.rules.n, rw (← read.1) at l)) in
        rw (← read.1)
        (record {
          status = R.status;
          kept = R.kept ∙ pairs_are (width_in r) r.writes.known _ v;
          narrow = λ q i h. rw (v q i h) (scripted.writes.small q.number);
          workspace = all-zeroed end z;
        })

    -- after all ticks no read is left
    none_left : p.tick ≡ r.shape.ticks → p.answered < r.reads.m → ⊥
    unfolding plan_of
    none_left e l =
        let q = rw (scripted.reads.each p.answered l) at (get_d_in (plan_of (width_in r) s).reads p.answered tables-specs.Operations.no_read (omega (arith, scripted.reads.count))) in
        let Q = read_stands (width_in r) s playable _ q in
        omega (arith, W.played.answered.next l, Q.ends, e, script-laws.Feeding.ticks_same s r decoded, scripted.rules.delta)

    all-answered : p.tick ≡ r.shape.ticks → p.answered ≡ length (plan_of (width_in r) s).reads
    all-answered e = elim (dec_le r.reads.m p.answered) [
      | yes d ↦ omega (arith, W.played.answered.few, scripted.reads.count)
      | no d ↦ absurd (none_left e (omega arith))
    ]

    pub all_there : p.tick ≡ r.shape.ticks → (end : List ℕ) → end ≡ answers-specs.Workspace.zeroed work → player-specs.Player.AllAnswered w s answers answers₁ before end
    unfolding answers_of
    all_there e end z =
        let k = all-answered e in
        let none : first.answered ≡ 0 = ap (λ (x : ticking-specs.declared.Playing.Playing). x.answered) fresh.first in
        let all : p.answered - 0 ≡ p.answered = omega arith in
        let whole : answers₁ ≡ placed (width_in r) (answer_part (width_in r) s) 0 p.answered answers = rw (none, all) at W.answers in
        rw (← read.1)
        (record {
          answers = rw (← k) (rw (take_all p.answered (plan_of (width_in r) s).reads (omega arith)) at (whole ∙ all_placed (width_in r) s answers p.answered (omega arith)));
          workspace = all-zeroed end z;
        })
