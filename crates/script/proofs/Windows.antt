-- Which forged entries were sent in a tick: the entries rise by the tick in which they were sent.
-- It stands on the laws of a plan's forged messages.
use mathlib.Core.List.{List}
use Prim.Native.Nat.{ℕ, ◌+◌, ◌≤◌, ◌<◌}
use native.Mathlib.Omega.{arith}
use native.Mathlib.Decide.{dec_le}
use lib.ListN.{get_or}
use Rattle.plan.specs.Header.{header_of}
use Rattle.plan.specs.Playable.{Playable}
use Rattle.plan.proofs.AcceptGood.{delay_range}
use Rattle.forging.specs.Entries.{entry_at, Entry, Starts}
use Rattle.tables.specs.Forged.{message_of, message_delay}
use Rattle.script.specs.Script.{message_number}
use Rattle.tables.proofs.Messages.{messages_rise}

module _ (w : ℕ) (s : List ℕ) (A : Playable w s) (work values : List ℕ) (m : ℕ)
    (E : (e : ℕ) → e < (header_of w s).forgeries → Entry work e (message_of w s e) (message_delay w s e) (message_number w s values m e))
    (starts : List ℕ) (S : Starts work (header_of w s).forgeries starts) where
  -- an entry arrives one to δ ticks after it was sent
  pub arrives_after : (e : ℕ) → e < (header_of w s).forgeries
      → (entry_at work e 0 < entry_at work e 1) × (entry_at work e 1 ≤ entry_at work e 0 + (header_of w s).delta)
  arrives_after e l =
      let r = delay_range w s A (message_of w s e).at (message_of w s e).from (message_of w s e).to in
      (omega (arith, (E e l).sent, (E e l).arrival, r.0), omega (arith, (E e l).sent, (E e l).arrival, r.1))

  module _ (u : ℕ) (below : u < 129) where
    pub start_few : get_or starts u 0 ≤ (header_of w s).forgeries
    start_few = (S.each u below).few

    pub sent_earlier : (e : ℕ) → e < get_or starts u 0 → entry_at work e 0 < u
    sent_earlier e l = (S.each u below).below e (omega arith) l

    pub sent_later : (e : ℕ) → get_or starts u 0 ≤ e → e < (header_of w s).forgeries → u ≤ entry_at work e 0
    sent_later e l h =
        let first = get_or starts u 0 in
        let lf : first < (header_of w s).forgeries = omega arith in
        omega (arith, (S.each u below).next lf, (E first lf).sent, (E e h).sent, messages_rise w s A first e l h)

  pub starts_rise : (u v : ℕ) → u ≤ v → v < 129 → get_or starts u 0 ≤ get_or starts v 0
  starts_rise u v h l = elim (dec_le (get_or starts u 0) (get_or starts v 0)) [
    | yes d ↦ d
    | no d ↦
        let first = get_or starts v 0 in
        let lf : first < (header_of w s).forgeries = omega (arith, start_few u (omega arith)) in
        absurd (omega (arith, sent_later v l first (omega arith) lf, sent_earlier u (omega arith) first (omega arith)))
  ]
