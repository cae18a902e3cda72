-- Point 3 over the step rules: every read of a plan with enough servers is served. It composes Lemma A, the replies, the safety of reads
-- and the regular register, and argues nothing else.
use mathlib.Core.Path.{◌≡◌}
use mathlib.Core.Logic.{◌⊎◌, inl, inr}
use Prim.Native.Nat.{suc, ◌+◌, ◌-◌, ◌≤◌}
use native.Mathlib.Omega.{arith}
use lib.Dec.{T}
use Rattle.register.specs.Lists.{In}
use Rattle.register.specs.Plan.{Write, Read, Plan, reply_quorum, read_end}
use Rattle.register.specs.Reading.{noted_by, count_of, answer_of}
use Rattle.register.specs.Regular.{finished, last_finished, allowed, has_begun}
use Rattle.register.specs.Promise.{Served}
use Rattle.register.proofs.Logic.{T_eq}
use Rattle.register.proofs.Good.{Good, Enough}
use Rattle.register.proofs.ReadSafety.{few_name, answer_from_lem}
pub use Rattle.register.proofs.ReadSafety.{quorum_genuine}
use Rattle.register.proofs.Keeping.{Recent}
use Rattle.register.proofs.Recovery.{AllKeep}
use Rattle.register.proofs.LemmaA.{initial_all_keep, write_all_keep}
use Rattle.register.proofs.Named.{many_name}
use Rattle.register.proofs.Regular.{finished_by, last_cases, genuine_allowed, last_recent}

module _ (P : Plan) (G : Good P) (E : Enough P) (r : Read) where
  -- every correct server keeps the last finished pair delta after the read's begin
  pub last_all_keep : AllKeep P (last_finished P r) (r.begun + P.delta - 1)
  last_all_keep = go (last_cases P r)
    where
      e : suc (r.begun + P.delta - 1) ≡ r.begun + P.delta
      e = omega (arith, G.delta_pos)

      recent : Recent P (suc (r.begun + P.delta - 1)) (last_finished P r)
      recent = rw e (last_recent P r G)

      go : (last_finished P r ≡ P.initial) ⊎ ((w : Write) × In w P.writes × (last_finished P r ≡ w.pair) × T (finished P r w))
          → AllKeep P (last_finished P r) (r.begun + P.delta - 1)
      go (inl q) = rw q (initial_all_keep P G E (r.begun + P.delta - 1) (rw q at recent))
      go (inr (w, i, q, h)) =
          rw q (write_all_keep P G E w i (r.begun + P.delta - 1) (omega (arith, finished_by P r w h, G.delta_pos)) (rw q at recent))

pub served : (P : Plan) → Good P → Enough P → (r : Read) → In r P.reads → Served P r
served P G E r ri =
    record {
      enough = enough;
      few = λ p e. few_name P G r p (λ g. rw e at g);
      counted = answer.1;
      answered = answer.2;
      regular = T_eq (allowed P r (answer_of P r).pair) (genuine_allowed P r (answer_of P r).pair answer.0 genuine);
    }
  where
    enough : reply_quorum P ≤ count_of P r (last_finished P r)
    enough = many_name P G r ri (last_finished P r) (last_all_keep P G E r) E

    answer : (last_finished P r ≤ (answer_of P r).pair) × ((answer_of P r).count ≡ count_of P r (answer_of P r).pair)
        × (reply_quorum P ≤ (answer_of P r).count)
    answer = answer_from_lem P (noted_by P r) (last_finished P r) enough

    genuine : T (has_begun P (read_end P r) (answer_of P r).pair)
    genuine = quorum_genuine P G r (answer_of P r).pair (omega (arith, answer.1, answer.2))
