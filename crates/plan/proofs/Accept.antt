-- What Check and its parts accept: the tests as facts, both ways; a plan that can be played has the header's ranges as inequalities.
-- It stands on Check as a chain.
use mathlib.Core.Path.{◌≡◌, sym, ◌∙◌}
use mathlib.Core.List.{List}
use Prim.Native.Nat.{ℕ, ◌+◌, ◌*◌, ◌≤◌}
use lib.Dec.{T, leb→le, eqb→eq}
use lib.ListN.{length}
use Rattle.bits.specs.Fill.{bytes_for}
use Rattle.register.proofs.Logic.{T_eq}
use Rattle.register.proofs.Good.{Enough}
use Rattle.plan.specs.Header.{Header, header_of, header_bits, bit_length, k_in}
use Rattle.plan.specs.Packed.{plan_of}
use Rattle.plan.specs.Check.{result, check_of, header_in_range, enough_servers}
use Rattle.plan.specs.CheckParts.{join, header_tests, rest_tests, check_header}
use Rattle.plan.specs.Playable.{Playable}
use Rattle.plan.specs.Shape.{Ranged}
use Rattle.plan.proofs.Ranges.{ranged_header}
use Rattle.plan.proofs.Chain.{Hold, all_passed, passes_all, check_parts, header_is}

-- all eight tests: those that playing needs, and test 3
pub record Accepted (w : ℕ) (s : List ℕ) : Type 0 where
  pub playable : Playable w s
  pub servers : T (enough_servers (header_of w s))

module _ (w : ℕ) (s : List ℕ) where
  -- the tests that playing needs, both ways
  pub tests_playable : Hold (header_tests w s) → Hold (rest_tests w s (header_of w s)) → Playable w s
  tests_playable (long, (header, _)) (size, (placements, (operations, (forgeries, (delays, _))))) =
      record {
        long = long;
        header = header;
        size = size;
        placements = placements;
        operations = operations;
        forgeries = forgeries;
        delays = delays;
      }

  pub playable_tests : Playable w s → Hold (join (header_tests w s) (rest_tests w s (header_of w s)))
  playable_tests Y = (Y.long, (Y.header, (Y.size, (Y.placements, (Y.operations, (Y.forgeries, (Y.delays, tt)))))))

  facts : (m : ℕ) → check_of w s ≡ result m → Accepted w s × (m ≡ length (plan_of w s).reads)
  facts m e =
      let ((long, (header, (servers, rest))), last) = all_passed _ (result (length (plan_of w s).reads)) m (sym (check_parts w s) ∙ e) in
      (record { playable = tests_playable (long, (header, tt)) rest; servers = servers }, cc)

  pub accepted : (m : ℕ) → check_of w s ≡ result m → Accepted w s
  accepted m e = (facts m e).0

  -- what is accepted can be played
  pub playable : (m : ℕ) → check_of w s ≡ result m → Playable w s
  playable m e = (accepted m e).playable

  -- what Check returns is the number of reads
  pub reads_counted : (m : ℕ) → check_of w s ≡ result m → m ≡ length (plan_of w s).reads
  reads_counted m e = (facts m e).1

  pub accepts : Accepted w s → check_of w s ≡ result (length (plan_of w s).reads)
  accepts A =
      let (long, (header, rest)) = playable_tests A.playable in
      check_parts w s ∙ passes_all _ (result (length (plan_of w s).reads)) (long, (header, (A.servers, rest)))

-- behind the tests of the header, it is in range
pub header_ranged : (w : ℕ) (s : List ℕ) (h : Header) → check_header w s ≡ result h → Ranged h
unfolding check_header
header_ranged w s h e =
    let ((_, (header, _)), _) = all_passed (header_tests w s) (result (header_of w s)) h e in
    rw (header_is w s h e) (ranged_header w s (T_eq (header_in_range (header_of w s)) header))

-- '3 n below (k+3)f+1'
pub enough : (w : ℕ) (s : List ℕ) → Accepted w s → Enough (plan_of w s)
unfolding enough_servers plan_of
enough w s A = leb→le ((k_in (header_of w s) + 3) * (header_of w s).f + 1) (header_of w s).n A.servers

module _ (w : ℕ) (s : List ℕ) (A : Playable w s) where
  -- the header's bytes are there
  pub header_there : bytes_for (header_bits w) ≤ length s
  header_there = leb→le (bytes_for (header_bits w)) (length s) A.long

  -- '2 a header field outside its range'
  pub in_range : Ranged (header_of w s)
  in_range = ranged_header w s (T_eq (header_in_range (header_of w s)) A.header)

  -- '4 byte length other than the header implies'
  pub exact : length s ≡ bytes_for (bit_length w (header_of w s))
  exact = eqb→eq (length s) (bytes_for (bit_length w (header_of w s))) A.size
