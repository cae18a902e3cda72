-- Check in the parts that other operations share, each a list of tests with their refusals: the tests of the header (1 and 2), the bound (3) and the
-- rest (4 to 8). Check is the three one after the other (proofs/Chain, `check_parts`).
use Rattle.std.specs.Prelude.{Bool, ◌&&◌, List, ℕ, zero, suc, leb, eqb, length}
use Rattle.bits.specs.Fill.{bytes_for}
use Rattle.plan.specs.Header.{Header, header_of, header_bits, bit_length}
use Rattle.plan.specs.Packed.{plan_of}
use Rattle.plan.specs.Check.{Outcome, result, unless, header_in_range, enough_servers, placements_stand, operations_stand, forgeries_stand, delays_stand, final_bits_zero}

-- tests in their order, each with the number of its refusal
pub data Tests : Type 0 where
  done : Tests
  test : Bool → ℕ → Tests → Tests

-- the refusal of the first that fails, else what follows
unfoldable pub run : {A : Type 0} → Tests → Outcome A → Outcome A
run done x = x
run (test b number ts) x = unless b number (run ts x)

-- one after the other
abbrev pub join : Tests → Tests → Tests
join done us = us
join (test b number ts) us = test b number (join ts us)

-- those behind the first so many
abbrev pub behind : ℕ → Tests → Tests
behind zero ts = ts
behind (suc n) done = done
behind (suc n) (test b number ts) = behind n ts

abbrev pub header_tests : ℕ → List ℕ → Tests
header_tests w s = test (leb (bytes_for (header_bits w)) (length s)) 1 (test (header_in_range (header_of w s)) 2 done)

abbrev pub bound_tests : Header → Tests
bound_tests h = test (enough_servers h) 3 done

abbrev pub rest_tests : ℕ → List ℕ → Header → Tests
rest_tests w s h =
    test (eqb (length s) (bytes_for (bit_length w h))) 4
    (test (placements_stand w s h) 5
    (test (operations_stand w s h) 6
    (test (forgeries_stand w s h) 7
    (test (delays_stand w s h && final_bits_zero w s h) 8
    done))))

-- the header of a plan that passes its tests
unfoldable pub check_header : ℕ → List ℕ → Outcome Header
check_header w s = run (header_tests w s) (result (header_of w s))

-- the number of reads of a plan that passes the rest
unfoldable pub check_rest : ℕ → List ℕ → Header → Outcome ℕ
check_rest w s h = run (rest_tests w s h) (result (length (plan_of w s).reads))
