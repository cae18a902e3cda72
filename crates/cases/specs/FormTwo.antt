-- Cases of document 02, 'Ten': plans of form two, each as the number that its bytes are, and a table of what holds of them.
use Rattle.std.specs.Prelude.{true, List, [], ◌∷◌, ◌++◌, ℕ, take}
use Rattle.plan.specs.Check.{refused, result}
use Rattle.cases.specs.Hex.{hex, lent}
use Rattle.cases.specs.Starred.{one_read, Row, has_length, checks, checks_in, writes_bytes, judges, carries}

-- `one_read` in form two
unfoldable pub one_read_two : List ℕ
one_read_two = hex 33 0x082090300000701000000000000000004000000004400400004400400004400400

-- `no_reads` with start value 65,535, in form one and in form two
unfoldable pub start_most : List ℕ
start_most = hex 15 0x0820901ffff0000000000011001000

unfoldable pub start_most_two : List ℕ
start_most_two = hex 16 0x082090100ffff0000000000011001000

-- with start value 65,536
unfoldable pub start_wide : List ℕ
start_wide = hex 16 0x08209010100000000000000011001000

-- n = 1, f = 0, δ = Δ = s = 1, H = 5, start value 7, value 65,535 written at 0, read at 1, in form one and in form two
unfoldable pub write_most : List ℕ
write_most = hex 47 0x082090500070200000000000000000000000003fffc090000001100100001100100001100100001100100001100100

unfoldable pub write_most_two : List ℕ
write_most_two = hex 50 0x0820905000007020000000000000000000000000003fffc09000000001100100001100100001100100001100100001100100

-- with value 65,536 written
unfoldable pub write_wide : List ℕ
write_wide = hex 50 0x0820905000007020000000000000000000000000004000009000000001100100001100100001100100001100100001100100

-- n = 5, f = 1, δ = 1, Δ = 2, H = 1: server 0 faulty, a vote with value 65,536 forged to server 1
unfoldable pub forged_wide : List ℕ
forged_wide = hex 42 0x2a2110100000000002800000010100000101111011011101110110111101011111001111110011111000

-- '1 is a form other than one or two .., or a plan shorter than its form's header'; 'plans carried to form two and back, every field keeping its number .. 19: on the way back, a cue above 65,535. 20: lent buffer shorter than the
-- carried plan.'
unfoldable pub form_two_rows : List Row
form_two_rows =
    has_length one_read_two 33 ∷
    checks one_read_two (result 1) ∷
    checks_in 2 one_read_two (result 1) ∷
    checks_in 1 one_read_two (refused 4) ∷
    checks_in 3 one_read_two (refused 1) ∷
    checks_in 0 one_read (refused 1) ∷
    checks_in 2 (take 9 one_read_two) (refused 4) ∷
    checks_in 2 (take 8 one_read_two) (refused 1) ∷
    writes_bytes one_read_two (hex 6 0x00400001c002) ∷
    judges one_read_two (hex 6 0x00400001c002) (result true) ∷
    carries 1 2 one_read (lent 34) (record { outcome = result 33; out = one_read_two ++ (255 ∷ []) }) ∷
    carries 2 1 one_read_two (lent 31) (record { outcome = result 31; out = one_read }) ∷
    carries 2 1 one_read_two (lent 30) (record { outcome = refused 20; out = lent 30 }) ∷
    carries 1 2 start_most (lent 16) (record { outcome = result 16; out = start_most_two }) ∷
    carries 2 1 start_most_two (lent 15) (record { outcome = result 15; out = start_most }) ∷
    checks start_wide (result 0) ∷
    carries 2 1 start_wide (lent 15) (record { outcome = refused 19; out = lent 15 }) ∷
    carries 1 2 write_most (lent 50) (record { outcome = result 50; out = write_most_two }) ∷
    carries 2 1 write_most_two (lent 47) (record { outcome = result 47; out = write_most }) ∷
    carries 2 1 write_wide (lent 47) (record { outcome = refused 19; out = lent 47 }) ∷
    carries 2 1 forged_wide (lent 40) (record { outcome = refused 19; out = lent 40 }) ∷
    []
