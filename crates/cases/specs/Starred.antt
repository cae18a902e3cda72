-- The starred cases of document 01 ('Rehearsed cases') with that of document 02, and a case beside them, from the bytes: the plans, all of form one,
-- each as the number that its bytes are, and tables of what holds of them.
use Rattle.std.specs.Prelude.{◌≡◌, Bool, true, false, List, [], ◌∷◌, ◌++◌, ℕ, suc, length}
use Rattle.register.specs.Plan.{Plan, value_of, number_of}
use Rattle.register.specs.Cluster.{cluster, server_of}
use Rattle.register.specs.Reading.{Answer, answer_of}
use Rattle.plan.specs.Form.{width_of}
use Rattle.plan.specs.Header.{header_of, k_in}
use Rattle.plan.specs.Packed.{plan_of}
use Rattle.plan.specs.Check.{Outcome, refused, result, check_of, check_in}
use Rattle.plan.specs.Buffer.{Buffered}
use Rattle.answers.specs.Answers.{answers_of}
use Rattle.results.specs.Look.{is_cured, is_correct, Stamped, Shown, shown_by}
use Rattle.results.specs.Judge.{read_of, judge_of}
use Rattle.lines.specs.Text.{text_of}
use Rattle.carrying.specs.Carrying.{carry_of}
use Rattle.cases.specs.Hex.{hex}

-- the bits of a value in form one and in form two
abbrev pub one_width : ℕ
one_width = width_of 1

abbrev pub two_width : ℕ
two_width = width_of 2

-- n = 1, δ = 2, Δ = 4
unfoldable pub k_one : List ℕ
k_one = hex 15 0x084210100000000000000011001000

-- n = 1, δ = 2, Δ = 3
unfoldable pub k_two : List ℕ
k_two = hex 15 0x084190100000000000000011001000

-- n = 1, δ = 2, Δ = 1
unfoldable pub period_short : List ℕ
period_short = hex 15 0x084090100000000000000011001000

-- n = 5, f = 1, δ = 1, Δ = 2: k is 1
unfoldable pub five : List ℕ
five = hex 35 0x2a21101000000000000001111011011101110110111101011111001111110011111000

-- n = 4, f = 1, δ = 1, Δ = 2: k is 1
unfoldable pub four : List ℕ
four = hex 28 0x22211010000000000000011101101101110101111001111100111100

-- n = 6, f = 1, δ = Δ = 1: k is 2
unfoldable pub six : List ℕ
six = hex 42 0x322090100000000000000111110110111101110111011110110111110101111110011111110011111100

-- n = 5, f = 1, δ = Δ = 1: k is 2
unfoldable pub five_two : List ℕ
five_two = hex 35 0x2a20901000000000000001111011011101110110111101011111001111110011111000

-- n = 1, f = 0, δ = Δ = s = H = 1, no operations: 15 bytes
unfoldable pub no_reads : List ℕ
no_reads = hex 15 0x082090100000000000000011001000

-- as before with H = 3, start value 7, delays 1, reader 1 reads at 0: 31 bytes
unfoldable pub one_read : List ℕ
one_read = hex 31 0x08209030007010000000000000000040000004400400004400400004400400

-- n = 1, f = 0, δ = 1, Δ = 2, s = 1, H = 5, value 9 written at 0, read at 2
unfoldable pub written : List ℕ
written = hex 43 0x08211050000020000000000000000000024110000001100100001100100001100100001100100001100100

-- n = 5, f = 1, δ = 1, Δ = 2, s = 1, H = 4, start value 7, value 9 written at 0, server 0 faulty at 0, server 1 at 2
unfoldable pub takeover : List ℕ
takeover =
    hex 60 0x2a2110400070100080004000000002404444044044404440440444404044444004444440044444000444404404440444044044440404444400444444
    ++ (hex 54 0x004444400044440440444044404404444040444440044444400444440004444044044404440440444404044444004444440044444000)

-- n = 5, f = 1, δ = 1, Δ = 2, s = 1, H = 14, start value 7, values 101 to 106 written at 0, 2 .. 10, read at 11; server 0 faulty at 10, server 1 at 12
unfoldable pub six_writes : List ℕ
six_writes =
    hex 60 0x2a2110e00070700000000000000000000000800040000000194100066080019c30006810001a450006a1640000044440440444044404404444040444
    ++ (hex 60 0x440044444400444440004444044044404440440444404044444004444440044444000444404404440444044044440404444400444444004444400044
    ++ (hex 60 0x440440444044404404444040444440044444400444440004444044044404440440444404044444004444440044444000444404404440444044044440
    ++ (hex 60 0x404444400444444004444400044440440444044404404444040444440044444400444440004444044044404440440444404044444004444440044444
    ++ (hex 60 0x000444404404440444044044440404444400444444004444400044440440444044404404444040444440044444400444440004444044044404440440
    ++ (hex 60 0x444404044444004444440044444000444404404440444044044440404444400444444004444400044440440444044404404444040444440044444400
    ++ (hex 28 0x44444000444404404440444044044440404444400444444004444400))))))

-- n = 6, f = 1, δ = 2, Δ = 3: k is 2; start value 7, value 100 written at 0, which ends at 2, read at 2; server 0 faulty at 0, server 1 at 3, all
-- delays 2
unfoldable pub just_set : List ℕ
just_set =
    hex 60 0x324190700070200080004000000000001901100000222220220222202220222022220220222220202222220022222220022222200022222022022220
    ++ (hex 60 0x222022202222022022222020222222002222222002222220002222202202222022202220222202202222202022222200222222200222222000222220
    ++ (hex 60 0x220222202220222022220220222220202222220022222220022222200022222022022220222022202222022022222020222222002222222002222220
    ++ (hex 60 0x002222202202222022202220222202202222202022222200222222200222222000222220220222202220222022220220222220202222220022222220
    ++ (hex 5 0x0222222000))))

-- the answers (100, 1) and (7, 0) to its read, each with a count of 4
unfoldable pub just_written : List ℕ
just_written = hex 5 0x0440190048

unfoldable pub from_the_start : List ℕ
from_the_start = hex 5 0x044001c008

-- "reads 1", then "0 1 2 7 0 1", each ended by a line feed
unfoldable pub reads_one : List ℕ
reads_one = hex 8 0x726561647320310a ++ hex 12 0x30203120322037203020310a

-- What a row says of a plan's bytes.
pub data Row : Type 0 where
  has_length : List ℕ → ℕ → Row
  checks : List ℕ → Outcome ℕ → Row
  has_k : List ℕ → ℕ → Row
  writes_bytes : List ℕ → List ℕ → Row
  prints : List ℕ → List ℕ → Row
  answers : List ℕ → ℕ → ℕ → ℕ → Row
  shows : List ℕ → ℕ → ℕ → Shown → Row
  judges : List ℕ → List ℕ → Outcome Bool → Row
  checks_in : ℕ → List ℕ → Outcome ℕ → Row
  carries : ℕ → ℕ → List ℕ → List ℕ → Buffered → Row

-- Of values of w bits: its bytes; what Check returns; k; the answer bytes; the text that is printed, whole; value, number and count of the first read's answer;
-- server b after tick t; what Judge says of answers. In forms that are named: what Check returns; what carrying it from one to another returns and leaves
-- in a lent buffer
unfoldable pub Holds : ℕ → Row → Type 0
Holds w (has_length s n) = length s ≡ n
Holds w (checks s o) = check_of w s ≡ o
Holds w (has_k s k) = k_in (header_of w s) ≡ k
Holds w (writes_bytes s bytes) = answers_of w s ≡ bytes
Holds w (prints s text) = text_of w s ≡ text
Holds w (answers s value number count) =
    let P : Plan = plan_of w s in
    let a : Answer = answer_of P (read_of P 0) in
    (value_of w a.pair ≡ value) × (number_of w a.pair ≡ number) × (a.count ≡ count)
Holds w (shows s b t shown) = shown_by w (server_of (cluster (plan_of w s) (suc t)) b) ≡ shown
Holds w (judges s a o) = judge_of w s a ≡ o
Holds w (checks_in form s o) = check_in form s ≡ o
Holds w (carries from to s out p) = carry_of (width_of from) (width_of to) s out ≡ p

-- Eight: 'a new one with six writes shows the two oldest of the seven pairs gone': (101, 1) and the start pair (7, 0)
unfoldable pub last_five : List Stamped
last_five =
    record { value = 106; number = 6 } ∷
    record { value = 105; number = 5 } ∷
    record { value = 104; number = 4 } ∷
    record { value = 103; number = 3 } ∷
    record { value = 102; number = 2 } ∷
    []

-- The last five rows are Eight's: server 2 after its sixth WRITE; server 0, reset in tick 12, and the five pairs that the echoes bring it.
unfoldable pub starred : List Row
starred =
    checks k_one (result 0) ∷
    has_k k_one 1 ∷
    checks k_two (result 0) ∷
    has_k k_two 2 ∷
    checks period_short (refused 2) ∷
    checks five (result 0) ∷
    checks four (refused 3) ∷
    checks six (result 0) ∷
    checks five_two (refused 3) ∷
    has_length no_reads 15 ∷
    checks no_reads (result 0) ∷
    checks (no_reads ++ (0x00 ∷ [])) (refused 4) ∷
    has_length one_read 31 ∷
    checks one_read (result 1) ∷
    writes_bytes one_read (hex 5 0x004001c002) ∷
    prints one_read reads_one ∷
    checks written (result 1) ∷
    answers written 9 1 1 ∷
    checks takeover (result 0) ∷
    shows takeover 0 2 (record { condition = is_cured; pairs = [] }) ∷
    shows takeover 0 3 (record { condition = is_correct; pairs = record { value = 9; number = 1 } ∷ record { value = 7; number = 0 } ∷ [] }) ∷
    checks six_writes (result 1) ∷
    shows six_writes 2 11 (record { condition = is_correct; pairs = last_five }) ∷
    shows six_writes 0 12 (record { condition = is_cured; pairs = [] }) ∷
    shows six_writes 0 13 (record { condition = is_correct; pairs = last_five }) ∷
    answers six_writes 106 6 4 ∷
    []

-- Four: 'A screen that reads in that very tick is owed the cue just set'. The last row was yes by document 01.
unfoldable pub ended_as_begun : List Row
ended_as_begun =
    has_k just_set 2 ∷
    checks just_set (result 1) ∷
    writes_bytes just_set just_written ∷
    judges just_set just_written (result true) ∷
    judges just_set from_the_start (result false) ∷
    []
