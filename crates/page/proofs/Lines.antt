-- The lines of a page, whatever the plan and the answers are: each has 80 characters, and each stands at its place.
-- It stands on the laws of rows, and on those of bit fields and stamped values.
use mathlib.Core.Path.{◌≡◌, refl, ap, ◌∙◌}
use mathlib.Core.List.{List, [], ◌∷◌, ◌++◌, append_assoc}
use Prim.Native.Nat.{ℕ, zero, suc, ◌+◌, ◌*◌, ◌≤◌, ◌<◌}
use native.Mathlib.{Decide.dec_lt, Omega.arith}
use lib.Dec.{lit<}
use lib.ListN.{length, get_or, take, drop, length-append}
use lib.Seq.{take_at, drop_at, drop-append-add}
use Rattle.decimal.specs.Aligned.{line_feed}
use Rattle.bits.proofs.Laws.{field_lt}
use Rattle.register.specs.{Lists.In, Lists.filter, Plan.Read, Plan.read_end, Plan.value_of, Plan.number_of}
use Rattle.register.proofs.{Lists.in_map, Lists.in_filter, Lists.in_tab_from, Lists.get_d_all}
use Rattle.register.proofs.Stamped.{value_below, value_stamped, number_stamped}
use Rattle.plan.specs.{Form.most_width, Header.header_of, Header.operation_at, Packed.plan_of}
use Rattle.plan.specs.Parts.{Operation, operation_of, operations_of, reads_from}
use Rattle.plan.proofs.Reading.{is_read, read_by}
use Rattle.answers.specs.Answers.{answer_at, answer_numbers, pair_in, count_in}
use Rattle.results.specs.Judge.{read_of}
use Rattle.page.specs.Page.{line_columns, line_size, ended, heading, rule, empty_line, is_marked, read_line, read_lines, page_of}
use Rattle.page.specs.Recovered.{line_in}
use Rattle.page.proofs.Rows.{RowFits, heading_length, rule_length, row_length}

-- a line and its line feed
ended_length : (line : List ℕ) → length line ≡ line_columns → length (ended line) ≡ line_size
ended_length line e = omega (arith, length-append line (line_feed ∷ []))

-- heading and rule
front_length : (w : ℕ) → length (ended heading ++ ended (rule w)) ≡ line_size * 2
front_length w = omega (arith, length-append (ended heading) (ended (rule w)), ended_length heading heading_length, ended_length (rule w) (rule_length w))

-- a line among others, found by its place; and one behind the first k lines
pub line_at : (p line q : List ℕ) (i : ℕ) → length p ≡ line_size * i → length line ≡ line_columns → line_in (p ++ (ended line ++ q)) i ≡ line
unfolding line_in
line_at p line q i e f =
    ap (take line_columns) (drop_at p (ended line ++ q) (line_size * i) e ∙ append_assoc line (line_feed ∷ []) q)
    ∙ take_at line (line_feed ∷ q) line_columns f

pub line_behind : (p q : List ℕ) (k i : ℕ) → length p ≡ line_size * k → line_in (p ++ q) (i + k) ≡ line_in q i
unfolding line_in
line_behind p q k i e =
    let n : line_size * (i + k) ≡ length p + line_size * i = omega arith in
    ap (take line_columns) (ap (λ (j : ℕ). drop j (p ++ q)) n ∙ drop-append-add p q (line_size * i))

-- The reads of a plan, whatever its bytes: begin and reader are fields of 7 and 3 bits, and δ is one of 4.
module _ (w : ℕ) (s : List ℕ) where
  abbrev Small : Read → Type 0
  Small r = (r.begun < 128) × (r.reader < 8)

  small-in : (r : Read) → In r (plan_of w s).reads → Small r
  unfolding plan_of reads_from operations_of operation_of
  small-in r m =
      let os : List Operation = operations_of w s (header_of w s) in
      let (o, n, e) = in_map read_by r (filter is_read os) m in
      let (j, l, d) = in_tab_from o 0 (header_of w s).operations (operation_of w s (header_of w s)) (in_filter is_read o os n).0 in
      rw (e, d) (field_lt s (operation_at w (header_of w s) j) 7, field_lt s (operation_at w (header_of w s) j + 7) 3)

  read_small : (i : ℕ) → Small (read_of (plan_of w s) i)
  read_small i = get_d_all Small (plan_of w s).reads (record { begun = 0; reader = 0 }) small-in (lit< tt, lit< tt) i

  delta-small : (plan_of w s).delta < 16
  unfolding plan_of header_of
  delta-small = field_lt s 7 4

-- The pair of answer i gives back its fields.
module _ (w : ℕ) (a : List ℕ) (i : ℕ) where
  pub value_in : value_of w (pair_in w a i) ≡ get_or (answer_numbers w a i) 2 0
  unfolding pair_in
  value_in = value_stamped w (get_or (answer_numbers w a i) 2 0) (get_or (answer_numbers w a i) 3 0) (field_lt a (answer_at w a i + 7 + 3) w)

  pub number_in : number_of w (pair_in w a i) ≡ get_or (answer_numbers w a i) 3 0
  unfolding pair_in
  number_in = number_stamped w (get_or (answer_numbers w a i) 2 0) (get_or (answer_numbers w a i) 3 0) (field_lt a (answer_at w a i + 7 + 3) w)

module _ (w : ℕ) (s a : List ℕ) where
  pub rule_line : line_in (page_of w s a) 1 ≡ rule w
  unfolding page_of
  rule_line =
      let rest : List ℕ = read_lines w s a (length (plan_of w s).reads) ++ empty_line in
      ap (λ (p : List ℕ). line_in p 1) (append_assoc (ended heading) (ended (rule w)) rest)
      ∙ line_at (ended heading) (rule w) rest 1 (ended_length heading heading_length) (rule_length w)

  module _ (narrow : w ≤ most_width) where
    -- what the line of read i says fits it
    pub read_fits : (i : ℕ) → RowFits w (read_of (plan_of w s) i).begun (read_of (plan_of w s) i).reader (read_end (plan_of w s) (read_of (plan_of w s) i))
        (value_of w (pair_in w a i)) (number_of w (pair_in w a i)) (count_in w a i)
    unfolding count_in
    read_fits i =
        let r = read_small w s i in
        let d = delta-small w s in
        let at : ℕ = answer_at w a i in
        record {
          narrow = narrow;
          begin_hi = omega arith;
          reader_hi = omega arith;
          end_hi = omega arith;
          value_hi = value_below w (pair_in w a i);
          number_hi = omega (arith, number_in w a i, field_lt a (at + 7 + 3 + w) 8);
          count_hi = omega (arith, field_lt a (at + 7 + 3 + w + 8) 5);
        }

    pub line_length : (i : ℕ) → length (read_line w s a i) ≡ line_columns
    unfolding read_line
    line_length i = row_length (read_fits i) (is_marked (plan_of w s) (read_of (plan_of w s) i))

    pub lines_length : (m : ℕ) → length (read_lines w s a m) ≡ line_size * m
    unfolding read_lines
    lines_length zero = refl
    lines_length (suc m) =
        let line : List ℕ = read_line w s a m in
        omega (arith, length-append (read_lines w s a m) (ended line), ended_length line (line_length m), lines_length m)

    -- heading, rule, the reads' lines and the closing one
    pub page_length : length (page_of w s a) ≡ line_size * (length (plan_of w s).reads + 3)
    unfolding page_of
    page_length =
        let lines : List ℕ = read_lines w s a (length (plan_of w s).reads) in
        omega (arith, length-append (ended heading ++ ended (rule w)) (lines ++ empty_line), front_length w, length-append lines empty_line, lines_length (length (plan_of w s).reads))

    lines_at : (m i : ℕ) → i < m → (q : List ℕ) → line_in (read_lines w s a m ++ q) i ≡ read_line w s a i
    unfolding read_lines
    lines_at zero i l q = absurd (omega arith)
    lines_at (suc m) i l q =
        ap (λ (p : List ℕ). line_in p i) (append_assoc (read_lines w s a m) (ended (read_line w s a m)) q)
        ∙ elim (dec_lt i m) [
          | yes h ↦ lines_at m i h (ended (read_line w s a m) ++ q)
          | no h ↦ (let e : i ≡ m = omega arith in rw e (line_at (read_lines w s a m) (read_line w s a m) q m (lines_length m) (line_length m)))
        ]

    -- the line of read i stands behind heading, rule and the lines of the reads before it
    pub page_line : (i : ℕ) → i < length (plan_of w s).reads → line_in (page_of w s a) (i + 2) ≡ read_line w s a i
    unfolding page_of
    page_line i l =
        let m : ℕ = length (plan_of w s).reads in
        line_behind (ended heading ++ ended (rule w)) (read_lines w s a m ++ empty_line) 2 i (front_length w) ∙ lines_at m i l empty_line
