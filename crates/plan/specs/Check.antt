-- Check (document 01, 'The plan, packed' and 'Operations of the library'): eight tests, the first that fails is the refusal.
use Rattle.std.specs.Prelude.{Bool, not, ◌&&◌, ◌||◌, cond, List, ℕ, ◌+◌, ◌*◌, ◌-◌, ◌/◌, leb, ltb, eqb, length}
use Rattle.bits.specs.Field.{field_of}
use Rattle.bits.specs.Fill.{fill, bytes_for}
use Rattle.register.specs.Lists.{count, any, all_up_to}
use Rattle.register.specs.Plan.{Plan, Read, Forgery, read_end}
use Rattle.plan.specs.Form.{is_form, width_of}
use Rattle.plan.specs.Header.{Header, header_of, header_bits, placement_bits, key_bits, forgery_bits, moves, parties, placement_at, operation_at, forgery_at, bit_length, k_in}
use Rattle.plan.specs.Parts.{Operation, in_placement, operation_of, forgery_of, delay_of, is_link}
use Rattle.plan.specs.Packed.{plan_of}

-- What an operation returns: a refusal's number, or its result.
pub data Outcome (A : Type 0) : Type 0 where
  refused : ℕ → Outcome A
  result : A → Outcome A

abbrev pub within : ℕ → ℕ → ℕ → Bool
within lo hi x = leb lo x && leb x hi

-- '2 a header field outside its range'. f, the start cue and the number of operations have no other range than their width.
unfoldable pub header_in_range : Header → Bool
header_in_range h =
    within 1 16 h.n
    && (within 1 15 h.delta
    && (within h.delta 63 h.period
    && (within 1 4 h.readers
    && (within 1 128 h.ticks
    && (leb h.forgeries 1024
    && eqb h.zero_bit 0)))))

-- '3 n below (k+3)f+1'
unfoldable pub enough_servers : Header → Bool
enough_servers h = leb ((k_in h + 3) * h.f + 1) h.n

-- when an operation ends
unfoldable pub end_of : Header → Operation → ℕ
end_of h o = o.at + cond (eqb o.party 0) h.delta (2 * h.delta)

module _ (w : ℕ) (s : List ℕ) (h : Header) where
  -- 'at most f ones, none past box n−1'
  unfoldable pub placement_stands : ℕ → Bool
  placement_stands i = leb (count (in_placement w s h i) h.n) h.f && eqb (field_of s (placement_at w i + h.n) (placement_bits - h.n)) 0

  -- 'Operations strictly rise by tick, then party': the first ten bits, as a number
  unfoldable pub operation_rises : ℕ → Bool
  operation_rises i = eqb i 0 || ltb (field_of s (operation_at w h (i - 1)) (key_bits w)) (field_of s (operation_at w h i) (key_bits w))

  -- 'A party's next operation begins later than its last one ended'
  unfoldable pub operation_waits : ℕ → Bool
  operation_waits i =
      let o : Operation = operation_of w s h i in
      all_up_to i (λ j. not (eqb (operation_of w s h j).party o.party) || ltb (end_of h (operation_of w s h j)) o.at)

  -- 'a party is at most s'; 'cue .. (0 for a read)'; 'every operation ends below H'
  unfoldable pub operation_stands : ℕ → Bool
  operation_stands i =
      let o : Operation = operation_of w s h i in
      leb o.party h.readers
      && ((eqb o.party 0 || eqb o.value 0)
      && (ltb (end_of h o) h.ticks
      && (operation_rises i
      && operation_waits i)))

  -- 'a screen whose read began at or before that tick and ends after it'
  unfoldable pub read_open : Forgery → Bool
  read_open g =
      let P : Plan = plan_of w s in
      any (λ (r : Read). eqb (P.n + r.reader) g.to && (leb r.begun g.at && ltb g.at (read_end P r))) P.reads

  -- 'Forgeries strictly rise as 40-bit numbers'; Ten: 'forgeries rise at their form's width'
  unfoldable pub forgery_rises : ℕ → Bool
  forgery_rises i = eqb i 0 || ltb (field_of s (forgery_at w h (i - 1)) (forgery_bits w)) (field_of s (forgery_at w h i) (forgery_bits w))

  -- 'each with a tick below H. The sender is held after that tick's stage 3. The receiver .. is another box, where it is a vote, or a screen'
  unfoldable pub forgery_stands : ℕ → Bool
  forgery_stands i =
      let g : Forgery = forgery_of w s h i in
      ltb g.at h.ticks
      && ((plan_of w s).placed (g.at / h.period) g.from
      && (((ltb g.to h.n && not (eqb g.to g.from)) || read_open g)
      && forgery_rises i))

  -- 'hold 1 to δ; the rest hold 0'
  unfoldable pub delay_stands : ℕ → ℕ → ℕ → Bool
  delay_stands t i j = cond (is_link h.n i j) (within 1 h.delta (delay_of w s h t i j)) (eqb (delay_of w s h t i j) 0)

  -- 'zero bits to the byte's end', as many as fill it
  unfoldable pub final_bits_zero : Bool
  final_bits_zero = eqb (field_of s (bit_length w h) (fill 8 (bit_length w h))) 0

  unfoldable pub placements_stand : Bool
  placements_stand = all_up_to (moves h) placement_stands

  unfoldable pub operations_stand : Bool
  operations_stand = all_up_to h.operations operation_stands

  unfoldable pub forgeries_stand : Bool
  forgeries_stand = all_up_to h.forgeries forgery_stands

  unfoldable pub delays_stand : Bool
  delays_stand = all_up_to h.ticks (λ t. all_up_to (parties h) (λ i. all_up_to (parties h) (λ j. delay_stands t i j)))

-- the refusal of a test that fails, else what follows
abbrev pub unless : {A : Type 0} → Bool → ℕ → Outcome A → Outcome A
unless test number rest = cond test rest (refused number)

-- 'Check a plan. Refusals, first that applies .. Otherwise it returns the number of reads.'
unfoldable pub check_of : ℕ → List ℕ → Outcome ℕ
check_of w s =
    let h : Header = header_of w s in
    unless (leb (bytes_for (header_bits w)) (length s)) 1
    (unless (header_in_range h) 2
    (unless (enough_servers h) 3
    (unless (eqb (length s) (bytes_for (bit_length w h))) 4
    (unless (placements_stand w s h) 5
    (unless (operations_stand w s h) 6
    (unless (forgeries_stand w s h) 7
    (unless (delays_stand w s h && final_bits_zero w s h) 8
    (result (length (plan_of w s).reads)))))))))

-- Ten: '1 is a form other than one or two'
unfoldable pub check_in : ℕ → List ℕ → Outcome ℕ
check_in form s = unless (is_form form) 1 (check_of (width_of form) s)
