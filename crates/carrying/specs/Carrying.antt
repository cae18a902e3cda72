-- A plan carried from one form to the other (document 02, 'Ten'): from values of v bits to values of w bits, for any two widths.
use Rattle.std.specs.Prelude.{Bool, ◌&&◌, List, ℕ, ◌^◌, ltb, leb, length}
use Rattle.register.specs.Lists.{all_up_to}
use Rattle.register.specs.Plan.{stamped, value_of, number_of}
use Rattle.plan.specs.Header.{Header, header_of}
use Rattle.plan.specs.Parts.{operation_of, forgery_of}
use Rattle.plan.specs.Check.{Outcome, refused, result, unless, check_of}
use Rattle.plan.specs.Buffer.{Buffered, into_buffer}
use Rattle.lists.specs.Lists.{lists_of, packed_plan}

-- a stamped value in the other form, 'every field keeping its number': the same value and the same number
unfoldable pub carried_pair : ℕ → ℕ → ℕ → ℕ
carried_pair v w p = stamped w (value_of v p) (number_of v p)

module _ (v w : ℕ) (s : List ℕ) where
  -- 'plans carried to form two and back, every field keeping its number'
  unfoldable pub carried_plan : List ℕ
  carried_plan = packed_plan w (lists_of v s)

  -- '19: on the way back, a cue above 65,535': does every value have at most w bits
  unfoldable pub values_fit : Bool
  values_fit =
      let h : Header = header_of v s in
      ltb h.initial (2 ^ w)
      && (all_up_to h.operations (λ i. ltb (operation_of v s h i).value (2 ^ w))
      && all_up_to h.forgeries (λ i. ltb (value_of v (forgery_of v s h i).pair) (2 ^ w)))

  -- '20: lent buffer shorter than the carried plan.' For a plan that passed Check
  unfoldable pub carry_tests : ℕ → Outcome ℕ
  carry_tests room = unless values_fit 19 (unless (leb (length carried_plan) room) 20 (result (length carried_plan)))

  -- 'Both after Check's numbers.'
  unfoldable pub carry_after : ℕ → Outcome ℕ → Outcome ℕ
  carry_after room (refused number) = refused number
  carry_after room (result m) = carry_tests room

  unfoldable pub carry_of : List ℕ → Buffered
  carry_of out = into_buffer carried_plan out (carry_after (length out) (check_of v s))
