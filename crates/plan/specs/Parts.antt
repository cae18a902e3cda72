-- The parts of a packed plan behind its header, field by field (document 01, 'The plan, packed').
use Rattle.std.specs.Prelude.{Bool, not, ◌&&◌, cond, List, [], ◌∷◌, map, ℕ, ◌+◌, ltb, eqb, get_or}
use Rattle.bits.specs.Field.{field_of}
use Rattle.bits.specs.Layout.{numbers_at}
use Rattle.register.specs.Lists.{tab, filter}
use Rattle.register.specs.Plan.{Write, Read, Forgery, stamped}
use Rattle.plan.specs.Widths.{operation_widths, forgery_widths}
use Rattle.plan.specs.Header.{Header, placement_at, operation_at, forgery_at, delay_at, delay_bits}

pub record Operation : Type 0 where
  pub at : ℕ
  pub party : ℕ
  pub value : ℕ

-- the operation, and the forgery, whose fields in packed order are these numbers
abbrev pub operation_from : List ℕ → Operation
operation_from xs = record { at = get_or xs 0 0; party = get_or xs 1 0; value = get_or xs 2 0 }

abbrev pub forgery_from : ℕ → List ℕ → Forgery
forgery_from w xs = record { at = get_or xs 0 0; from = get_or xs 1 0; to = get_or xs 2 0; pair = stamped w (get_or xs 3 0) (get_or xs 4 0) }

-- those from bit `at` on
abbrev pub operation_in : ℕ → List ℕ → ℕ → Operation
operation_in w s at = operation_from (numbers_at (operation_widths w) s at)

abbrev pub forgery_in : ℕ → List ℕ → ℕ → Forgery
forgery_in w s at = forgery_from w (numbers_at (forgery_widths w) s at)

module _ (w : ℕ) (s : List ℕ) (h : Header) where
  -- 'box 0 is the top bit': is server b in placement i
  unfoldable pub in_placement : ℕ → ℕ → Bool
  in_placement i b = eqb (field_of s (placement_at w i + b) 1) 1

  unfoldable pub operation_of : ℕ → Operation
  operation_of i = operation_in w s (operation_at w h i)

  unfoldable pub forgery_of : ℕ → Forgery
  forgery_of i = forgery_in w s (forgery_at w h i)

  unfoldable pub delay_of : ℕ → ℕ → ℕ → ℕ
  delay_of t i j = field_of s (delay_at w h t i j) delay_bits

  unfoldable pub operations_of : List Operation
  operations_of = tab h.operations operation_of

-- 'The links box to other box, box to screen, desk to box and screen to box': from a server to all but itself and the writer, from the
-- others to the servers
unfoldable pub is_link : ℕ → ℕ → ℕ → Bool
is_link n i j = cond (ltb i n) (not (eqb i j) && not (eqb j n)) (ltb j n)

-- 'the desk's writes are 1, 2, 3 .. in order'
unfoldable pub writes_from : ℕ → ℕ → List Operation → List Write
writes_from w number [] = []
writes_from w number (o ∷ os) =
    cond (eqb o.party 0)
    (record { begun = o.at; pair = stamped w o.value number } ∷ writes_from w (number + 1) os)
    (writes_from w number os)

unfoldable pub reads_from : List Operation → List Read
reads_from os = map (λ (o : Operation). record { begun = o.at; reader = o.party }) (filter (λ o. not (eqb o.party 0)) os)
