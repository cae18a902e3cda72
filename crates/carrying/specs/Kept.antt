-- What a carried plan keeps (document 02, 'Ten': 'every field keeping its number'), for any two widths of a value.
use Rattle.std.specs.Prelude.{◌≡◌, List, ℕ, ◌<◌}
use Rattle.register.specs.Plan.{Forgery, value_of, number_of}
use Rattle.plan.specs.Header.{header_of, placement_bits, moves, parties}
use Rattle.plan.specs.Parts.{in_placement, operation_of, forgery_of, delay_of}

-- the forgery k at w bits is the forgery g at v bits
pub record KeptForgery (v w : ℕ) (g k : Forgery) : Type 0 where
  pub at : k.at ≡ g.at
  pub from : k.from ≡ g.from
  pub to : k.to ≡ g.to
  pub value : value_of w k.pair ≡ value_of v g.pair
  pub number : number_of w k.pair ≡ number_of v g.pair

-- each part of the plan t at w bits is that of the plan s at v bits
pub record Kept (v w : ℕ) (s t : List ℕ) : Type 0 where
  pub header : header_of w t ≡ header_of v s
  pub placements : (i b : ℕ) → i < moves (header_of v s) → b < placement_bits → in_placement w t (header_of w t) i b ≡ in_placement v s (header_of v s) i b
  pub operations : (i : ℕ) → i < (header_of v s).operations → operation_of w t (header_of w t) i ≡ operation_of v s (header_of v s) i
  pub forgeries : (i : ℕ) → i < (header_of v s).forgeries → KeptForgery v w (forgery_of v s (header_of v s) i) (forgery_of w t (header_of w t) i)
  pub delays : (tick i j : ℕ) → tick < (header_of v s).ticks → i < parties (header_of v s) → j < parties (header_of v s)
      → delay_of w t (header_of w t) tick i j ≡ delay_of v s (header_of v s) tick i j
