-- An operation and a forgery as the code reads them.
use Rattle.std.specs.Prelude.{◌≡◌, List, ℕ, ◌^◌, ◌<◌}
use Rattle.bits.specs.Layout.{numbers_in}
use Rattle.register.specs.Plan.{Forgery, stamped}
use Rattle.plan.specs.Widths.{forgery_widths}
use Rattle.plan.specs.Parts as Parts
use Rattle.plan.specs.Parts.{operation_in, forgery_from}
use Rattle.plan.specs.declared.operations.Operation.{Operation}
use Rattle.plan.specs.declared.forgeries.Forged.{Forged}

-- the code's operation as the definitions' one
abbrev pub operation : Operation → Parts.Operation
operation o = record { at = o.at; party = o.party; value = o.value }

-- the operation from bit `at` on, with a value of w bits
pub record IsOperation (w : ℕ) (s : List ℕ) (at : ℕ) (o : Operation) : Type 0 where
  pub is : operation o ≡ operation_in w s at
  pub tick_hi : o.at < 128
  pub party_hi : o.party < 8
  pub value_hi : o.value < 2 ^ w

-- the code's forgery as the definitions' one
abbrev pub forgery : ℕ → Forged → Forgery
forgery w g = record { at = g.at; from = g.from; to = g.to; pair = stamped w g.value g.number }

-- the forgery in the number that has all its bits
pub record IsForged (w all : ℕ) (g : Forged) : Type 0 where
  pub is : forgery w g ≡ forgery_from w (numbers_in (forgery_widths w) all)
  pub tick_hi : g.at < 128
  pub sender_hi : g.from < 16
  pub receiver_hi : g.to < 32
  pub value_hi : g.value < 2 ^ w
