-- The arrivals that the code counts are those of the plan's forged messages.
-- It stands on the forged part of a plan that can be played, and on the law of messages by index.
use mathlib.Core.Path.{◌≡◌, sym, ap, ◌∙◌}
use mathlib.Core.List.{List}
use Prim.Native.Nat.{ℕ, ◌+◌, ◌-◌, ◌/◌, ◌%◌, ◌≤◌, ◌<◌}
use native.Mathlib.Omega.{arith}
use lib.Dec.{eqb}
use lib.ListN.{length, get_or, take, drop}
use Rattle.register.specs.Lists.{count}
use Rattle.register.specs.Plan.{Forgery}
use Rattle.register.proofs.Counting.{count_cong}
use Rattle.register.proofs.Lists.{length_tab_from, get_d_tab}
use Rattle.traffic.specs.Traffic.{largest, forgeries_in}
use Rattle.traffic.proofs.Sums.{largest_cong}
use Rattle.traffic.proofs.Forged.{arrives_in, forgeries_counted}
use Rattle.plan.specs.{declared.header.Shape.Shape, Header.header_of, Header.operation_at, Parts.forgery_of, Packed.plan_of, Playable.Playable, Shape.shape}
use Rattle.tables.specs.declared.Links.{Links}
use Rattle.tables.specs.Forged.{forged_at, message_of, message_delay}
use Rattle.tables.specs.Rules.{LinksOf}
use Rattle.tables.proofs.Forging.{counted, message, delay_same}
use Rattle.forecast.specs.Steps.{most_ticks, arrival_at, Arrived}

-- the plan's forged messages by index
module _ (w : ℕ) (s : List ℕ) where
  listed : length (plan_of w s).forged ≡ (header_of w s).forgeries
  unfolding plan_of
  listed = length_tab_from 0 (header_of w s).forgeries (forgery_of w s (header_of w s))

  listed_at : (e : ℕ) (d : Forgery) → e < (header_of w s).forgeries → get_or (plan_of w s).forged e d ≡ message_of w s e
  unfolding plan_of
  listed_at e d l = get_d_tab (header_of w s).forgeries (forgery_of w s (header_of w s)) e d l

  pub arriving : (t : ℕ) → forgeries_in (plan_of w s) t ≡ count (λ e. eqb (arrives_in (plan_of w s) (message_of w s e)) t) (header_of w s).forgeries
  arriving t =
      let none : Forgery = record { at = 0; from = 0; to = 0; pair = 0 } in
      forgeries_counted (plan_of w s) t none
      ∙ ap (count _) listed
      ∙ count_cong _ _ (header_of w s).forgeries (λ e l. ap (λ g. eqb (arrives_in (plan_of w s) g) t) (listed_at e none l))

-- a plan that can be played, its header by value, and the bit where its forged part starts
module _ (w : ℕ) (s : List ℕ) (A : Playable w s) (x : Shape) (same : shape x ≡ header_of w s) (at : ℕ) (start : at ≡ operation_at w (shape x) x.operations)
    (links : Links) (linked : LinksOf w (shape x) links) where
  abbrev part : List ℕ
  part = take (length s - at / 8) (drop (at / 8) s)

  abbrev arrival : ℕ → ℕ
  arrival e = arrival_at w part (at % 8) s links e

  arrival-same : (e : ℕ) → e < (header_of w s).forgeries → arrival e ≡ arrives_in (plan_of w s) (message_of w s e)
  arrival-same e l =
      ap (λ d. (forged_at w part (at % 8) e).at + d) (delay_same w s A x same at start links linked e l)
      ∙ ap (λ (g : Forgery). g.at + message_delay w s e) (message w s A x same at start e)

  pub most_arriving : (table : List ℕ) (ticks : ℕ) → ticks ≤ most_ticks → Arrived arrival x.forgeries table
      → largest (λ t. get_or table t 0) ticks ≡ largest (forgeries_in (plan_of w s)) ticks
  most_arriving table ticks few T = largest_cong _ _ ticks (λ t l.
      T.each t (omega arith)
      ∙ ap (count _) (counted w s A x same at start)
      ∙ count_cong _ _ (header_of w s).forgeries (λ e k. ap (λ a. eqb a t) (arrival-same e k))
      ∙ sym (arriving w s t))
