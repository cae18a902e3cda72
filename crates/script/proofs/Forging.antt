-- What is written into the entries for the forged part of a plan that can be played are the plan's forged messages.
-- It stands on the laws of that part.
use mathlib.Core.Path.{◌≡◌, ap}
use mathlib.Core.List.{List}
use Prim.Native.Nat.{ℕ, ◌%◌, ◌≤◌}
use lib.ListN.{length}
use Rattle.plan.specs as plan-specs
use Rattle.plan.specs.Header.{header_of, operation_at}
use Rattle.tables.specs.declared.Links.{Links}
use Rattle.limits.specs.Limits.{places}
use Rattle.forging.specs.Entries.{entries_end, known_number, Fillable, Filled, Starts}
use Rattle.tables.specs.Forged.{forged_at, forged_delay}
use Rattle.tables.specs.Rules.{LinksOf}
use Rattle.script.specs.Script.{Entered}
use Rattle.tables.proofs.Forging.{part, counted, message, legible, delay_same}

module _ (w : ℕ) (s : List ℕ) (A : plan-specs.Playable.Playable w s) (x : plan-specs.declared.header.Shape.Shape) (same : plan-specs.Shape.shape x ≡ header_of w s) (at : ℕ)
    (starts-at : at ≡ operation_at w (plan-specs.Shape.shape x) x.operations) (links : Links) (linked : LinksOf w (plan-specs.Shape.shape x) links) where
  abbrev bytes : List ℕ
  bytes = part w s A x same at starts-at

  messages : x.forgeries ≡ (header_of w s).forgeries
  messages = counted w s A x same at starts-at

  pub fillable : w ≤ plan-specs.Form.most_width → (work : List ℕ) (m : ℕ) → entries_end ≤ length work → m ≤ places → Fillable w work bytes (at % 8) x.forgeries s links links.n m
  fillable narrow work m room pairs = record { messages = legible w s A x same at starts-at links linked narrow; room = room; pairs = pairs }

  pub forged : (before after values : List ℕ) (m : ℕ) (starts : List ℕ)
      → Filled before after x.forgeries (forged_at w bytes (at % 8)) (λ e. forged_delay s links (forged_at w bytes (at % 8) e)) (λ e. known_number w values m (forged_at w bytes (at % 8) e))
      → Starts after x.forgeries starts → Entered w s before after values m starts
  forged before after values m starts W S =
      let X = rw messages at W in
      record {
        filled = record { size = X.size; entry = λ e l. rw (ap (known_number w values m) (message w s A x same at starts-at e), delay_same w s A x same at starts-at links linked e l, message w s A x same at starts-at e) at (X.entry e l); other = X.other };
        started = rw messages at S;
      }
