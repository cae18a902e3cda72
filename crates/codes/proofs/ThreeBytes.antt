-- Look shows values of three bytes, in either form. It stands on the definition of Look.
use mathlib.Core.Bool.{Bool, true, false, ◌&&◌, cond}
use mathlib.Core.List.{List, [], ◌∷◌, ◌++◌, map}
use Prim.Native.Nat.{ℕ, zero, suc, ◌-◌, ◌≤◌}
use native.Mathlib.Nat.{lt_of_lt_of_le}
use lib.{Dec.ltb, Pow.pow_mono, ListN.length, ListN.replicate}
use Rattle.register.specs.{Plan.value_of, Plan.number_of, Server.Server, Cluster.cluster, Cluster.server_of}
use Rattle.register.proofs.Stamped.{value_below}
use Rattle.plan.specs.{Header.header_of, Packed.store_depth, Packed.plan_of, Form.width_of, Form.most_width, Check.Outcome, Check.refused, Check.result, Check.check_in}
use Rattle.plan.proofs.Forms.{form_narrow}
use Rattle.answers.specs.Workspace.{workspace_size, zeroed}
use Rattle.results.specs.Look.{shown_by, place_with, empty_place, places_of, Looked, look_shown, look_refused, look_after, look_in}
use Rattle.codes.specs.Codes.{ThreeBytes}

empty_three : (k : ℕ) → ThreeBytes (replicate k empty_place)
empty_three zero q = tt
empty_three (suc k) zero = tt
empty_three (suc k) (suc q) = empty_three k q

module _ (w : ℕ) (narrow : w ≤ most_width) where
  shown-three : (l : List ℕ) (k : ℕ) → ThreeBytes (map place_with (map (λ p. record { value = value_of w p; number = number_of w p }) l) ++ replicate k empty_place)
  shown-three [] k q = empty_three k q
  shown-three (p ∷ l) k zero = lt_of_lt_of_le (value_below w p) (pow_mono narrow)
  shown-three (p ∷ l) k (suc q) = shown-three l k q

  server-three : (x : Server) → ThreeBytes (places_of (shown_by w x).pairs)
  unfolding places_of shown_by
  server-three x = shown-three x.kept (store_depth - length (shown_by w x).pairs)

  module _ (s work : List ℕ) (b t : ℕ) where
    none : (number : ℕ) → ThreeBytes (look_refused w s work b t number).places
    unfolding places_of
    none number = empty_three store_depth

    shown : Looked
    shown = look_shown (shown_by w (server_of (cluster (plan_of w s) (suc t)) b)) (zeroed work)

    some : ThreeBytes shown.places
    unfolding shown
    some = server-three (server_of (cluster (plan_of w s) (suc t)) b)

    room : (c d : Bool) → ThreeBytes (cond c (look_refused w s work b t 10) (cond d shown (look_refused w s work b t 11))).places
    room true d = none 10
    room false true = some
    room false false = none 11

    after : (o : Outcome ℕ) → ThreeBytes (look_after w s work b t o).places
    unfolding look_after shown
    after (refused number) = none number
    after (result m) = room (ltb (length work) workspace_size) (ltb b (header_of w s).n && ltb t (header_of w s).ticks)

pub look_three : (form : ℕ) (s work : List ℕ) (b t : ℕ) → ThreeBytes (look_in form s work b t).places
unfolding look_in
look_three form s work b t = after (width_of form) (form_narrow form) s work b t (check_in form s)
