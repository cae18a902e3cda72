-- Look (document 01, 'Operations of the library'): its result, the array of places beside it and the lent workspace, for all inputs.
use Rattle.std.specs.Prelude.{◌&&◌, cond, List, [], ◌++◌, map, ℕ, suc, ◌-◌, ltb, length, replicate, Option, None, Some}
use Rattle.register.specs.Plan.{value_of, number_of}
use Rattle.register.specs.Server.{Server, Status, faulty, cured, correct}
use Rattle.register.specs.Cluster.{cluster, server_of}
use Rattle.plan.specs.Header.{Header, header_of}
use Rattle.plan.specs.Packed.{store_depth, plan_of}
use Rattle.plan.specs.Form.{width_of}
use Rattle.plan.specs.Check.{Outcome, refused, result, check_of, check_in}
use Rattle.results.specs.declared.look.Pair.{Pair}
use Rattle.answers.specs.Workspace.{workspace_size, zeroed}

-- 'held, curing or sound'
pub data Condition : Type 0 where
  is_faulty : Condition
  is_cured : Condition
  is_correct : Condition

unfoldable pub condition_of : Status → Condition
condition_of faulty = is_faulty
condition_of (cured since) = is_cured
condition_of correct = is_correct

pub record Stamped : Type 0 where
  pub value : ℕ
  pub number : ℕ

-- 'held, curing or sound, and its pairs, highest number first'
pub record Shown : Type 0 where
  pub condition : Condition
  pub pairs : List Stamped

-- 'a held box shows none': a faulty server stands as blank.
unfoldable pub shown_by : ℕ → Server → Shown
shown_by w x = record {
  condition = condition_of x.status;
  pairs = map (λ p. record { value = value_of w p; number = number_of w p }) x.kept;
}

-- A place of the array that Look returns: with a pair, or empty.
abbrev pub place_with : Stamped → Option Pair
place_with p = Some (record { number = p.number; value = p.value })

abbrev pub empty_place : Option Pair
empty_place = None

-- The whole array: the pairs shown, highest number first, then empty places up to the store's depth.
unfoldable pub places_of : List Stamped → List (Option Pair)
places_of pairs = map place_with pairs ++ replicate (store_depth - length pairs) empty_place

-- What Look returns, the array beside it, and the lent bytes afterwards.
pub record Looked : Type 0 where
  pub outcome : Outcome Shown
  pub places : List (Option Pair)
  pub workspace : List ℕ

abbrev pub look_shown : Shown → List ℕ → Looked
look_shown shown workspace = record { outcome = result shown; places = places_of shown.pairs; workspace = workspace }

module _ (w : ℕ) (s workspace : List ℕ) (b t : ℕ) where
  -- 'A refusal returns its number alone': every place is empty.
  abbrev pub look_refused : ℕ → Looked
  look_refused number = record { outcome = refused number; places = places_of []; workspace = workspace }

  unfoldable pub look_after : Outcome ℕ → Looked
  look_after (refused number) = look_refused number
  look_after (result m) =
      let h : Header = header_of w s in
      cond (ltb (length workspace) workspace_size)
      (look_refused 10)
      (cond (ltb b h.n && ltb t h.ticks)
      (look_shown (shown_by w (server_of (cluster (plan_of w s) (suc t)) b)) (zeroed workspace))
      (look_refused 11))

  -- 'Look at a box after a tick, same workspace and rule for it. Check's refusals; then 10; 11 box not below n, or tick not below H.'
  unfoldable pub look_of : Looked
  look_of = look_after (check_of w s)

-- Ten: 'The caller names the form'
unfoldable pub look_in : ℕ → List ℕ → List ℕ → ℕ → ℕ → Looked
look_in form s workspace b t = look_after (width_of form) s workspace b t (check_in form s)
