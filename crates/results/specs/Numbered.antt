-- Document 01's number or value for every case of what the operations return; a refusal's number is that of `refusal_number`.
use Rattle.std.specs.Prelude.{◌≡◌, Bool, List, [], ◌∷◌, ℕ, Option, None, Some, Result, Ok, Err}
use Rattle.plan.specs.declared.Refusal.{Refusal}
use Rattle.plan.specs.Check.{Outcome, refused, result}
use Rattle.plan.specs.Numbered.{refusal_number}
use Rattle.results.specs.declared.look as declared
use Rattle.results.specs.declared.look.Condition.TheVariants as C
use Rattle.results.specs.declared.look.{Pair.Pair, Looked.Looked}
use Rattle.results.specs.Rehearse.{Verdict, yes, no}
use Rattle.results.specs.Look.{Condition, Stamped, Shown, is_faulty, is_cured, is_correct, places_of}

-- the pairs in the places before the first empty one
unfoldable pub shown_in : List (Option Pair) → List Stamped
shown_in [] = []
shown_in (None ∷ ps) = []
shown_in (Some p ∷ ps) = record { value = p.value; number = p.number } ∷ shown_in ps

-- Look: 'It returns held, curing or sound, and its pairs'
abbrev pub condition_in : declared.Condition.Condition → Condition
condition_in C.Faulty = is_faulty
condition_in C.Cured = is_cured
condition_in C.Correct = is_correct

abbrev pub looked : Result Looked Refusal → Outcome Shown
looked (Ok x) = result (record { condition = condition_in x.condition; pairs = shown_in x.places })
looked (Err r) = refused (refusal_number r)

-- 'A refusal returns its number alone': it has no pair
abbrev pub places_in : Result Looked Refusal → List (Option Pair)
places_in (Ok x) = x.places
places_in (Err r) = places_of []

-- Judge: 'Then yes or no'
abbrev pub judged : Result Bool Refusal → Outcome Bool
judged (Ok b) = result b
judged (Err r) = refused (refusal_number r)

-- Play and Judge in one: the number of reads where Judge says yes, and none where it says no
abbrev pub rehearsed : Result (Option ℕ) Refusal → Outcome Verdict
rehearsed (Ok (Some m)) = result (yes m)
rehearsed (Ok None) = result no
rehearsed (Err r) = refused (refusal_number r)

-- the case that point 3 rules out
pub record NotNo (r : Result (Option ℕ) Refusal) : Type 0 where
  pub never : r ≡ Ok None → ⊥
