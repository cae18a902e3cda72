-- Check as a chain of tests: its parts, and the laws of chains, by which a proof goes along one.
-- It stands on the definition of Check.
use mathlib.Core.Path.{◌≡◌, refl, sym, ◌∙◌}
use mathlib.Core.Bool.{Bool, true, false, not}
use mathlib.Core.List.{List}
use Prim.Native.Nat.{ℕ}
use native.Mathlib.Omega.{arith}
use lib.Dec.{T}
use lib.ListN.{length}
use borrow.Author.Tests.{not-true, not-false}
use Rattle.register.proofs.Logic.{T_eq}
use Rattle.plan.specs.Header.{Header, header_of}
use Rattle.plan.specs.Packed.{plan_of}
use Rattle.plan.specs.Check.{Outcome, refused, result, check_of}
use Rattle.plan.specs.CheckParts.{Tests, done, test, run, join, header_tests, bound_tests, rest_tests, check_header, check_rest}
use Rattle.plan.proofs.Tests.{passed}

-- x is a chain of which these tests are left
pub record Left {A : Type 0} (x : Outcome A) (ts : Tests) (y : Outcome A) : Type 0 where
  pub is : x ≡ run ts y

module _ {A : Type 0} {x y : Outcome A} {b : Bool} {number : ℕ} {ts : Tests} where
  -- a test that passes leaves those behind it
  pub goes : Left x (test b number ts) y → b ≡ true → Left x ts y
  unfolding run
  goes l e = record { is = l.is ∙ rw e }

  -- a test that fails refuses
  pub stops : Left x (test b number ts) y → b ≡ false → refused number ≡ x
  unfolding run
  stops l e = sym (l.is ∙ rw e)

-- behind all tests it is what follows them
pub ends : {A : Type 0} {x y : Outcome A} → Left x done y → y ≡ x
unfolding run
ends l = sym l.is

-- the code's flag of a test that passed, and of one that failed
module _ {b r : Bool} where
  pub met : r ≡ b → not r ≡ false → b ≡ true
  met e f = sym e ∙ not-false r f

  pub missed : r ≡ b → not r ≡ true → b ≡ false
  missed e f = sym e ∙ not-true r f

-- what the code found of the header it read, and of the bits of its values, holds of the plan's
pub found : (p : ℕ → Header → Bool) {v w : ℕ} {a b : Header} {r : Bool} → (a ≡ b) × (v ≡ w) → r ≡ p v a → p w b ≡ r
found p e f = rw (← e.0, ← e.1) (sym f)

-- all tests pass
abbrev pub Hold : Tests → Type 0
Hold done = Unit {0}
Hold (test b number ts) = T b × Hold ts

module _ {A : Type 0} where
  -- a chain with a result passed all its tests, and the other way
  pub all_passed : (ts : Tests) (y : Outcome A) (a : A) → run ts y ≡ result a → Hold ts × (y ≡ result a)
  unfolding run
  all_passed done y a e = (tt, e)
  all_passed (test b number ts) y a e =
      let p = passed b number (run ts y) a e in
      let q = all_passed ts y a p.1 in
      ((p.0, q.0), q.1)

  pub passes_all : (ts : Tests) (y : Outcome A) → Hold ts → run ts y ≡ y
  unfolding run
  passes_all done y h = refl
  passes_all (test b number ts) y h = rw (T_eq b h.0) (passes_all ts y h.1)

  -- one chain after another
  pub run_join : (ts us : Tests) (y : Outcome A) → run (join ts us) y ≡ run ts (run us y)
  unfolding run
  run_join done us y = refl
  run_join (test b number ts) us y = rw (run_join ts us y)

  -- a result is no refusal
  pub no_refusal : (a : A) (n : ℕ) → ◌≡◌ {A = Outcome A} (result a) (refused n) → ⊥
  no_refusal a n e = let z : ◌≡◌ {A = ℕ} 0 1 = cc in omega arith

  -- what refuses does so whatever follows
  pub refuses_any : {B : Type 0} (ts : Tests) (a : A) (n : ℕ) → run ts (result a) ≡ refused n → (y : Outcome B) → run ts y ≡ refused n
  unfolding run
  refuses_any done a n e y = absurd (no_refusal a n e)
  refuses_any (test true number ts) a n e y = refuses_any ts a n e y
  refuses_any (test false number ts) a n e y = let z : number ≡ n = cc in rw z

-- Q holds of the number of each test
abbrev pub Numbers : (ℕ → Type 0) → Tests → Type 0
Numbers Q done = Unit {0}
Numbers Q (test b number ts) = Q number × Numbers Q ts

-- then it holds of the refusal
pub refusal_by : {A : Type 0} (Q : ℕ → Type 0) (ts : Tests) (a : A) (n : ℕ) → Numbers Q ts → run ts (result a) ≡ refused n → Q n
unfolding run
refusal_by Q done a n h e = absurd (no_refusal a n e)
refusal_by Q (test true number ts) a n h e = refusal_by Q ts a n h.1 e
refusal_by Q (test false number ts) a n h e = let z : number ≡ n = cc in rw (← z) h.0

module _ (w : ℕ) (s : List ℕ) where
  -- the parts one after the other
  pub check_parts : check_of w s ≡ run (join (header_tests w s) (join (bound_tests (header_of w s)) (rest_tests w s (header_of w s)))) (result (length (plan_of w s).reads))
  unfolding check_of run
  check_parts = refl

  -- any tests behind those of the header
  module _ {A : Type 0} (us : Tests) (y : Outcome A) where
    -- a refusal of the header is that of the whole
    pub header_refuses : (n : ℕ) → check_header w s ≡ refused n → run (join (header_tests w s) us) y ≡ refused n
    unfolding check_header
    header_refuses n e = run_join (header_tests w s) us y ∙ refuses_any (header_tests w s) (header_of w s) n e (run us y)

    -- a header that passes leaves them
    pub header_leaves : (h : Header) → check_header w s ≡ result h → Left (run (join (header_tests w s) us) y) us y
    unfolding check_header
    header_leaves h e =
        record { is = run_join (header_tests w s) us y ∙ passes_all (header_tests w s) (run us y) (all_passed (header_tests w s) (result (header_of w s)) h e).0 }

  -- it is the plan's
  pub header_is : (h : Header) → check_header w s ≡ result h → h ≡ header_of w s
  unfolding check_header
  header_is h e = let z : result (header_of w s) ≡ result h = (all_passed (header_tests w s) (result (header_of w s)) h e).1 in cc

  -- so Check goes on with the bound, then with the rest
  pub check_leaves : (h : Header) → check_header w s ≡ result h → Left (check_of w s) (join (bound_tests h) (rest_tests w s h)) (result (length (plan_of w s).reads))
  check_leaves h e = rw (header_is h e) (record { is = check_parts ∙ (header_leaves _ _ h e).is })

  pub check_refused : (n : ℕ) → check_header w s ≡ refused n → check_of w s ≡ refused n
  check_refused n e = check_parts ∙ header_refuses _ _ n e

-- the rest as a chain of its own, and as what is left of a longer one
module _ (w : ℕ) (s : List ℕ) (h : Header) where
  pub rest_left : Left (check_rest w s h) (rest_tests w s h) (result (length (plan_of w s).reads))
  unfolding check_rest
  rest_left = record { is = refl }

  pub rest_is : {x : Outcome ℕ} → Left x (rest_tests w s h) (result (length (plan_of w s).reads)) → x ≡ check_rest w s h
  unfolding check_rest
  rest_is l = l.is
