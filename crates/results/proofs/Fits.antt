-- What it says that an answer passes Judge's test 13: it is one to its read.
-- It stands on the definition alone.
use mathlib.Core.Path.{◌≡◌}
use mathlib.Core.Bool.{true}
use mathlib.Core.List.{List}
use Prim.Native.Nat.{ℕ}
use lib.Dec.{eqb}
use borrow.Author.Tests.{eqb-true}
use Rattle.register.proofs.Logic.{and_both}
use Rattle.plan.specs.Packed.{plan_of}
use Rattle.answers.specs.Answers.{begin_in, reader_in, zero_in}
use Rattle.results.specs.Judge.{read_of, answer_fits}

-- answer i has begin and reader of read i, and ends with a zero bit
pub record IsTo (w : ℕ) (s a : List ℕ) (i : ℕ) : Type 0 where
  pub begin : begin_in w a i ≡ (read_of (plan_of w s) i).begun
  pub reader : reader_in w a i ≡ (read_of (plan_of w s) i).reader
  pub zero_bit : zero_in w a i ≡ 0

pub fits_to : (w : ℕ) (s a : List ℕ) (i : ℕ) → answer_fits w s a i ≡ true → IsTo w s a i
unfolding answer_fits
fits_to w s a i e =
    let x = and_both (eqb (begin_in w a i) (read_of (plan_of w s) i).begun) _ e in
    let y = and_both (eqb (reader_in w a i) (read_of (plan_of w s) i).reader) (eqb (zero_in w a i) 0) x.1 in
    record { begin = eqb-true _ _ x.0; reader = eqb-true _ _ y.0; zero_bit = eqb-true _ _ y.1 }
