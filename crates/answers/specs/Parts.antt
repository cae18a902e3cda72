-- An answer as the code reads it.
use Rattle.std.specs.Prelude.{◌≡◌, List, ℕ, ◌^◌, ◌<◌}
use Rattle.register.specs.Plan.{stamped}
use Rattle.answers.specs.Answers.{begin_in, reader_in, pair_in, count_in, zero_in}
use Rattle.answers.specs.declared.Answer.{Answer}

-- answer i among answer bytes, with a value of w bits
pub record IsAnswer (w : ℕ) (a : List ℕ) (i : ℕ) (r : Answer) : Type 0 where
  pub begin : r.begin ≡ begin_in w a i
  pub reader : r.reader ≡ reader_in w a i
  pub pair : stamped w r.value r.number ≡ pair_in w a i
  pub count : r.count ≡ count_in w a i
  pub zero_bit : r.zero ≡ zero_in w a i
  pub value_hi : r.value < 2 ^ w
