-- What the code tests of an answer and its read.
use Rattle.std.specs.Prelude.{Bool, ◌&&◌, List, ℕ, eqb}
use Rattle.answers.specs.Answers.{begin_in, reader_in, zero_in}

-- begin, reader and zero bit of answer i are those of a read
unfoldable pub fits_read : ℕ → List ℕ → ℕ → ℕ → ℕ → Bool
fits_read w a i begun reader = eqb (begin_in w a i) begun && (eqb (reader_in w a i) reader && eqb (zero_in w a i) 0)
