-- What C is handed by Play and by the operations that fill a lent buffer: the result as a number, and the lent bytes afterwards. Built on the operations' own definitions.
use Rattle.std.specs.Prelude.{cond, List, ℕ}
use Rattle.lists.specs.Lists.{Lists}
use Rattle.plan.specs.Form.{is_form, width_of}
use Rattle.plan.specs.Buffer.{Buffered}
use Rattle.pack.specs.Pack.{pack_in}
use Rattle.answers.specs.Answers.{answer_size}
use Rattle.results.specs.Play.{Played, play_in}
use Rattle.codes.specs.Codes.{code_of}

pub record Handed : Type 0 where
  pub code : ℕ
  pub answers : List ℕ
  pub workspace : List ℕ

abbrev pub handed_by : Played → Handed
handed_by x = record { code = code_of x.outcome; answers = x.answers; workspace = x.workspace }

-- Play in a form
abbrev pub play_exported : ℕ → List ℕ → List ℕ → List ℕ → Handed
play_exported form plan answers workspace = handed_by (play_in form plan answers workspace)

pub record Written : Type 0 where
  pub code : ℕ
  pub out : List ℕ

abbrev pub written_by : Buffered → Written
written_by x = record { code = code_of x.outcome; out = x.out }

-- Pack in a form
abbrev pub pack_exported : ℕ → Lists → List ℕ → Written
pack_exported form l out = written_by (pack_in form l out)

-- the bytes of an answer in a form; 0 where there is no such form
abbrev pub answer_bytes_in : ℕ → ℕ
answer_bytes_in form = cond (is_form form) (answer_size (width_of form)) 0
