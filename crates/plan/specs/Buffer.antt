-- What an operation that fills a lent buffer returns and leaves (document 02, 'One').
use Rattle.std.specs.Prelude.{List, ◌++◌, ℕ, drop}
use Rattle.plan.specs.Check.{Outcome, refused, result}

-- What it returns, and the lent bytes afterwards.
pub record Buffered : Type 0 where
  pub outcome : Outcome ℕ
  pub out : List ℕ

-- 'This and each later operation that fills a lent buffer returns the number of bytes written .. and leaves those past them unchanged';
-- a refusal writes nothing
unfoldable pub into_buffer : List ℕ → List ℕ → Outcome ℕ → Buffered
into_buffer s out (refused number) = record { outcome = refused number; out = out }
into_buffer s out (result m) = record { outcome = result m; out = s ++ drop m out }
