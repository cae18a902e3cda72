-- The lent workspace (document 01, 'Operations of the library', Play and Look).
use Rattle.std.specs.Prelude.{List, ◌++◌, ℕ, drop, replicate}

-- '10 workspace under 60,000 bytes'
abbrev pub workspace_size : ℕ
workspace_size = 60000

-- 'the first 60,000 of the workspace are zero, the rest unchanged'
unfoldable pub zeroed : List ℕ → List ℕ
zeroed k = replicate workspace_size 0 ++ drop workspace_size k
