-- Bytes stored in a buffer from a place on.
use Rattle.std.specs.Prelude.{◌≡◌, List, ℕ, ◌+◌, length}
use Rattle.std.proofs.lemmas.List.Edits.{sets as stored_at}

-- `after` is `before` with the bytes from place `at` on, as many as fit; `next` is the place behind them all
pub record Stored (before : List ℕ) (at : ℕ) (bytes after : List ℕ) (next : ℕ) : Type 0 where
  pub next_is : next ≡ at + length bytes
  pub bytes_are : after ≡ stored_at before at bytes
