-- What a line is made of: characters that can be printed, so no line feed among them.
use Rattle.std.specs.Prelude.{Bool, true, ◌&&◌, List, [], ◌∷◌, ℕ, leb}

-- ' ' to '~'
unfoldable pub is_printable : List ℕ → Bool
is_printable [] = true
is_printable (b ∷ bs) = (leb 32 b && leb b 126) && is_printable bs
