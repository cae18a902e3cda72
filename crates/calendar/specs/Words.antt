-- Numbers of two bytes, the low byte first: word w stands at the bytes 2 w and 2 w + 1.
use Rattle.std.specs.Prelude.{List, ℕ, ◌+◌, ◌*◌, ◌/◌, ◌%◌, get_or, set}

unfoldable pub word_of : List ℕ → ℕ → ℕ
word_of s w = get_or s (2 * w) 0 + 256 * get_or s (2 * w + 1) 0

-- the bytes with word w replaced
unfoldable pub put_word : List ℕ → ℕ → ℕ → List ℕ
put_word s w x = set (set s (2 * w) (x % 256)) (2 * w + 1) (x / 256)
