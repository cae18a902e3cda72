-- How many servers, readers and known pairs there may be.
use Rattle.std.specs.Prelude.{ℕ}

-- how many servers there may be
abbrev pub most_servers : ℕ
most_servers = 16

-- how many readers
abbrev pub most_readers : ℕ
most_readers = 4

-- how many pairs may be known
abbrev pub places : ℕ
places = 65

-- a number that no known pair has
abbrev pub no_pair : ℕ
no_pair = 255
