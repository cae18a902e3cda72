-- The example of docs/FORMATS.md as lists, and lists that are bent from it (document 02, 'One').
use Rattle.std.specs.Prelude.{List, [], ◌∷◌, ◌++◌, ℕ}
use Rattle.lists.specs.Lists.{Lists}

-- one server, the writer and a reader, in three ticks
abbrev pub tick_delays : List ℕ
tick_delays = 0 ∷ 0 ∷ 1 ∷ 1 ∷ 0 ∷ 0 ∷ 1 ∷ 0 ∷ 0 ∷ []

abbrev pub first_lists : Lists
first_lists = record {
  header = 1 ∷ 0 ∷ 1 ∷ 1 ∷ 1 ∷ 3 ∷ 7 ∷ 1 ∷ 0 ∷ 0 ∷ [];
  placements = 0 ∷ 0 ∷ 0 ∷ [];
  operations = 0 ∷ 1 ∷ 0 ∷ [];
  forgeries = [];
  delays = tick_delays ++ (tick_delays ++ tick_delays);
}

-- 'a header list of other than ten numbers'
abbrev pub nine_numbers : Lists
nine_numbers = record {
  header = 1 ∷ 0 ∷ 1 ∷ 1 ∷ 1 ∷ 3 ∷ 7 ∷ 1 ∷ 0 ∷ [];
  placements = first_lists.placements;
  operations = first_lists.operations;
  forgeries = first_lists.forgeries;
  delays = first_lists.delays;
}

-- 'a number too wide for its field': party 8, and delays that do not stand besides
abbrev pub wide_party : Lists
wide_party = record {
  header = first_lists.header;
  placements = first_lists.placements;
  operations = 0 ∷ 8 ∷ 0 ∷ [];
  forgeries = first_lists.forgeries;
  delays = tick_delays ++ (tick_delays ++ (9 ∷ 0 ∷ 1 ∷ 1 ∷ 0 ∷ 0 ∷ 1 ∷ 0 ∷ 0 ∷ []));
}
