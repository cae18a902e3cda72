-- The records of a packed plan, each as one list of widths (document 01, 'The plan, packed').
-- w is the width of a value (document 01: a cue), 16 in form one and 24 in form two.
use Rattle.std.specs.Prelude.{List, [], ◌∷◌, ℕ}

-- 'n 5 bits (1–16), f 2 bits, δ 4 (1–15), Δ 6 (δ–63), s 3 (1–4), ticks H 8 (1–128), start cue 16, operations 8, forgeries 11 (at most
-- 1,024), one zero bit'
abbrev pub header_widths : ℕ → List ℕ
header_widths w = 5 ∷ 2 ∷ 4 ∷ 6 ∷ 3 ∷ 8 ∷ w ∷ 8 ∷ 11 ∷ 1 ∷ []

-- 'placements, 16 bits for each move below H'
abbrev pub placement_widths : List ℕ
placement_widths = 16 ∷ []

-- 'operations, 26 bits: tick 7, party 3 (0 desk, else a screen), cue 16 (0 for a read)'
abbrev pub operation_widths : ℕ → List ℕ
operation_widths w = 7 ∷ 3 ∷ w ∷ []

-- 'forgeries, 40 bits: tick 7, sender 4, receiver 5, cue 16, number 8'
abbrev pub forgery_widths : ℕ → List ℕ
forgery_widths w = 7 ∷ 4 ∷ 5 ∷ w ∷ 8 ∷ []

-- 'delays, 4 bits for each tick, sender and receiver in that order'
abbrev pub delay_widths : List ℕ
delay_widths = 4 ∷ []
