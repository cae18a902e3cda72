-- What a rehearsal plays, free of bytes (document 01, 'The hall'). A plan of bytes gives one by plan_of.
use Rattle.std.specs.Prelude.{Bool, cond, List, ℕ, ◌+◌, ◌*◌, ◌/◌, ◌%◌, ◌^◌, leb, eqb}

-- A stamped value (document 01: a pair), number · 2 ^ w + value for values of w bits: its order is that of numbers, then values.
unfoldable pub stamped : ℕ → ℕ → ℕ → ℕ
stamped w value number = number * 2 ^ w + value

unfoldable pub value_of : ℕ → ℕ → ℕ
value_of w p = p % 2 ^ w

unfoldable pub number_of : ℕ → ℕ → ℕ
number_of w p = p / 2 ^ w

-- A write of the one writer (document 01: the desk), begun in a tick.
pub record Write : Type 0 where
  pub begun : ℕ
  pub pair : ℕ

-- A read of a reader (document 01: a screen), 1 to s, begun in a tick.
pub record Read : Type 0 where
  pub begun : ℕ
  pub reader : ℕ

-- A forged message: tick, sending server, receiving party, and the stamped value it names.
pub record Forgery : Type 0 where
  pub at : ℕ
  pub from : ℕ
  pub to : ℕ
  pub pair : ℕ

-- Parties are servers 0 to n - 1 (document 01: boxes), then the writer, n, then the readers, n + 1 to n + s.
pub record Plan : Type 0 where
  pub n : ℕ
  pub f : ℕ
  pub delta : ℕ
  pub period : ℕ
  -- how many stamped values a server keeps
  pub depth : ℕ
  -- the start cue, pair number 0
  pub initial : ℕ
  -- does placement i make server b faulty (document 01: held)
  pub placed : ℕ → ℕ → Bool
  pub writes : List Write
  pub reads : List Read
  pub forged : List Forgery
  -- how long a message takes that is sent in tick t on the link from party i to party j
  pub delay : ℕ → ℕ → ℕ → ℕ

-- 'k is 1 when Δ is at least 2δ, and 2 when Δ lies from δ to 2δ−1.'
unfoldable pub k_of : ℕ → ℕ → ℕ
k_of delta period = cond (leb (2 * delta) period) 1 2

module _ (P : Plan) where
  abbrev pub kk : ℕ
  kk = k_of P.delta P.period

  -- 'by 2f+1 different boxes in the present period'
  abbrev pub echo_quorum : ℕ
  echo_quorum = 2 * P.f + 1

  -- 'or by (k+1)f+1 different boxes in the last k periods together'; also what a read's answer needs
  abbrev pub reply_quorum : ℕ
  reply_quorum = (kk + 1) * P.f + 1

  -- 'Moves happen at ticks 0, Δ, 2Δ ..'
  unfoldable pub is_move : ℕ → Bool
  is_move t = eqb (t % P.period) 0

  -- 'a read begun at r sends READ and ends at r+2δ'
  abbrev pub read_end : Read → ℕ
  read_end r = r.begun + 2 * P.delta

  -- 'a write begun at w sends WRITE to all boxes and ends at w+δ'
  abbrev pub write_end : Write → ℕ
  write_end w = w.begun + P.delta
