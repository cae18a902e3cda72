-- What the code is handed, as the definitions have it.
use Rattle.std.specs.Prelude.{◌≡◌, true, List, [], ℕ}
use Rattle.bits.specs.Layout.{fits}
use Rattle.plan.specs.Widths.{header_widths}
use Rattle.plan.specs.Header.{Header}
use Rattle.plan.specs.Shape.{Ranged}
use Rattle.lists.specs.Lists.{Lists, Full, listed}
use Rattle.pack.specs.declared.Parts.{Parts}

abbrev pub lists_from : List ℕ → List ℕ → List ℕ → List ℕ → List ℕ → Lists
lists_from header placements operations forgeries delays = record {
  header = header;
  placements = placements;
  operations = operations;
  forgeries = forgeries;
  delays = delays;
}

-- the same without the header, which the code then has by value
abbrev pub parts_from : List ℕ → List ℕ → List ℕ → List ℕ → Lists
parts_from placements operations forgeries delays = lists_from [] placements operations forgeries delays

-- the lists behind a header, and with it
abbrev pub parts_of : Parts → Lists
parts_of p = parts_from p.placements.now p.operations.now p.forgeries.now p.delays.now

abbrev pub with_header : List ℕ → Parts → Lists
with_header header p = lists_from header p.placements.now p.operations.now p.forgeries.now p.delays.now

-- the tests 2 to 4 are passed at values of w bits: h is the header that is listed
pub record Listed (w : ℕ) (l : Lists) (h : Header) : Type 0 where
  pub header : h ≡ listed l
  pub fit : fits (header_widths w) l.header ≡ true
  pub ranged : Ranged h
  pub full : Full w h l
