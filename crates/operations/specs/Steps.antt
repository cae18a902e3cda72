-- What a single step of the code finds.
use Rattle.std.specs.Prelude.{Bool, ◌&&◌, ◌||◌, leb, ltb, eqb}
use Rattle.plan.specs.Header.{Header}
use Rattle.plan.specs.Parts.{Operation}
use Rattle.plan.specs.Check.{end_of}

-- the part of an operation's test that looks at no other operation
abbrev pub stands_alone : Header → Operation → Bool
stands_alone h o = leb o.party h.readers && ((eqb o.party 0 || eqb o.value 0) && ltb (end_of h o) h.ticks)
