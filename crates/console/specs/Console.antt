-- Where the program says what is wrong.
use Rattle.std.specs.Prelude.{ℤ, pos}
use Rattle.console.specs.declared.Stream.{Stream}
use Rattle.console.specs.declared.Stream.TheVariants.{Output, Errors}

-- standard error, where everything goes that is no answer
abbrev pub error_stream : ℤ
error_stream = pos 2

-- the number that the system has for a stream
abbrev pub descriptor_of : Stream → ℤ
descriptor_of Output = pos 1
descriptor_of Errors = pos 2
