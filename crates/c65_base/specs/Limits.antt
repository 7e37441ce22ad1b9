-- The number that each counted quantity may reach.
use Rattle.std.specs.Prelude.{ℕ}
use Rattle.c65_base.specs.declared.refusal.Size.{Size}
use Rattle.c65_base.specs.declared.refusal.Size.TheVariants.{File, Line, Names, Includes, Conditionals, Macros, MacroArguments, Tokens, Literal, Depth, Members, Cases, ArgumentBytes, Object, Frame, Units, Image, Arguments}

abbrev pub limit_of : Size → ℕ
limit_of File = 1048576
limit_of Line = 32767
limit_of Names = 65535
limit_of Includes = 64
limit_of Conditionals = 64
limit_of Macros = 16384
limit_of MacroArguments = 127
limit_of Tokens = 500000
limit_of Literal = 4095
limit_of Depth = 256
limit_of Members = 1024
limit_of Cases = 1024
limit_of ArgumentBytes = 250
limit_of Object = 65535
limit_of Frame = 1024
limit_of Units = 64
limit_of Image = 62960
limit_of Arguments = 1024
