-- What a call passes (docs/MACHINE.md, "Calls").
use Rattle.std.specs.Prelude.{ℕ, ◌+◌, ◌%◌, max, min, not, Bool, true, false, if◌then◌else◌, List, []}
use Rattle.c65_ctype.specs.Trees.{Ty, pointer, function, qual, type_in}
use Rattle.c65_csem.specs.Trees.{Typed, node, pack, Nodes, none, some}
use Rattle.c65_code.specs.declared.line.Line.{Line}
use Rattle.c65_code.specs.declared.parts.RegSet.{RegSet}
use Rattle.c65_code.specs.Effects.{only_y}
use Rattle.c65_genframe.specs.Frames.{Framed, is_variadic, takes_stack, type_bytes}
use Rattle.c65_genframe.specs.Registers.{registers}
use Rattle.c65_genwide.specs.Passing.{pass_bytes}
use Rattle.c65_genload.specs.Conversions.{size_of}
use Rattle.c65_genexpr.specs.declared.arguments.Passed.{Passed}
use Rattle.c65_genexpr.specs.Types.{kind_of}

-- whether the last argument is passed in registers, by the type of the called pointer
abbrev pub is_fast : Ty → Bool
is_fast (pointer (qual (function f) c v)) = not (takes_stack f)
is_fast _ = true

-- whether the number of bytes is passed in Y
abbrev pub is_counted : Ty → Bool
is_counted (pointer (qual (function f) c v)) = is_variadic f
is_counted _ = false

-- whether an argument before these stays in registers
abbrev pub stays : Bool → Nodes → Bool
stays fast none = fast
stays fast (some e es) = false

-- from 1 to 4
abbrev pub clamped : ℕ → ℕ
clamped n = max 1 (min n 4)

-- the bytes of an argument: those of a structure or union, or of a number
abbrev pub passed_size : Framed → Typed → ℕ
passed_size f (node t (pack e)) = clamped (type_bytes f (type_in t))
passed_size f (node t e) = size_of (kind_of (type_in t))

-- one argument more of so many bytes, before those that were passed
abbrev pub joined : Bool → ℕ → Passed → Passed
joined true bytes p = record { stacked = p.stacked; last = bytes }
joined false bytes p = record { stacked = (bytes + p.stacked) % 256; last = p.last }

abbrev pub nothing_passed : Passed
nothing_passed = record { stacked = 0; last = 0 }

-- what was passed: the bytes on the software stack, and those that stay in registers
abbrev pub passed_of : Framed → Bool → Nodes → Passed
passed_of f fast none = nothing_passed
passed_of f fast (some e es) = joined (stays fast es) (passed_size f e) (passed_of f fast es)

abbrev pub argument_code : Bool → ℕ → List Line
argument_code kept bytes = if kept then [] else pass_bytes bytes

abbrev pub argument_bytes : Bool → ℕ → ℕ
argument_bytes kept bytes = if kept then 0 else bytes

-- what a call reads
abbrev pub reads_of : Bool → Passed → RegSet
reads_of counted p = if counted then only_y else registers p.last
