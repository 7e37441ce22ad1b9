-- The lines that call functions, and those of a typed call (docs/MACHINE.md, "Calls").
use Rattle.std.specs.Prelude.{ℕ, if◌then◌else◌, Bool, true, false, Option, Some, None, List, [], ◌∷◌, length, take, slice_get}
use Rattle.c65_ctype.specs.Trees.{type_in}
use Rattle.c65_base.specs.declared.library.Library.{Library}
use Rattle.c65_csem.specs.Trees.{Stmt}
use Rattle.c65_code.specs.declared.parts.RegSet.{RegSet}
use Rattle.c65_code.specs.declared.line.Callee.{Callee}
use Rattle.c65_code.specs.declared.line.Callee.TheVariants as callees
use Rattle.c65_code.specs.declared.line.Line.{Line}
use Rattle.c65_code.specs.declared.line.Line.TheVariants.{Call}
use Rattle.c65_code.specs.declared.routine.Routine.{Routine}
use Rattle.c65_code.specs.declared.routine.Routine.TheVariants as routines
use Rattle.c65_genframe.specs.Symbols.{numbers_of, function_symbol}
use Rattle.c65_genframe.specs.Frames.{Framed}
use Rattle.c65_genframe.specs.Registers.{registers}
use Rattle.c65_genexpr.specs.Types.{outcome_of, given_bytes, bare}
use Rattle.c65_genexpr.specs.Arguments.{is_fast, is_counted, passed_of, reads_of}
use Rattle.c65_genexpr.specs.Calls.{named, library_at}
use Rattle.c65_gen_law_calls.specs.Sites.{Site, statement_sites}

abbrev pub is_library : Routine → Bool
is_library (routines.Library f) = true
is_library _ = false

abbrev pub calls_one : Callee → Bool
calls_one (callees.Routine r) = is_library r
calls_one _ = true

-- a line that calls a function, of the library or not
abbrev pub is_calling : Line → Bool
is_calling (Call callee) = calls_one callee
is_calling _ = false

abbrev pub callings : List Line → List Line
callings [] = []
callings (line ∷ lines) = if is_calling line then line ∷ callings lines else callings lines

-- the line by which a typed call calls
abbrev pub reads_by : Framed → Site → RegSet
reads_by f s = reads_of (is_counted (bare s.callee)) (passed_of f (is_fast (bare s.callee)) s.args)

abbrev pub gives_by : Framed → Site → RegSet
gives_by f s = registers (given_bytes (outcome_of f (type_in s.type)))

abbrev pub named_line : Framed → ℕ → Option Library → Site → Line
named_line f i (Some l) s = Call (callees.Routine (routines.Library l))
named_line f i None s = Call (callees.Function (function_symbol (numbers_of f.parts) i) (reads_by f s) (gives_by f s))

abbrev pub line_by : Framed → Option ℕ → Site → Line
line_by f (Some i) s = named_line f i (library_at f i) s
line_by f None s = Call (callees.Pointer (reads_by f s) (gives_by f s))

abbrev pub line_of : Framed → Site → Line
line_of f s = line_by f (named s.callee) s

abbrev pub lines_of : Framed → List Site → List Line
lines_of f [] = []
lines_of f (s ∷ ss) = line_of f s ∷ lines_of f ss

-- the call of the line with a number: as many lines call before it as calls stand before it in the body
abbrev pub site_at : Stmt → List Line → ℕ → Option Site
site_at body lines j = slice_get (statement_sites body) (length (callings (take j lines)))
