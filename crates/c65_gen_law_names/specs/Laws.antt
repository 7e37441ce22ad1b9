-- What the code of a program names.
use Rattle.std.specs.Prelude.{◌≡◌, ℕ, Bool, IsTrue, Some, Ok, List, slice_get}
use Rattle.c65_csem.specs.declared.items.Parts.{Parts}
use Rattle.c65_csem.specs.Trees.{Typed, Stmt}
use Rattle.c65_csem.specs.Units.{IsProgram}
use Rattle.c65_csem.specs.Views.{unit_of}
use Rattle.c65_csem_names.specs.Programs.{IsScopedProgram}
use Rattle.c65_csem_plain.specs.Plain.{IsPlain}
use Rattle.c65_code.specs.declared.code.Code.{Code}
use Rattle.c65_code.specs.declared.line.Line.{Line}
use Rattle.c65_code.specs.declared.parts.RegSet.{RegSet}
use Rattle.c65_code.specs.Named.{LineNames}
use Rattle.c65_code.specs.Starts.{IsMain}
use Rattle.c65_genframe.specs.declared.modes.Modes.{Modes}
use Rattle.c65_genframe.specs.Frames.{Framed}
use Rattle.c65_genframe.specs.Symbols.{numbers_of, function_symbol}
use Rattle.c65_genexpr.specs.declared.wanted.Wanted.{Wanted}
use Rattle.c65_genexpr.specs.Code.{expr_code}
use Rattle.c65_genstmt.specs.Functions.{no_lines, with_function}
use Rattle.c65_genstmt.specs.Programs.{program_of}
use Rattle.c65_asm_law_names.specs.Numbers.{HasSegment, IsClosed}
use Rattle.c65_gen_law_names.specs.Trees.{KnownTree, KnownStmt}

-- the lines of an expression name no symbols but those of its items: what is so of these is so of each that a line names
abbrev pub ExpressionsNameTheirItems : Type 0
ExpressionsNameTheirItems = (known : ℕ → Bool) (f : Framed) (pushed fresh : ℕ) (w : Wanted) (e : Typed) (i symbol : ℕ) (line : Line)
    → KnownTree (λ s. IsTrue (known s)) f e → slice_get (expr_code f pushed fresh w e) i ≡ Some line → LineNames line symbol → IsTrue (known symbol)

-- and so it is with the lines of a function, from its entry to its end
abbrev pub FunctionsNameTheirItems : Type 0
FunctionsNameTheirItems = (known : ℕ → Bool) (f : Framed) (is_main : Bool) (body : Stmt) (out : RegSet) (i symbol : ℕ) (line : Line)
    → KnownStmt (λ s. IsTrue (known s)) f body → slice_get (with_function f is_main (Some body) (no_lines out)).lines i ≡ Some line → LineNames line symbol → IsTrue (known symbol)

-- each symbol that the lines or the data of a program name has lines, data, or a function of the library for its name
abbrev pub ProgramsAreClosed : Type 0
ProgramsAreClosed = (parts : Parts) (main : ℕ) (names : List (List ℕ)) (modes : Modes) (code : Code)
    → IsProgram (unit_of parts) main → IsScopedProgram (unit_of parts) main → IsPlain names (unit_of parts) main
    → program_of parts main names modes ≡ Ok code → IsClosed code

-- its main function has lines, and the symbol `_main`
abbrev pub MainHasLines : Type 0
MainHasLines = (parts : Parts) (main : ℕ) (names : List (List ℕ)) (modes : Modes) (code : Code)
    → IsProgram (unit_of parts) main → IsPlain names (unit_of parts) main → program_of parts main names modes ≡ Ok code
    → IsMain code (function_symbol (numbers_of parts) main).0 × HasSegment code (function_symbol (numbers_of parts) main).0
