-- The call behind its arguments (C90 6.3.2.2; docs/MACHINE.md, "Calls").
use Rattle.std.specs.Prelude.{ℕ, ◌+◌, Bool, if◌then◌else◌, Option, Some, None, slice_get, List, [], ◌∷◌, ◌++◌}
use Rattle.c65_base.specs.declared.library.Library.{Library}
use Rattle.c65_csem.specs.declared.items.TFunc.{TFunc}
use Rattle.c65_csem.specs.Trees.{Typed, node, decay, func}
use Rattle.c65_mach.specs.declared.rows.Op.TheVariants.{Iny, Lda, Ldy, Sta, Stx}
use Rattle.c65_code.specs.declared.line.Callee.TheVariants.{Function, Pointer}
use Rattle.c65_code.specs.declared.line.Line.{Line}
use Rattle.c65_code.specs.declared.line.Line.TheVariants.{Call}
use Rattle.c65_code.specs.declared.routine.Count.TheVariants.{Two}
use Rattle.c65_code.specs.declared.routine.Routine.TheVariants as routines
use Rattle.c65_genframe.specs.Frames.{Framed}
use Rattle.c65_genframe.specs.Registers.{registers}
use Rattle.c65_genframe.specs.Symbols.{numbers_of, function_symbol}
use Rattle.c65_genwide.specs.Lines.{value, call}
use Rattle.c65_genwide.specs.Wide.{narrow_code}
use Rattle.c65_genload.specs.Words.{sp, tmp1, implied, zero_page, by_y}
use Rattle.c65_genexpr.specs.declared.arguments.Passed.{Passed}
use Rattle.c65_genexpr.specs.declared.types.Outcome.{Outcome}
use Rattle.c65_genexpr.specs.declared.types.Outcome.TheVariants.{Number}
use Rattle.c65_genexpr.specs.Types.{given_bytes}
use Rattle.c65_genexpr.specs.Arguments.{reads_of}

abbrev pub ptr4 : ℕ
ptr4 = 14

abbrev pub named_in : Typed → Option ℕ
named_in (node t (func i)) = Some i
named_in (node t _) = None

-- the number of a function that is called by its name
abbrev pub named : Typed → Option ℕ
named (node t (decay e)) = named_in e
named (node t _) = None

abbrev pub library_in : Option TFunc → Option Library
library_in None = None
library_in (Some f) = f.library

abbrev pub library_at : Framed → ℕ → Option Library
library_at f i = library_in (slice_get f.parts.funcs.items i)

-- the number of bytes that were passed
abbrev pub count_code : Bool → Passed → List Line
count_code counted p = if counted then value Ldy p.stacked ∷ [] else []

-- the function's address, which waits below the arguments
abbrev pub fetch_code : Passed → List Line
fetch_code p = zero_page Sta tmp1 ∷ value Ldy p.stacked ∷ by_y Lda sp ∷ zero_page Sta ptr4 ∷ implied Iny ∷ by_y Lda sp ∷ zero_page Sta (ptr4 + 1) ∷ zero_page Lda tmp1 ∷ []

-- a character comes back in A alone
abbrev pub result_code : Outcome → List Line
result_code (Number kind) = narrow_code kind
result_code _ = []

-- a function of the library is its routine
abbrev pub named_by : Framed → ℕ → Option Library → Bool → Passed → Outcome → List Line
named_by f i (Some l) counted p given = count_code counted p ++ (call (routines.Library l) ∷ result_code given)
named_by f i None counted p given = count_code counted p ++ (Call (Function (function_symbol (numbers_of f.parts) i) (reads_of counted p) (registers (given_bytes given))) ∷ result_code given)

abbrev pub named_code : Framed → ℕ → Bool → Passed → Outcome → List Line
named_code f i counted p given = named_by f i (library_at f i) counted p given

abbrev pub pointer_code : Bool → Passed → Outcome → List Line
pointer_code counted p given = fetch_code p ++ (count_code counted p ++ (Call (Pointer (reads_of counted p) (registers (given_bytes given))) ∷ call (routines.IncSp Two) ∷ result_code given))

-- AX goes to ptr4
abbrev pub ptr4_code : List Line
ptr4_code = zero_page Sta ptr4 ∷ zero_page Stx (ptr4 + 1) ∷ []

-- through the pointer in AX: where there are no arguments, it need not wait
abbrev pub direct_code : Bool → Passed → Outcome → List Line
direct_code counted p given = ptr4_code ++ (count_code counted p ++ (Call (Pointer (reads_of counted p) (registers (given_bytes given))) ∷ result_code given))
