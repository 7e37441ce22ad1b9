-- What is law for the lines of expressions and functions (C90 6.3, 6.6, 6.7.1).
use Rattle.std.specs.Prelude.{◌≡◌, ℕ, ◌+◌, ◌*◌, ◌%◌, ◌^◌, ◌≤◌, Bool, Option, Some, IsTrue, List, ◌++◌, length, Ok}
use Rattle.std.specs.List.{list_all}
use Rattle.c65_csem.specs.Trees.{Typed, Nodes, Stmt, UnitTy, FuncTy}
use Rattle.c65_csem.specs.Units.{IsBody}
use Rattle.c65_code.specs.declared.parts.RegSet.{RegSet}
use Rattle.c65_code.specs.Segments.{Drafted, is_fit, IsSegment}
use Rattle.c65_code.specs.Weights.{lines_size, extent_of}
use Rattle.c65_code.specs.declared.code.Code.{Code}
use Rattle.c65_code.specs.Processors.{IsNmos}
use Rattle.c65_csem.specs.declared.items.Parts.{Parts}
use Rattle.c65_csem.specs.Statements.{IsDistinct}
use Rattle.c65_genframe.specs.declared.modes.Modes.{Modes}
use Rattle.c65_genframe.specs.Marks.{all_marks}
use Rattle.c65_genframe.specs.Objects.{locals_of}
use Rattle.c65_genframe.specs.Frames.{Framed, has_prototype, frame_of}
use Rattle.c65_genexpr.specs.Arguments.{passed_of}
use Rattle.c65_genexpr.specs.declared.wanted.Wanted.{Wanted}
use Rattle.c65_genexpr.specs.Wanted.{sense_of}
use Rattle.c65_genexpr.specs.Uses.{uses}
use Rattle.c65_genexpr.specs.Code.{expr_code}
use Rattle.c65_genstmt.specs.declared.jumps.Ways.{Ways}
use Rattle.c65_genstmt.specs.Stmts.{with_stmt}
use Rattle.c65_genstmt.specs.Programs.{program_of}
use Rattle.c65_genstmt.specs.Functions.{no_lines, with_function}
use Rattle.c65_gen_law_lines.specs.Labels.{among, aims, OwnsLabels}
use Rattle.c65_gen_law_lines.specs.Homes.{in_bank, in_blocks, in_params}
use Rattle.c65_gen_law_lines.specs.Bulk.{nodes, statement_nodes, functions_nodes}
use Rattle.c65_gen_law_lines.specs.Stack.{Waiting, waiting_by, waits, bytes_in, passed, calls_of, statement_calls}

-- the labels from the first free one on, as many as a value or a test of the expression uses; a test leads to its own label too
abbrev pub ExpressionsOwnTheirLabels : Type 0
ExpressionsOwnTheirLabels = (f : Framed) (pushed fresh : ℕ) (w : Wanted) (e : Typed) → OwnsLabels fresh (uses (sense_of w) e) (aims w) (expr_code f pushed fresh w e)

-- at most 128 bytes for each node
abbrev pub ExpressionsAreSmall : Type 0
ExpressionsAreSmall = (f : Framed) (pushed fresh : ℕ) (w : Wanted) (e : Typed) → lines_size (expr_code f pushed fresh w e) ≤ 128 * nodes e

-- each line may stand in a segment
abbrev pub ExpressionsAreFit : Type 0
ExpressionsAreFit = (f : Framed) (pushed fresh : ℕ) (w : Wanted) (e : Typed) → IsTrue (list_all is_fit (expr_code f pushed fresh w e))

-- the lines of a well typed body are a segment, where so many labels can be given
abbrev pub FunctionsAreSegments : Type 0
FunctionsAreSegments = (u : UnitTy) (g : FuncTy) (body : Stmt) (f : Framed) (is_main : Bool) (out : RegSet)
    → IsBody u g body → (with_function f is_main (Some body) (no_lines out)).labels ≤ 2 ^ 32
    → IsSegment (with_function f is_main (Some body) (no_lines out)).lines

-- an expression's lines leave what waits as it was: each takes away no other value than the one that was pushed last, a call takes away its arguments,
-- and none moves sp otherwise or saves or restores regbank
abbrev pub ExpressionsKeepTheStack : Type 0
ExpressionsKeepTheStack = (f : Framed) (pushed fresh : ℕ) (w : Wanted) (e : Typed) (values : List ℕ) (calls : List (List ℕ))
    → waits (Some (waiting_by values (calls_of f e ++ calls))) (expr_code f pushed fresh w e) ≡ Some (waiting_by values calls)

-- and so do the lines of a statement, behind those of any draft
abbrev pub StatementsKeepTheStack : Type 0
StatementsKeepTheStack = (f : Framed) (w : Ways) (l : ℕ) (s : Stmt) (d : Drafted) (start : Option Waiting) (values : List ℕ) (calls : List (List ℕ))
    → waits start d.lines ≡ Some (waiting_by values (statement_calls f s ++ calls)) → waits start (with_stmt f w l s d).lines ≡ Some (waiting_by values calls)

-- the bytes that a call passes on the software stack are those that it counts
abbrev pub CallsAreCounted : Type 0
CallsAreCounted = (f : Framed) (fast : Bool) (es : Nodes) → (passed_of f fast es).stacked ≡ bytes_in (passed f fast es) % 256

-- a frame keeps its limit: at most 1,024 bytes, and one for the number of bytes of a variadic call
abbrev pub FramesAreSmall : Type 0
FramesAreSmall = (parts : Parts) (modes : Modes) (g : FuncTy) (f : Framed) → frame_of parts modes g ≡ Ok f → (f.soft ≤ 1025) × (f.stacked ≤ 1024) × (length f.moved ≤ length g.params)

-- a function has at most 128 bytes for itself, each parameter and each node of its body
abbrev pub FunctionsAreSmall : Type 0
FunctionsAreSmall = (parts : Parts) (modes : Modes) (g : FuncTy) (body : Stmt) (f : Framed) (is_main : Bool) (out : RegSet)
    → frame_of parts modes g ≡ Ok f
    → lines_size (with_function f is_main (Some body) (no_lines out)).lines ≤ 128 * (1 + (length g.params + statement_nodes body))

-- each byte of regbank that a function takes is part of exactly one home and no other byte of any; and no byte above sp is part of two homes
abbrev pub HomesAreApart : Type 0
HomesAreApart = (parts : Parts) (modes : Modes) (g : FuncTy) (f : Framed) → frame_of parts modes g ≡ Ok f → IsDistinct g.params → (x : ℕ)
    → (in_bank parts x f.low f.homes ≡ among 0 f.bank x)
    × (in_blocks parts x f.low (all_marks (locals_of g) g.params) f.homes + in_params parts (has_prototype g.ty) x f.low f.homes g.params ≤ 1)

-- the extent of a program's code: at most 128 bytes for each function that has a body, each of its parameters and each node of the body
abbrev pub ProgramsAreSmall : Type 0
ProgramsAreSmall = (parts : Parts) (main : ℕ) (names : List (List ℕ)) (modes : Modes) (code : Code)
    → program_of parts main names modes ≡ Ok code → extent_of code ≤ 128 * functions_nodes parts.funcs.items

-- no line of a program has a row that the 65C02 adds
abbrev pub ProgramsAreNmos : Type 0
ProgramsAreNmos = (parts : Parts) (main : ℕ) (names : List (List ℕ)) (modes : Modes) (code : Code) → program_of parts main names modes ≡ Ok code → IsNmos code
