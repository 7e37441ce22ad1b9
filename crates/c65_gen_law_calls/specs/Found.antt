-- Each line that calls is that of a typed call (C90 6.3.2.2; docs/MACHINE.md, "Calls").
use Rattle.std.specs.Prelude.{◌≡◌, ℕ, suc, ◌+◌, ◌^◌, ◌≤◌, Bool, Some, IsTrue, List, ◌++◌, slice_get}
use Rattle.c65_csem.specs.Trees.{Typed, Stmt, UnitTy, FuncTy}
use Rattle.c65_csem.specs.Units.{IsBody}
use Rattle.c65_code.specs.declared.parts.RegSet.{RegSet}
use Rattle.c65_code.specs.declared.line.Line.{Line}
use Rattle.c65_genframe.specs.Frames.{Framed}
use Rattle.c65_genexpr.specs.declared.wanted.Wanted.{Wanted}
use Rattle.c65_genexpr.specs.Code.{expr_code}
use Rattle.c65_genentry.specs.Entry.{entry_code}
use Rattle.c65_genentry.specs.Ends.{end_code}
use Rattle.c65_genstmt.specs.Functions.{no_lines, with_function}
use Rattle.c65_gen_law_lines.specs.Stack.{bytes_in}
use Rattle.c65_gen_law_stack.specs.Going.{waiting_at, at_first}
use Rattle.c65_gen_law_calls.specs.Sites.{Site, IsSite, bytes_of, sites_of}
use Rattle.c65_gen_law_calls.specs.Lines.{is_calling, callings, line_of, lines_of, site_at}

-- the lines of an expression that call are those of its calls, in their order, whether its value is wanted or a test
abbrev pub ExpressionsCallInOrder : Type 0
ExpressionsCallInOrder = (f : Framed) (pushed fresh : ℕ) (w : Wanted) (e : Typed) → callings (expr_code f pushed fresh w e) ≡ lines_of f (sites_of e)

-- The line with this number is that of a well typed call of the body, and takes away the bytes of what this call passes.
pub record IsMade (u : UnitTy) (f : Framed) (body : Stmt) (middle : List Line) (j : ℕ) (line : Line) : Type 0 where
  pub site : Site
  pub found : site_at body middle j ≡ Some site
  pub typed : IsSite u site
  pub calls : line ≡ line_of f site
  pub takes : waiting_at (at_first f body) middle j ≡ waiting_at (at_first f body) middle (suc j) + bytes_in (bytes_of f site)

-- So it is with each line that calls, of a well typed function between its entry and its end.
abbrev pub LinesAreOfCalls : Type 0
LinesAreOfCalls = (u : UnitTy) (g : FuncTy) (body : Stmt) (f : Framed) (is_main : Bool) (out : RegSet) (middle : List Line)
    → IsBody u g body → (with_function f is_main (Some body) (no_lines out)).labels ≤ 2 ^ 32 → (with_function f is_main (Some body) (no_lines out)).lines ≡ entry_code f ++ (middle ++ end_code f)
    → (j : ℕ) (line : Line) → slice_get middle j ≡ Some line → IsTrue (is_calling line) → IsMade u f body middle j line
