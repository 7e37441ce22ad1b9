-- Statements, functions and programs whose expressions are folded.
use Rattle.std.specs.Prelude.{Option, Some, None, map}
use Rattle.c65_csem.specs.Trees.{Stmt, empty, eval, set_part, clear, block, if_stmt, while, do_while, for_loop, switch, case, default, label, goto, break, continue, return, Stmts, no_stmts, and_stmts, MaybeTyped, absent, present, FuncTy, UnitTy}
use Rattle.c65_fold.specs.Folded.{folded}
use Rattle.c65_meaning.specs.Program.{ProgramTy}

abbrev pub folded_if : MaybeTyped → MaybeTyped
folded_if absent = absent
folded_if (present e) = present (folded e)

abbrev mutual
  pub folded_stmt : Stmt → Stmt
  folded_stmt empty = empty
  folded_stmt (eval e) = eval (folded e)
  folded_stmt (set_part i o e) = set_part i o (folded e)
  folded_stmt (clear i) = clear i
  folded_stmt (block objects ss) = block objects (folded_stmts ss)
  folded_stmt (if_stmt e a b) = if_stmt (folded e) (folded_stmt a) (folded_stmt b)
  folded_stmt (while e s) = while (folded e) (folded_stmt s)
  folded_stmt (do_while s e) = do_while (folded_stmt s) (folded e)
  folded_stmt (for_loop i c x s) = for_loop (folded_if i) (folded_if c) (folded_if x) (folded_stmt s)
  folded_stmt (switch e s) = switch (folded e) (folded_stmt s)
  folded_stmt (case v s) = case v (folded_stmt s)
  folded_stmt (default s) = default (folded_stmt s)
  folded_stmt (label l s) = label l (folded_stmt s)
  folded_stmt (goto l) = goto l
  folded_stmt break = break
  folded_stmt continue = continue
  folded_stmt (return o) = return (folded_if o)

  pub folded_stmts : Stmts → Stmts
  folded_stmts no_stmts = no_stmts
  folded_stmts (and_stmts s rest) = and_stmts (folded_stmt s) (folded_stmts rest)

abbrev pub folded_body : Option Stmt → Option Stmt
folded_body None = None
folded_body (Some body) = Some (folded_stmt body)

abbrev pub folded_func : FuncTy → FuncTy
folded_func f = record f { body = folded_body f.body }

abbrev pub folded_unit : UnitTy → UnitTy
folded_unit u = record u { funcs = map folded_func u.funcs }

abbrev pub folded_program : ProgramTy → ProgramTy
folded_program p = record p { unit = folded_unit p.unit }
