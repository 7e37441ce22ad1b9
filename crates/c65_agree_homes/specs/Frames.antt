-- A call of a function of a program, in the frame that the generator gives it.
use Rattle.std.specs.Prelude.{◌≡◌, ℕ, ◌+◌, ◌^◌, ◌≤◌, ◌==◌, Some, Ok, List, slice_get}
use Rattle.c65_csem.specs.Trees.{Stmt, FuncTy}
use Rattle.c65_csem.specs.Units.{IsProgram}
use Rattle.c65_csem_plain.specs.Plain.{IsPlain}
use Rattle.c65_code.specs.Placement.{IsPlacement, stack_start, stack_end}
use Rattle.c65_genstmt.specs.Functions.{gives_of, no_lines, with_function}
use Rattle.c65_genstmt.specs.Programs.{program_of}
use Rattle.c65_agree_state.specs.World.{World, unit_in, Active, IsCallOf}
use Rattle.c65_agree_state.specs.Joins.{call_bytes}
use Rattle.c65_agree_stmts.specs.Calling.{Calling}

-- the code is that of a plain program, and the call is of this function of it, with its own frame
pub record IsCallIn (g : World) (names : List (List ℕ)) (a : Active) (f : FuncTy) : Type 0 where
  pub code : program_of g.parts g.main names g.modes ≡ Ok g.code
  pub program : IsProgram (unit_in g) g.main
  pub plain : IsPlain names (unit_in g) g.main
  pub call : IsCallOf g a
  pub function : slice_get (unit_in g).funcs a.func ≡ Some f

-- there are numbers for all of its labels
abbrev pub HasFewLabels : World → Active → FuncTy → Stmt → Type 0
HasFewLabels g a f body = (with_function a.frame (a.func == g.main) (Some body) (no_lines (gives_of g.parts f))).labels ≤ 2 ^ 32

-- the code is placed, and the call of the function is on the software stack with all that it has there
pub record IsCalling (x : Calling) (names : List (List ℕ)) (f : FuncTy) : Type 0 where
  pub call : IsCallIn x.world names x.active f
  pub body : f.body ≡ Some x.body
  pub params : x.params ≡ f.params
  pub placed : IsPlacement x.world.code x.world.place
  pub low : stack_start ≤ x.active.base
  pub high : x.active.base + call_bytes x.active ≤ stack_end
