-- The bodies of all functions of a program, in each of their calls (C90 6.3.2.2, 6.7.1).
use Rattle.std.specs.Prelude.{◌≡◌, ℕ, ◌+◌, ◌<◌, ◌≤◌, Some, List, slice_get}
use Rattle.c65_csem.specs.Trees.{Stmt, FuncTy}
use Rattle.c65_meaning.specs.Store.{Value, Shape}
use Rattle.c65_meaning.specs.Items.{Item}
use Rattle.c65_meaning.specs.State.{Scene}
use Rattle.c65_code.specs.LineState.{State}
use Rattle.c65_code.specs.Placement.{stack_end}
use Rattle.c65_genstmt.specs.Stmts.{ways}
use Rattle.c65_agree_store.specs.Stands.{Placing, Banks}
use Rattle.c65_agree_state.specs.World.{World, unit_in, Active, IsCallOf}
use Rattle.c65_agree_state.specs.Joins.{call_bytes}
use Rattle.c65_agree_leave.specs.Laws.{params_in}
use Rattle.c65_agree_call.specs.Calls.{BodyDoes}
use Rattle.c65_agree_homes.specs.Turns.{first_label}
use Rattle.c65_agree_homes.specs.Work.{HasWork}
use Rattle.c65_agree_function.specs.Functions.{calling_of}

-- the run, of which so many steps are spoken
abbrev pub for_steps : ℕ → World → World
for_steps n g = record g { most = n }

-- of each function, by its number: how many values may wait in it, how many bytes it may push beside them, and what it gives
pub record Allotted : Type 0 where
  pub needs : ℕ → ℕ
  pub spare : ℕ → ℕ
  pub result : ℕ → Shape

-- a call of this function with a body, which is on the software stack with all that it has there
pub record IsCallWith (g : World) (z : Allotted) (a : Active) (f : FuncTy) (body : Stmt) : Type 0 where
  pub call : IsCallOf g a
  pub function : slice_get (unit_in g).funcs a.func ≡ Some f
  pub has_body : f.body ≡ Some body
  pub high : a.base + call_bytes a ≤ stack_end
  pub spare : a.spare ≡ z.spare a.func

-- each body does its work in each of its calls, for less than n steps
abbrev pub AllBodiesDo : World → Allotted → ℕ → Type 0
AllBodiesDo g z n = (a : Active) (f : FuncTy) (body : Stmt) (below : List Item) (vs : List Value) (j v : ℕ)
    → IsCallWith g z a f body → j < n → 2600 ≤ v → BodyDoes g a (z.needs a.func) body (z.result a.func) below vs j v

-- the expressions and initial values of each body do theirs
abbrev pub AllHaveWork : World → Allotted → Type 0
AllHaveWork g z = (a : Active) (f : FuncTy) (body : Stmt) (below : List Item) (vs : List Value) (n v : ℕ) (c : Scene) (q : Placing) (b : Banks) (t : State)
    → IsCallWith g z a f body → 2600 ≤ v
    → HasWork (calling_of g a (z.needs a.func) body (z.result a.func) below vs n v c q b t) (params_in g a) 0 body (ways 0 0 0) 0 (first_label body)
