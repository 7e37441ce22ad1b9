-- What certificates read of a program: for each function what a call costs beside what it is passed, and the calls of its body.
use Rattle.std.specs.Prelude.{ℕ, ◌+◌, ◌*◌, min, List, [], ◌∷◌, Option, Some, None, slice_get}
use Rattle.c65_csem.specs.Trees.{Stmt, FuncTy, UnitTy}
use Rattle.c65_csem_need.specs.Needs.{greatest_need}
use Rattle.c65_meaning.specs.Costs.{local_bytes, bytes_of_objects}
use Rattle.c65_depth.specs.declared.calls.Call.{Call}
use Rattle.c65_depth.specs.declared.facts.Facts.{Facts}
use Rattle.c65_depth.specs.Calls.{most, calls_of}

-- the greatest need that is counted
abbrev pub most_waiting : ℕ
most_waiting = 0xffffffff

module _ (u : UnitTy) where
  abbrev pub body_cost : Stmt → ℕ
  body_cost body = min (local_bytes u body + 6 + 8 * min (greatest_need body) most_waiting) most

  abbrev pub facts_of : Option Stmt → Facts
  facts_of None = record { cost = None; calls = [] }
  facts_of (Some body) = record { cost = Some (body_cost body); calls = calls_of u body }

  abbrev pub facts_in : FuncTy → Facts
  facts_in f = facts_of f.body

  abbrev pub graph_of : List FuncTy → List Facts
  graph_of [] = []
  graph_of (f ∷ fs) = facts_in f ∷ graph_of fs

  abbrev pub graph : List Facts
  graph = graph_of u.funcs

  abbrev pub params_of : Option FuncTy → List ℕ
  params_of None = []
  params_of (Some f) = f.params

  -- what the start passes to `main`
  abbrev pub first_bytes : ℕ → ℕ
  first_bytes main = min (bytes_of_objects u (params_of (slice_get u.funcs main))) most

-- ---- what a graph says of a function

abbrev pub calls_in : Option Facts → List Call
calls_in None = []
calls_in (Some x) = x.calls

abbrev pub cost_in : Option Facts → Option ℕ
cost_in None = None
cost_in (Some x) = x.cost

abbrev pub calls_at : List Facts → ℕ → List Call
calls_at g f = calls_in (slice_get g f)

abbrev pub cost_at : List Facts → ℕ → Option ℕ
cost_at g f = cost_in (slice_get g f)
