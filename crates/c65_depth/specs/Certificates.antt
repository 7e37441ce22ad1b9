-- Stack certificates, in the terms of the meaning: which functions can be called from `main`, what their calls cost, and which numbers
-- cover them.
use Rattle.std.specs.Prelude.{◌≡◌, ℕ, ◌+◌, ◌≤◌, List, Option, Some, None, slice_get, Contains}
use Rattle.c65_csem.specs.Trees.{Stmt}
use Rattle.c65_meaning.specs.Program.{ProgramTy}
use Rattle.c65_meaning.specs.Costs.{soft_cost, bytes_of_objects}
use Rattle.c65_meaning.specs.Step.{body_of, params_of}
use Rattle.c65_depth.specs.declared.calls.Call.{Call}
use Rattle.c65_depth.specs.declared.numbers.Numbers.{Numbers}
use Rattle.c65_depth.specs.declared.program.CertRow.{CertRow}
use Rattle.c65_depth.specs.Calls.{calls_of}
use Rattle.c65_depth.specs.Checks.{given_by, soft_limit, hard_limit}

module _ (p : ProgramTy) where
  -- the body of a function, by its number
  abbrev pub body_at : ℕ → Option Stmt
  body_at f = body_of (slice_get p.unit.funcs f)

  -- a call in the body of a function
  pub record HasCall (f : ℕ) (c : Call) : Type 0 where
    pub body : Stmt
    pub is_body : body_at f ≡ Some body
    pub among : Contains (calls_of p.unit body) c

  -- the body of a function names another one as the callee of a call
  pub record Names (f h : ℕ) : Type 0 where
    pub call : Call
    pub has : HasCall f call
    pub named : call.callee ≡ Some h

  pub record CallsPointer (f : ℕ) : Type 0 where
    pub call : Call
    pub has : HasCall f call
    pub unnamed : call.callee ≡ None

  -- `main`, and each function that such a function names
  pub data IsReachable : ℕ → Type 0 where
    first : IsReachable p.main
    next : {f h : ℕ} → IsReachable f → Names f h → IsReachable h

  -- one call or more, in a row, lead from a function to another
  pub data Leads : ℕ → ℕ → Type 0 where
    by_call : {f h : ℕ} → Names f h → Leads f h
    by_calls : {f h i : ℕ} → Names f h → Leads h i → Leads f i

  -- a function that lies on a call cycle or calls through a pointer
  pub data IsUnbounded (f : ℕ) : Type 0 where
    on_cycle : Leads f f → IsUnbounded f
    by_pointer : CallsPointer f → IsUnbounded f

  -- the bytes that a function may be passed: by the start, and by a call in a function that can be called from `main`
  pub data IsPassed : ℕ → ℕ → Type 0 where
    at_start : IsPassed p.main (bytes_of_objects p.unit (params_of (slice_get p.unit.funcs p.main)))
    by_one : {f h : ℕ} {c : Call} → IsReachable f → HasCall f c → c.callee ≡ Some h → IsPassed h c.bytes

  -- ---- numbers

  module _ (numbers : ℕ → Option Numbers) where
    -- a function without a body counts nothing
    abbrev pub numbers_by : ℕ → Option Stmt → Option Numbers
    numbers_by f None = Some (record { soft = 0; hard = 0 })
    numbers_by f (Some body) = numbers f

    -- those of a function that is called
    pub record CoversCallee (cost : ℕ) (n : Numbers) (h : ℕ) : Type 0 where
      pub callee : Numbers
      pub is_callee : numbers_by h (body_at h) ≡ Some callee
      pub soft : cost + callee.soft ≤ n.soft
      pub hard : 2 + callee.hard ≤ n.hard

    -- the numbers of a function with a body: at least its own cost and the greatest numbers of the functions that it calls
    pub record Covers (f : ℕ) (body : Stmt) : Type 0 where
      pub own : Numbers
      pub is_own : numbers f ≡ Some own
      pub no_pointer : CallsPointer f → ⊥
      pub soft : (passed : ℕ) → IsPassed f passed → soft_cost p.unit passed body ≤ own.soft
      pub hard : 2 ≤ own.hard
      pub callees : (passed h : ℕ) → IsPassed f passed → Names f h → CoversCallee (soft_cost p.unit passed body) own h

    -- each function that can be called from `main` has such numbers
    abbrev pub AreCovered : Type 0
    AreCovered = (f : ℕ) (body : Stmt) → IsReachable f → body_at f ≡ Some body → Covers f body

    pub record Fits (args : ℕ) : Type 0 where
      pub covered : AreCovered
      pub own : Numbers
      pub is_own : numbers p.main ≡ Some own
      pub soft : own.soft + args ≤ soft_limit
      pub hard : own.hard ≤ hard_limit

  -- the numbers of a function are those of its first row
  abbrev pub IsFitting : List CertRow → ℕ → Type 0
  IsFitting rows args = Fits (given_by rows) args
