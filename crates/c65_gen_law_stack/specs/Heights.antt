-- What waits on the software stack at each line of a function (docs/MACHINE.md, "Calls").
use Rattle.std.specs.Prelude.{◌≡◌, ℕ, ◌^◌, ◌≤◌, Bool, Option, Some, None, IsSome, List, [], ◌∷◌, ◌++◌, take, slice_get}
use Rattle.c65_csem.specs.Trees.{Typed, Stmt, UnitTy, FuncTy}
use Rattle.c65_csem.specs.Units.{IsBody}
use Rattle.c65_code.specs.declared.line.Line.{Line}
use Rattle.c65_code.specs.declared.line.Line.TheVariants.{Label}
use Rattle.c65_code.specs.declared.parts.RegSet.{RegSet}
use Rattle.c65_code.specs.Segments.{target_of}
use Rattle.c65_genframe.specs.Frames.{Framed}
use Rattle.c65_genexpr.specs.declared.wanted.Wanted.TheVariants.{Value, Test}
use Rattle.c65_genexpr.specs.Uses.{uses}
use Rattle.c65_genexpr.specs.Code.{expr_code}
use Rattle.c65_genentry.specs.Entry.{entry_code}
use Rattle.c65_genentry.specs.Ends.{end_code}
use Rattle.c65_genstmt.specs.Functions.{no_lines, with_function}
use Rattle.c65_gen_law_lines.specs.Labels.{among}
use Rattle.c65_gen_law_lines.specs.Stack.{Waiting, waiting_by, waits, calls_of, statement_calls}

abbrev pub values_in : Option Waiting → Option (List ℕ)
values_in None = None
values_in (Some w) = Some w.values

-- the bytes of each value that waits before the line with this number, the last one first
abbrev pub height_at : Option Waiting → List Line → ℕ → Option (List ℕ)
height_at w lines i = values_in (waits w (take i lines))

-- The lines take away nothing but what waits. Each branch and jump leads to a label among them, and whichever line leads to a label, the
-- same values wait at both.
pub record AreLevel (w : Option Waiting) (lines : List Line) : Type 0 where
  pub known : (i : ℕ) → IsSome (height_at w lines i)
  pub found : (j l : ℕ) (line : Line) → slice_get lines j ≡ Some line → target_of line ≡ l ∷ [] → (i : ℕ) × (slice_get lines i ≡ Some (Label l))
  pub level : (i j l : ℕ) (line : Line) → slice_get lines i ≡ Some (Label l) → slice_get lines j ≡ Some line → target_of line ≡ l ∷ [] → height_at w lines i ≡ height_at w lines j

-- those of an expression, whatever waits
abbrev pub ExpressionsAreLevel : Type 0
ExpressionsAreLevel = (f : Framed) (pushed fresh : ℕ) (e : Typed) (values : List ℕ) (calls : List (List ℕ)) → AreLevel (Some (waiting_by values (calls_of f e ++ calls))) (expr_code f pushed fresh Value e)

-- and those of a test, whatever waits, with the label to which it leads behind them: as much waits wherever it leads there
abbrev pub TestsAreLevel : Type 0
TestsAreLevel = (f : Framed) (pushed fresh to : ℕ) (sense : Bool) (e : Typed) (values : List ℕ) (calls : List (List ℕ)) → among fresh (uses (Some sense) e) to ≡ 0
    → AreLevel (Some (waiting_by values (calls_of f e ++ calls))) (expr_code f pushed fresh (Test to sense) e ++ Label to ∷ [])

-- and those of a function between its entry and its end, where nothing waits at first and at last
abbrev pub FunctionsAreLevel : Type 0
FunctionsAreLevel = (u : UnitTy) (g : FuncTy) (body : Stmt) (f : Framed) (is_main : Bool) (out : RegSet)
    → IsBody u g body → (with_function f is_main (Some body) (no_lines out)).labels ≤ 2 ^ 32
    → (middle : List Line) × ((with_function f is_main (Some body) (no_lines out)).lines ≡ entry_code f ++ (middle ++ end_code f))
    × (waits (Some (waiting_by [] (statement_calls f body))) middle ≡ Some (waiting_by [] []))
    × AreLevel (Some (waiting_by [] (statement_calls f body))) middle
