-- Lines that do what a routine does stand for its call.
use Rattle.std.specs.Prelude.{◌≡◌, ℕ, List, [], ◌∷◌, Some}
use Rattle.c65_code.specs.declared.line.Line.{Line}
use Rattle.c65_code.specs.declared.line.Sym.{Sym}
use Rattle.c65_code.specs.declared.parts.RegSet.{RegSet}
use Rattle.c65_code.specs.declared.routine.Routine.{Routine}
use Rattle.c65_code.specs.Placement.{Setting}
use Rattle.c65_pass.specs.LibraryRules.{opened}
use Rattle.c65_pass.specs.StackRules.{call_of}
use Rattle.c65_opt_law_near.specs.Laws.{IsLow}
use Rattle.c65_opt_law_follow.specs.Windows.{WayOut, Justified}
use Rattle.c65_opt_law_whole.specs.Laws.{RuleServes}

-- Lines may stand for a call, whatever is live behind it and with nothing known before it, where data lies below the stack.
abbrev pub MayStandFor : Routine → List Line → Type 0
MayStandFor r lines = (s : Setting) → IsLow s.place → (to : WayOut → ℕ) (after : WayOut → RegSet) → Justified s to after (λ t. Unit {0}) (call_of r ∷ []) lines

-- The lines of a routine that is opened may stand for its call: each state to which they lead is one to which its row leads.
abbrev pub RoutinesStand : Type 0
RoutinesStand = (r : Routine) (lines : List Line) → opened r ≡ Some lines → MayStandFor r lines

-- Where calls of routines are opened in lines of a function, each code with the lines follows the code with the calls.
abbrev pub RoutinesServe : Type 0
RoutinesServe = (literals : List (Sym × List ℕ)) → RuleServes literals 39
