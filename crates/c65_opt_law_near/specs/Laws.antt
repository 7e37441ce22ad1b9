-- Lines lead from states that are near one another to such states again.
use Rattle.std.specs.Prelude.{◌≡◌, ℕ, ◌<◌, IsTrue, Some}
use Rattle.c65_code.specs.declared.line.Line.{Line}
use Rattle.c65_code.specs.declared.parts.RegSet.{RegSet}
use Rattle.c65_code.specs.Forms.{Form, Plain, Branch, Jump, Push, Pull, Depth, form_of}
use Rattle.c65_code.specs.LineState.{State, s_of, IsBytes}
use Rattle.c65_code.specs.Moves.{Does}
use Rattle.c65_code.specs.Placement.{Placement, Setting, stack_start}
use Rattle.c65_code.specs.Segments.{is_fit}
use Rattle.c65_code.specs.Steady.{IsCalm, IsSteady}
use Rattle.c65_opt_law_near.specs.Near.{before, Near}

-- data and its constant bytes lie below the software stack
pub record IsLow (place : Placement) : Type 0 where
  pub data_below : (b : ℕ) → IsTrue (place.is_data b) → b < stack_start
  pub constant_below : (b v : ℕ) → place.constant b ≡ Some v → b < stack_start

-- lines that stay in the function and are no calls
abbrev pub IsOperation : Form → Type 0
IsOperation (Plain op mode operand) = Unit {0}
IsOperation (Branch op label) = Unit {0}
IsOperation (Jump label) = Unit {0}
IsOperation Push = Unit {0}
IsOperation Pull = Unit {0}
IsOperation Depth = Unit {0}
IsOperation _ = ⊥

-- a state to which the line leads, near another one
pub record IsAnswered (place : Placement) (line : Line) (after : RegSet) (t u : State) : Type 0 where
  pub state : State
  pub does : Does place (form_of line) t state
  pub near : Near after state u

-- From a state in which the line is steady, and a state near it, to which as many bytes of page 1 are left: where the line leads
-- from the second one, it leads from the first to a state near that.
abbrev pub StaysNear : Setting → RegSet → Line → Type 0
StaysNear s out line = (after : RegSet) (t u v : State) → IsSteady s line t → s_of t ≡ s_of u → Near (before out line after) t u → Does s.place (form_of line) u v
    → IsAnswered s.place line after t v

-- and the line is steady in the second one
abbrev pub StaysSteady : Setting → RegSet → Line → Type 0
StaysSteady s out line = (after : RegSet) (t u : State) → IsSteady s line t → IsBytes u → s_of t ≡ s_of u → Near (before out line after) t u → IsSteady s line u

abbrev pub OperationsStayNear : Type 0
OperationsStayNear = (s : Setting) (out : RegSet) (line : Line) → IsLow s.place → IsTrue (is_fit line) → IsOperation (form_of line) → StaysNear s out line

abbrev pub OperationsStaySteady : Type 0
OperationsStaySteady = (s : Setting) (out : RegSet) (line : Line) → IsLow s.place → IsTrue (is_fit line) → IsOperation (form_of line) → StaysSteady s out line

-- what holds at every moment of a steady run holds in a near state too
abbrev pub CalmStays : Type 0
CalmStays = (s : Setting) (live : RegSet) (t u : State) → IsLow s.place → IsCalm s t → IsBytes u → s_of t ≡ s_of u → Near live t u → IsCalm s u
