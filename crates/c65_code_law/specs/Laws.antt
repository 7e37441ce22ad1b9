-- Where a steady run stands at a line there is a move, at calls of the runtime's routines too.
use Rattle.std.specs.Prelude.{◌≡◌, None}
use Rattle.c65_code.specs.declared.line.Line.{Line}
use Rattle.c65_code.specs.LineState.{Place, State}
use Rattle.c65_code.specs.Placement.{Setting}
use Rattle.c65_code.specs.Forms.{form_of}
use Rattle.c65_code.specs.Moves.{Moves}
use Rattle.c65_code.specs.Steady.{IsSteady}
use Rattle.c65_code.specs.LineLaws.{given_of, IsGivenByte}

-- Whatever the line is, calls of routines by name, by a library function's name and through a pointer included: a run that has not
-- ended, and is steady there, goes on.
abbrev pub NeverSticks : Type 0
NeverSticks = (s : Setting) (l : Line) (p : Place) (t : State)
    → IsGivenByte (given_of s (form_of l) t)
    → IsSteady s l t → t.ended ≡ None
    → (q : Place) × (u : State) × Moves s l p t q u
