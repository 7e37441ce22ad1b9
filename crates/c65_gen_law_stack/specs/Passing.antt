-- Steady ways of the machine through given lines (docs/MEANING.md, "Steady runs").
use Rattle.std.specs.Prelude.{◌≡◌, List, [], ◌∷◌, Some, slice_get}
use Rattle.c65_code.specs.declared.line.Line.{Line}
use Rattle.c65_code.specs.LineState.{Place, State}
use Rattle.c65_code.specs.Placement.{Setting}
use Rattle.c65_code.specs.Moves.{Moves}
use Rattle.c65_code.specs.Steady.{IsCalm, IsSteady}

-- From the one place and state the machine goes through these lines, one behind another, to the other: it stands at each of them in
-- its turn and is steady there, and it is calm at the end.
abbrev pub Passes : Setting → List Line → Place → State → Place → State → Type 0
Passes s [] p t q u = (q ≡ p) × (u ≡ t) × IsCalm s t
Passes s (line ∷ lines) p t q u = (slice_get (s.lines p.0) p.1 ≡ Some line) × IsSteady s line t × (r : Place) × (v : State) × Moves s line p t r v × Passes s lines r v q u
