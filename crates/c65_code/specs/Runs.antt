-- Runs one by one: a list of the places and states after each move (docs/MEANING.md, "Runs").
use Rattle.std.specs.Prelude.{◌≡◌, ℕ, zero, suc, ◌+◌, ◌≤◌, ◌⊎◌, List, [], ◌∷◌, Some, slice_get, length, IsSome}
use Rattle.c65_code.specs.declared.line.Line.{Line}
use Rattle.c65_code.specs.LineState.{Place, State}
use Rattle.c65_code.specs.Placement.{Setting}
use Rattle.c65_code.specs.Forms.{form_of}
use Rattle.c65_code.specs.Moves.{Moves}
use Rattle.c65_code.specs.Weights.{Weighs}
use Rattle.c65_code.specs.Steady.{IsSteady}

-- a run from a place and a state: what a move leaves open is chosen by the state after it
abbrev pub IsRun : Setting → Place → State → List (Place × State) → Type 0
IsRun s p t [] = Unit {0}
IsRun s p t (m ∷ run) = ((l : Line) × (slice_get (s.lines p.0) p.1 ≡ Some l) × Moves s l p t m.0 m.1) × IsRun s m.0 m.1 run

-- the place and the state after so many moves, or at the end
abbrev pub moment : ℕ → Place → State → List (Place × State) → Place × State
moment zero p t run = (p, t)
moment (suc k) p t [] = (p, t)
moment (suc k) p t (m ∷ run) = moment k m.0 m.1 run

-- the run has its first k moves, is steady at each of them, and they weigh w together
abbrev pub IsSteadyFor : Setting → ℕ → ℕ → Place → State → List (Place × State) → Type 0
IsSteadyFor s zero w p t run = w ≡ 0
IsSteadyFor s (suc k) w p t [] = ⊥
IsSteadyFor s (suc k) w p t (m ∷ run) = (l : Line) × (c : ℕ) × (v : ℕ) × (slice_get (s.lines p.0) p.1 ≡ Some l) × IsSteady s l t × Weighs s (form_of l) t c × (w ≡ c + v) × IsSteadyFor s k v m.0 m.1 run

abbrev pub HasNoMove : Setting → Place × State → Type 0
HasNoMove s m = (l : Line) (q : Place) (u : State) → slice_get (s.lines m.0.0) m.0.1 ≡ Some l → Moves s l m.0 m.1 q u → ⊥

-- the run has so many moves, has ended, or has no next move
abbrev pub IsLong : Setting → ℕ → Place → State → List (Place × State) → Type 0
IsLong s count p t run = (count ≤ length run) ⊎ (IsSome (moment (length run) p t run).1.ended ⊎ HasNoMove s (moment (length run) p t run))
