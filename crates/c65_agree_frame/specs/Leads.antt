-- Ways of the machine through lines of a function, and what they leave of its state.
use Rattle.std.specs.Prelude.{◌≡◌, ℕ, ◌+◌, ◌<◌, ◌≤◌, ◌⊎◌, List, None, length}
use Rattle.c65_meaning.specs.State as meaning
use Rattle.c65_code.specs.declared.line.Line.{Line}
use Rattle.c65_code.specs.LineState.{State, sp_of, eax_of, IsBytes}
use Rattle.c65_code.specs.Placement.{stack_start}
use Rattle.c65_code.specs.Comes.{Seen}
use Rattle.c65_agree_state.specs.World.{World, Active, lines_of, place_in, HasAt, HasTurns}
use Rattle.c65_agree_state.specs.Follows.{Follows}
use Rattle.c65_agree_state.specs.Laws.{HasStacks}

-- From the state t these lines, wherever they stand in the function, lead within a weight to such a state behind them, from which the
-- rest is followed.
abbrev pub Leads : World → Active → List Line → ℕ → State → (State → Type 0) → Type 0
Leads g a lines w t Behind = (n v p turns : ℕ) (m : meaning.State) (seen : Seen)
    → HasAt (lines_of g a) p lines → HasTurns g turns (place_in g a p) seen
    → ((u : State) (later : Seen) → Behind u → HasTurns g turns (place_in g a (p + length lines)) later → Follows g n v m (place_in g a (p + length lines)) u later)
    → Follows g n (w + v) m (place_in g a p) t seen

-- a run that has not ended stands calmly, with room for each routine
pub record IsOn (g : World) (t : State) : Type 0 where
  pub stacks : HasStacks g t
  pub running : t.ended ≡ None

-- A, X and sreg stay, and so do the bytes below the software stack and from a bound on
pub record Stays (bound : ℕ) (t u : State) : Type 0 where
  pub value : eax_of u ≡ eax_of t
  pub mem : (n : ℕ) → (n < stack_start) ⊎ (bound ≤ n) → u.mem n ≡ t.mem n
  pub pushed : u.pushed ≡ t.pushed
  pub frames : u.frames ≡ t.frames
  pub input : u.input ≡ t.input
  pub output : u.output ≡ t.output
  pub ended : u.ended ≡ t.ended
  pub bytes : IsBytes u

-- the bytes of regbank stay
abbrev pub SameBank : State → State → Type 0
SameBank t u = (i : ℕ) → i < 6 → u.zp (20 + i) ≡ t.zp (20 + i)

-- sp is higher by so many bytes
pub record IsHigher (count : ℕ) (t u : State) : Type 0 where
  pub sp : sp_of u ≡ sp_of t + count
  pub bank : SameBank t u
  pub stays : Stays (sp_of t + count) t u

-- or lower
pub record IsLower (count : ℕ) (t u : State) : Type 0 where
  pub sp : sp_of u + count ≡ sp_of t
  pub bank : SameBank t u
  pub stays : Stays (sp_of t) t u

-- sp is lower, and the first bytes of regbank are put away there
pub record IsSaved (count : ℕ) (t u : State) : Type 0 where
  pub lower : IsLower count t u
  pub saved : (i : ℕ) → i < count → u.mem (sp_of u + i) ≡ t.zp (20 + i)

-- sp is higher, and the first bytes of regbank are those that stood there
pub record IsBrought (count : ℕ) (t u : State) : Type 0 where
  pub sp : sp_of u ≡ sp_of t + count
  pub brought : (i : ℕ) → i < count → u.zp (20 + i) ≡ t.mem (sp_of t + i)
  pub others : (i : ℕ) → count ≤ i → i < 6 → u.zp (20 + i) ≡ t.zp (20 + i)
  pub stays : Stays (sp_of t + count) t u
