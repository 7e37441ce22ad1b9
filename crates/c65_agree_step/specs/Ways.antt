-- Ways of the machine on lines that go on from a line of a function.
use Rattle.std.specs.Prelude.{◌≡◌, ℕ, Bool, IsTrue, Some, None, slice_get}
use Rattle.c65_code.specs.declared.line.Line.{Line}
use Rattle.c65_code.specs.LineState.{Place, State}
use Rattle.c65_code.specs.Placement.{Setting}
use Rattle.c65_code.specs.Forms.{Form, form_of}
use Rattle.c65_code.specs.Moves.{settle}
use Rattle.c65_code.specs.Steady.{IsCalm, IsWithin}
use Rattle.c65_code.specs.Comes.{Seen, seen_at, Comes}

-- a kind of moments
abbrev pub Moment : Type 1
Moment = Place → State → Seen → Type 0

-- what holds of each kind of moments that a test tells
abbrev pub Test : Type 0
Test = Place → State → Seen → Bool

abbrev pub Passes : Test → Moment
Passes test p t seen = IsTrue (test p t seen)

abbrev pub ForEach : (Moment → Type 0) → Type 0
ForEach Law = (test : Test) → Law (Passes test)

abbrev pub ForEachTwo : (Moment → Moment → Type 0) → Type 0
ForEachTwo Law = (first second : Test) → Law (Passes first) (Passes second)

-- where the machine stands that has come to a line of a function: at the first line from there on that is no label
abbrev pub place_at : Setting → ℕ → ℕ → Place
place_at s f p = (f, settle (s.lines f) p)

-- from a place to which the machine has just come
abbrev pub GoesOn : Setting → Moment → ℕ → Place → State → Seen → Type 0
GoesOn s Q w q u seen = Comes s Q w q u (seen_at q seen)

-- a run that has not ended stands, steadily, at line p of function f, which is of a form
pub record IsAtLine (s : Setting) (f p : ℕ) (t : State) (form : Form) : Type 0 where
  pub line : Line
  pub there : slice_get (s.lines f) p ≡ Some line
  pub formed : form_of line ≡ form
  pub calm : IsCalm s t
  pub within : IsWithin s form t
  pub running : t.ended ≡ None
