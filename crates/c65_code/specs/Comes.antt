-- Whatever is left open, each way of a run comes to a moment of a kind, steady on the way and within a weight
-- (docs/MEANING.md, "Runs").
use Rattle.std.specs.Prelude.{◌≡◌, ℕ, suc, ◌+◌, ◌≤◌, ◌==◌, ◌&&◌, Bool, IsTrue, if◌then◌else◌, List, Option, Some, slice_get}
use Rattle.c65_code.specs.declared.line.Line.{Line}
use Rattle.c65_code.specs.LineState.{Place, State}
use Rattle.c65_code.specs.Placement.{Setting}
use Rattle.c65_code.specs.Forms.{form_of}
use Rattle.c65_code.specs.Moves.{Moves, settle}
use Rattle.c65_code.specs.Weights.{Weighs}
use Rattle.c65_code.specs.Steady.{IsCalm, IsSteady}

-- how often the machine came to each line, the line at which it stands included
abbrev pub Seen : Type 0
Seen = ℕ → ℕ → ℕ

abbrev pub none_seen : Seen
none_seen f p = 0

abbrev pub seen_at : Place → Seen → Seen
seen_at q seen f p = if (f == q.0) && (p == q.1) then suc (seen f p) else seen f p

-- From here each way comes to a place, state and arrivals of Q; it is steady before, and weighs at most w.
pub data Comes (s : Setting) (Q : Place → State → Seen → Type 0) : ℕ → Place → State → Seen → Type 0 where
  here : {w : ℕ} {p : Place} {t : State} {seen : Seen} → Q p t seen → IsCalm s t → Comes s Q w p t seen
  on : {w v : ℕ} {p : Place} {t : State} {seen : Seen} (l : Line) → slice_get (s.lines p.0) p.1 ≡ Some l → IsSteady s l t
      → (c : ℕ) → Weighs s (form_of l) t c → c + v ≤ w
      → (q : Place) (u : State) → Moves s l p t q u
      → ((q : Place) (u : State) → Moves s l p t q u → Comes s Q v q u (seen_at q seen))
      → Comes s Q w p t seen

-- what a run shows to the outside: what it has written, and whether it has ended and with what
pub record Shown : Type 0 where
  pub output : List ℕ
  pub ended : Option ℕ

abbrev pub shown_by : State → Shown
shown_by t = record { output = t.output; ended = t.ended }

-- a moment that passes a test
abbrev pub Shows : (Shown → Seen → Bool) → Place → State → Seen → Type 0
Shows test p t seen = IsTrue (test (shown_by t) seen)

abbrev pub first_place : Setting → ℕ → Place
first_place s main = (main, settle (s.lines main) 0)

-- every run from main comes to a moment that passes the test
abbrev pub ComesFrom : Setting → ℕ → (Shown → Seen → Bool) → ℕ → State → Type 0
ComesFrom s main test w t = Comes s (Shows test) w (first_place s main) t (seen_at (first_place s main) none_seen)
