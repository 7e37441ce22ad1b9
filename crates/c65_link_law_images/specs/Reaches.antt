-- What the run of an image comes to.
use Rattle.std.specs.Prelude.{◌≡◌, ℕ, suc, ◌+◌, ◌<◌, ◌≤◌, Bool, false, IsTrue, List, Some, None}
use Rattle.c65_mach.specs.declared.image.Image.{Image}
use Rattle.c65_mach.specs.Run.{Moment, Progress, Running, Ended, Stopped, moment_of, run_of}
use Rattle.c65_sim.specs.Budgets.{is_too_deep}
use Rattle.c65_code.specs.Comes.{Seen, Shown}

abbrev pub IsShownBy : Shown → Progress → Type 0
IsShownBy shown (Running now) = shown ≡ record { output = now.output; ended = None }
IsShownBy shown (Ended now status) = shown ≡ record { output = now.output; ended = Some status }
IsShownBy shown (Stopped now) = ⊥

-- After so many rows the image shows what passes the test; no line of the code is reached more often than rows were done, and once
-- before the first one, and the guard refuses none of the rows. P holds of each moment up to this one.
pub record Reaches (P : Moment → Type 0) (image : Image) (args : List (List ℕ)) (input : List ℕ) (test : Shown → Seen → Bool) (w : ℕ) : Type 0 where
  pub rows : ℕ
  pub within : rows ≤ w + 96
  pub seen : Seen
  pub shown : Shown
  pub shows : IsShownBy shown (run_of image args input rows)
  pub passes : IsTrue (test shown seen)
  pub few : (f p : ℕ) → seen f p ≤ suc rows
  pub free : (k : ℕ) → k < rows → is_too_deep (moment_of (run_of image args input k)).machine ≡ false
  pub recorded : (k : ℕ) → k ≤ rows → P (moment_of (run_of image args input k))
