-- What contracts see of a run.
use Rattle.std.specs.Prelude.{ℕ, ◌+◌, ◌*◌, Bool, false, Option, None, List, length, sum_by}
use Rattle.c65_mach.specs.declared.image.Image.{Image}
use Rattle.c65_mach.specs.State.{State, loaded}
use Rattle.c65_mach.specs.Run.{Setting, setting_of}

-- the machine with what its hooks have: the setting, and whether the input has come to its end in this call
pub record ComputerView : Type 0 where
  pub setting : Setting
  pub machine : State
  pub is_at_end : Bool

-- a run: its setting, the machine, the rows done so far, whether one of them was a `JMP (abs)` that the processors do
-- differently, and the status once it has ended
pub record RunView : Type 0 where
  pub setting : Setting
  pub machine : State
  pub count : ℕ
  pub differed : Bool
  pub status : Option ℕ

-- the run of an image before its first row
abbrev pub started : Image → List (List ℕ) → RunView
started image args = record { setting = setting_of image args; machine = loaded image; count = 0; differed = false; status = None }

-- The bytes that the arguments take on the software stack: each one with a zero byte behind it, and the list of their
-- addresses, which 0 ends.
abbrev pub arguments_size : List (List ℕ) → ℕ
arguments_size args = sum_by (λ arg. length arg + 1) args + 2 * (length args + 1)
