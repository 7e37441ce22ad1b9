-- The image follows the lines.
use Rattle.std.specs.Prelude.{◌≡◌, ℕ, ◌<◌, ◌≤◌, Bool, All, List, Ok}
use Rattle.c65_base.specs.declared.options.Cpu.{Cpu}
use Rattle.c65_mach.specs.declared.image.Image.{Image}
use Rattle.c65_code.specs.declared.code.Code.{Code}
use Rattle.c65_code.specs.LineState.{Place, State}
use Rattle.c65_code.specs.Placement.{setting_of}
use Rattle.c65_code.specs.Processors.{RunsOn}
use Rattle.c65_code.specs.Starts.{IsMain, IsStart}
use Rattle.c65_code.specs.Comes.{Seen, Shown, ComesFrom, first_place}
use Rattle.c65_code.specs.RawMachine.{IsRuntime}
use Rattle.c65_sim.specs.View.{arguments_size}
use Rattle.c65_link.specs.Linked.{linked_for}
use Rattle.c65_link_law_spots.specs.Places.{place_in}
use Rattle.c65_link_law_spots.specs.Sound.{IsSound}
use Rattle.c65_link_law_laid.specs.Laws.{AreLineNumbers}
use Rattle.c65_link_law_reach.specs.Reach.{runtime_in, code_ground, HasArrived, IsReached}
use Rattle.c65_link_law_images.specs.Reaches.{Reaches}

abbrev pub AreBytes : List ℕ → Type 0
AreBytes bytes = All (λ v. v < 256) bytes

-- the machine on lines comes to the place and state from a state in which main may be called, by steady moves
abbrev pub IsRun : Code → ℕ → List (List ℕ) → List ℕ → Place → State → Type 0
IsRun code main args input q u = (t : State) × IsStart code (place_in code) args input t × IsReached (setting_of code (place_in code)) (first_place (setting_of code (place_in code)) main) t q u

-- Of codes whose numbers are bytes, and images whose file's bytes are. Whenever pc is at the first byte of a function's instruction, the
-- lines have come there, by steady moves from a state in which main may be called, and their state agrees.
abbrev pub ImagesFollow : Type 0
ImagesFollow = (cpu : Cpu) (code : Code) (image : Image) → RunsOn cpu code → IsSound code → AreLineNumbers code → linked_for cpu code ≡ Ok image → AreBytes image.payload → (main : ℕ) → IsMain code main
    → (args : List (List ℕ)) (input : List ℕ) (test : Shown → Seen → Bool) (w : ℕ) → All AreBytes args → AreBytes input → arguments_size args ≤ 1024 → IsRuntime (runtime_in code args)
    → ((t : State) → IsStart code (place_in code) args input t → ComesFrom (setting_of code (place_in code)) main test w t)
    → Reaches (HasArrived (code_ground cpu code image) code (IsRun code main args input)) image args input test w
