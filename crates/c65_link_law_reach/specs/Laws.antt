-- The lines of a linked code are followed.
use Rattle.std.specs.Prelude.{◌≡◌, ℕ, ◌+◌, Bool, List, Ok}
use Rattle.c65_base.specs.declared.options.Cpu.{Cpu}
use Rattle.c65_mach.specs.declared.image.Image.{Image}
use Rattle.c65_mach.specs.Run.{Setting, Moment}
use Rattle.c65_code.specs.declared.code.Code.{Code}
use Rattle.c65_code.specs.LineState.{Place, State}
use Rattle.c65_code.specs.Placement.{setting_of}
use Rattle.c65_code.specs.Processors.{RunsOn}
use Rattle.c65_code.specs.Comes.{Seen, Shown, Shows, Comes}
use Rattle.c65_code.specs.RawMachine.{IsRuntime}
use Rattle.c65_link.specs.Linked.{linked_for}
use Rattle.c65_link_law_spots.specs.Places.{place_in}
use Rattle.c65_link_law_spots.specs.Sound.{IsSound}
use Rattle.c65_link_law_follow.specs.Agree.{Agrees}
use Rattle.c65_link_law_laid.specs.Linked.{raw_in}
use Rattle.c65_link_law_laid.specs.Laws.{AreLineNumbers}
use Rattle.c65_link_law_runs.specs.Follows.{IsSetFor, IsRunning}
use Rattle.c65_link_law_reach.specs.Reach.{runtime_in, code_ground, HasArrived, IsReached, IsAtLine, AreCallers, Passes}

-- From a line of a function at which the states agree, the image comes to what the lines come to: the return of main takes two rows
-- more than it weighs. Whenever pc is at the first byte of a function's instruction on the way, the lines have come there by
-- steady moves.
abbrev pub CodesAreFollowed : Type 0
CodesAreFollowed = (cpu : Cpu) (code : Code) (image : Image) (args : List (List ℕ)) (setting : Setting) (test : Shown → Seen → Bool) (w : ℕ) (p : Place) (t : State) (now : Moment) (seen : Seen)
    → RunsOn cpu code → IsSound code → AreLineNumbers code → linked_for cpu code ≡ Ok image → IsSetFor (raw_in code args) setting → IsRuntime (runtime_in code args)
    → Comes (setting_of code (place_in code)) (Shows test) w p t seen → IsRunning t → AreCallers code t.frames → IsAtLine code p t → Agrees (code_ground cpu code image) ((code_ground cpu code image).at p) t now
    → Passes (HasArrived (code_ground cpu code image) code (IsReached (setting_of code (place_in code)) p t)) setting (w + 2) now test seen
