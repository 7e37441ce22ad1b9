-- What the image of a code comes to.
use Rattle.std.specs.Prelude.{◌≡◌, ℕ, ◌+◌, ◌-◌, ◌<◌, ◌≤◌, Bool, false, IsTrue, nat_lt, if◌then◌else◌, All, List, [], length, slice_get, Some, None}
use Rattle.c65_base.specs.declared.options.Cpu.{Cpu}
use Rattle.c65_mach.specs.declared.image.Image.{Image}
use Rattle.c65_mach.specs.State.{read, loaded_memory}
use Rattle.c65_mach.specs.Run.{Setting, Moment, Ended, turn}
use Rattle.c65_sim.specs.Budgets.{is_too_deep}
use Rattle.c65_code.specs.declared.routine.TheConstants.Routine.{ALL}
use Rattle.c65_code.specs.declared.code.Code.{Code}
use Rattle.c65_code.specs.declared.line.Line.{Line}
use Rattle.c65_code.specs.LineState.{Place, State, Frame}
use Rattle.c65_code.specs.Placement.{Setting as LineSetting, setting_of}
use Rattle.c65_code.specs.Moves.{Moves}
use Rattle.c65_code.specs.Steady.{IsSteady}
use Rattle.c65_code.specs.Comes.{Seen, Shown}
use Rattle.c65_code.specs.RawMachine.{RawSetting}
use Rattle.c65_link_law_follow.specs.Agree.{Ground, Agrees, Goes}
use Rattle.c65_link_law_spots.specs.Places.{place_in, lines_by}
use Rattle.c65_link_law_laid.specs.Linked.{start_number, raw_in, place_at, ground_in, IsInstruction}

-- The runtime alone: functions and the start have no lines here, so that a run of a routine ends where it leaves the runtime.
abbrev pub runtime_in : Code → List (List ℕ) → RawSetting
runtime_in code args = record (raw_in code args) { lines = λ f. if nat_lt f (length code.symbols) then [] else lines_by (slice_get ALL (f - length code.symbols)) }

-- the call of `exit` in the start, behind that of main
abbrev pub exit_place : Code → Place
exit_place code = (start_number code, if code.main_args then 16 else 5)

-- while main runs, the bytes above S lead back to the start
abbrev pub code_ground : Cpu → Code → Image → Ground
code_ground cpu code image = ground_in cpu code image 253 (Some (place_at code (read (loaded_memory image)) (exit_place code)))

-- an instruction of a function
pub record IsAt (code : Code) (q : Place) (l : Line) : Type 0 where
  pub there : slice_get ((setting_of code (place_in code)).lines q.0) q.1 ≡ Some l
  pub instruction : IsInstruction l

-- no instruction of a function begins at the address
abbrev pub IsElsewhere : Ground → Code → ℕ → Type 0
IsElsewhere g code a = (q : Place) (l : Line) → IsAt code q l → a ≡ g.at q → ⊥

-- the machine on lines has come to the place, in a state that agrees and of which Inv holds, and has not ended
pub record Arrived (g : Ground) (Inv : Place → State → Type 0) (q : Place) (m : Moment) : Type 0 where
  pub state : State
  pub running : state.ended ≡ None
  pub holds : Inv q state
  pub agrees : Agrees g (g.at q) state m

-- where pc is at the first byte of an instruction of a function, the machine on lines has come there
abbrev pub HasArrived : Ground → Code → (Place → State → Type 0) → Moment → Type 0
HasArrived g code Inv m = (q : Place) (l : Line) → IsAt code q l → m.machine.pc ≡ g.at q → Arrived g Inv q m

-- the machine on lines comes from one place and state to another by steady moves
pub data IsReached (s : LineSetting) (first : Place) (t : State) : Place → State → Type 0 where
  at_first : IsReached s first t first t
  by_move : {p q : Place} {v u : State} (l : Line) → IsReached s first t p v → slice_get (s.lines p.0) p.1 ≡ Some l → IsSteady s l v → Moves s l p v q u → IsReached s first t q u

-- an instruction stands at the place, and at each one that an active call goes back to
pub record IsAtLine (code : Code) (q : Place) (u : State) : Type 0 where
  pub line : Line
  pub at : IsAt code q line
  pub frames : All (λ (frame : Frame). (l : Line) × IsAt code frame.back l) u.frames

-- At most so many rows lead to what passes a test, where the run goes on or has ended; each row adds one arrival at most, and the
-- guard refuses none. P holds of each of their moments.
pub data Passes (P : Moment → Type 0) (setting : Setting) (most : ℕ) (now : Moment) (test : Shown → Seen → Bool) (seen : Seen) : Type 0 where
  goes_on : (rows : ℕ) (then_at : Moment) (more : Seen) → rows ≤ most → Goes P setting rows now then_at → P then_at → IsTrue (test (record { output = then_at.output; ended = None }) more)
      → ((f p : ℕ) → more f p ≤ seen f p + rows) → Passes P setting most now test seen
  has_ended : (rows status : ℕ) (last : Moment) (more : Seen) → rows + 1 ≤ most → Goes P setting rows now last → is_too_deep last.machine ≡ false → P last → turn setting last ≡ Ended last status
      → IsTrue (test (record { output = last.output; ended = Some status }) more) → ((f p : ℕ) → more f p ≤ seen f p + (rows + 1)) → Passes P setting most now test seen

-- each active call goes back to a function
abbrev pub AreCallers : Code → List Frame → Type 0
AreCallers code frames = All (λ (frame : Frame). frame.back.0 < length code.symbols) frames
