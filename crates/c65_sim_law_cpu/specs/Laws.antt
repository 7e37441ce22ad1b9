-- That the 65C02 runs the images of the 6502.
use Rattle.std.specs.Prelude.{◌≡◌, ℕ, List, false, ⊤}
use Rattle.c65_base.specs.declared.options.Cpu.{Cpu}
use Rattle.c65_base.specs.declared.options.Cpu.TheVariants.{Nmos, Cmos}
use Rattle.c65_mach.specs.declared.image.Image.{Image}
use Rattle.c65_mach.specs.State.{State}
use Rattle.c65_mach.specs.Run.{Moment, Progress, Running, Ended, Stopped, setting_of, begins, run_of}
use Rattle.c65_sim.specs.Differing.{differs_in}

abbrev pub machine_on : Cpu → State → State
machine_on cpu m = record m { cpu = cpu }

abbrev pub moment_on : Cpu → Moment → Moment
moment_on cpu now = record now { machine = machine_on cpu now.machine }

-- the same output, the same status or running state, and the same machine but for its processor
abbrev pub on : Cpu → Progress → Progress
on cpu (Running now) = Running (moment_on cpu now)
on cpu (Ended now status) = Ended (moment_on cpu now) status
on cpu (Stopped now) = Stopped (moment_on cpu now)

-- no byte without a row was met
abbrev pub MeetsRows : Progress → Type 0
MeetsRows (Running now) = ⊤
MeetsRows (Ended now status) = ⊤
MeetsRows (Stopped now) = ⊥

-- After so many rows, of which each byte had one on the 6502 and none was a `JMP (abs)` whose operand has the low byte $FF,
-- the same image for the 65C02 has come as far.
abbrev pub ProcessorsAgree : Type 0
ProcessorsAgree = (image : Image) (args : List (List ℕ)) (input : List ℕ) (rows : ℕ) → image.cpu ≡ Nmos
    → MeetsRows (run_of image args input rows)
    → differs_in (setting_of image args) rows (Running (begins image input)) ≡ false
    → run_of (record image { cpu = Cmos }) args input rows ≡ on Cmos (run_of image args input rows)
