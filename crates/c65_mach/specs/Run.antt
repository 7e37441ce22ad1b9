-- What an image does, as a function of the number of rows. A hook counts as one row of 6 cycles.
use Rattle.std.specs.Prelude.{ℕ, ◌+◌, zero, suc, Bool, ◌&&◌, nat_le, List, [], ◌++◌, take, drop, Option, Some, None, if◌then◌else◌, ◌==◌}
use Rattle.c65_mach.specs.declared.image.Image.{Image}
use Rattle.c65_mach.specs.declared.rows.Row.{Row}
use Rattle.c65_mach.specs.State.{State, loaded}
use Rattle.c65_mach.specs.Step.{row_at, step, cycles_of}
use Rattle.c65_mach.specs.Hooks.{ax, opened, closed, descriptor_of, read_into, not_served, bytes_to_write, written, given_args}

-- what a run is given once: where the zero page has the software stack's pointer, and the program's arguments
pub record Setting : Type 0 where
  pub sp : ℕ
  pub args : List (List ℕ)

-- a moment of a run: the machine, the bytes of input that are left, and the bytes written so far
pub record Moment : Type 0 where
  pub machine : State
  pub input : List ℕ
  pub output : List ℕ

-- what a run has come to: it goes on, has ended with a status, or stands at a byte without a row
pub data Progress : Type 0 where
  Running : (now : Moment) → Progress
  Ended : (now : Moment) (status : ℕ) → Progress
  Stopped : (now : Moment) → Progress

abbrev pub with_machine : Moment → State → Progress
with_machine now m = Running (record now { machine = m })

-- `read`: from 0 it takes the lesser of the count and what is left
abbrev pub reads : ℕ → Moment → Progress
reads sp now =
    let m = now.machine in
    if descriptor_of sp m == 0
    then Running (record now { machine = read_into sp (take (ax m) now.input) m; input = drop (ax m) now.input })
    else with_machine now (not_served sp m)

-- `write`: to 1 it writes all
abbrev pub writes : ℕ → Moment → Progress
writes sp now =
    let m = now.machine in
    if descriptor_of sp m == 1
    then Running (record now { machine = written sp m; output = now.output ++ bytes_to_write sp m })
    else with_machine now (not_served sp m)

abbrev pub row_done : Moment → Option State → Progress
row_done now None = Stopped now
row_done now (Some m) = with_machine now m

-- one row, or the hook at pc
abbrev pub turn : Setting → Moment → Progress
turn setting now =
    let m = now.machine in
    if m.pc == 0xFFF4 then with_machine now (opened setting.sp m) else
    if m.pc == 0xFFF5 then with_machine now (closed m) else
    if m.pc == 0xFFF6 then reads setting.sp now else
    if m.pc == 0xFFF7 then writes setting.sp now else
    if m.pc == 0xFFF8 then with_machine now (given_args setting.sp setting.args m) else
    if m.pc == 0xFFF9 then Ended now m.regs.a else
    row_done now (step m)

abbrev pub next : Setting → Progress → Progress
next setting (Running now) = turn setting now
next setting (Ended now status) = Ended now status
next setting (Stopped now) = Stopped now

-- so many rows onward
unfoldable pub onward : Setting → ℕ → Progress → Progress
onward setting zero progress = progress
onward setting (suc rows) progress = next setting (onward setting rows progress)

-- the moment that a run has come to
abbrev pub moment_of : Progress → Moment
moment_of (Running now) = now
moment_of (Ended now status) = now
moment_of (Stopped now) = now

abbrev pub is_hook : ℕ → Bool
is_hook pc = nat_le 0xFFF4 pc && nat_le pc 0xFFF9

abbrev pub row_cycles : Option Row → State → ℕ
row_cycles None m = 0
row_cycles (Some row) m = cycles_of row m

-- the cycles of the next row
abbrev pub next_cycles : State → ℕ
next_cycles m = if is_hook m.pc then 6 else row_cycles (row_at m) m

abbrev pub cycles_next : Progress → ℕ
cycles_next (Running now) = next_cycles now.machine
cycles_next (Ended now status) = 0
cycles_next (Stopped now) = 0

-- the cycles of so many rows from here
unfoldable pub cycles_after : Setting → ℕ → Progress → ℕ
cycles_after setting zero progress = 0
cycles_after setting (suc rows) progress = cycles_after setting rows progress + cycles_next (onward setting rows progress)

abbrev pub setting_of : Image → List (List ℕ) → Setting
setting_of image args = record { sp = image.sp; args = args }

-- the moment at which a run of an image begins
abbrev pub begins : Image → List ℕ → Moment
begins image input = record { machine = loaded image; input = input; output = [] }

-- an image with these arguments and this input, after so many rows
abbrev pub run_of : Image → List (List ℕ) → List ℕ → ℕ → Progress
run_of image args input rows = onward (setting_of image args) rows (Running (begins image input))
