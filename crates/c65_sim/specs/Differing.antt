-- Where the 65C02 does another thing than the 6502 in a row that both have.
use Rattle.std.specs.Prelude.{ℕ, ◌+◌, ◌%◌, ◌==◌, ◌&&◌, not, zero, suc, Bool, true, false, if◌then◌else◌}
use Rattle.c65_mach.specs.State.{State, read}
use Rattle.c65_mach.specs.Step.{after, word_at}
use Rattle.c65_mach.specs.Run.{Setting, Progress, Running, Ended, Stopped, onward, is_hook}

-- The next row is `JMP (abs)` whose operand has the low byte $FF: the 6502 takes the high byte of the target from the same page.
abbrev pub jumps_at_page_end : State → Bool
jumps_at_page_end m = (read m.mem m.pc == 0x6C) && (not (is_hook m.pc) && (word_at m.mem (after m.pc 1) % 256 == 255))

abbrev pub differs_next : Progress → Bool
differs_next (Running now) = jumps_at_page_end now.machine
differs_next (Ended now status) = false
differs_next (Stopped now) = false

abbrev pub either : Bool → Bool → Bool
either first second = if first then true else second

-- one of so many rows from here is such a jump
unfoldable pub differs_in : Setting → ℕ → Progress → Bool
differs_in setting zero start = false
differs_in setting (suc rows) start = either (differs_in setting rows start) (differs_next (onward setting rows start))
