use Rattle.std.proofs.Common.{◌≡◌, ◌-◌, ◌++◌, take, length}
use Rattle.c65_mach.specs.Hooks.{bytes_from}
use Rattle.c65_sim.proofs.hooks.copy_bytes.Given as goal

abbrev pub invariant-loop-byte : goal.invariant-loop-byte
invariant-loop-byte l =
    take l.byte-index l.into ++ bytes_from l.machine.mem l.place (length l.into - l.byte-index)
    ≡ bytes_from l.machine.mem l.at (length l.into)
