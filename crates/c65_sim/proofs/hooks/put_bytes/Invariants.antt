use Rattle.std.proofs.Common.{◌≡◌, drop}
use Rattle.c65_mach.specs.State.{State}
use Rattle.c65_mach.specs.Hooks.{put_bytes}
use Rattle.c65_sim.proofs.hooks.put_bytes.Given as goal

abbrev pub invariant-loop-byte : goal.invariant-loop-byte
invariant-loop-byte l =
    let whole : State = record l.fn.machine { mem = put_bytes l.fn.machine.mem l.at l.bytes } in
    record l.machine { mem = put_bytes l.machine.mem l.place (drop l.byte-index l.bytes) } ≡ whole
