use Rattle.std.proofs.Common.{◌<◌, length, arith}
use Rattle.c65_sim.proofs.Bytes.{copied_more}
use Rattle.c65_sim.proofs.hooks.copy_bytes.Goals as goal

pub loop-byte-preserved : goal.loop-byte-preserved
loop-byte-preserved c =
    let lt : c.loop-byte.byte-index < length c.loop-byte.into = omega arith in
    copied_more c.args.machine.now.mem c.loop-byte.place c.args.at c.loop-byte.byte-index c.loop-byte.into c.read.result lt c.read.ensures c.loop-byte.invariant
