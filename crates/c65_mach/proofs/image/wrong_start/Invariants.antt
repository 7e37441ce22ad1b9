use Rattle.std.proofs.Common.{◌≡◌, drop}
use Rattle.c65_mach.specs.Images.{wrong_in, fixed}
use Rattle.c65_mach.proofs.image.wrong_start.Given as goal

abbrev pub invariant-loop-at : goal.invariant-loop-at
invariant-loop-at l = wrong_in fixed l.bytes 0 ≡ wrong_in (drop l.at fixed) (drop l.at l.bytes) l.at
