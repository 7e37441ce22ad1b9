use Rattle.std.proofs.Common.{take}
use Rattle.std.specs.Prelude.{All}
use Rattle.c65_optimise.specs.Optimised.{HasByte}
use Rattle.c65_optimise.proofs.functions.have_bytes.Given as goal

abbrev pub invariant-loop-line : goal.invariant-loop-line
invariant-loop-line l = All HasByte (take l.line-index l.lines)
