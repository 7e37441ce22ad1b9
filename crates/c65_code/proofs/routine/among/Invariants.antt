use Rattle.std.proofs.Common.{◌≡◌, drop}
use Rattle.c65_code.specs.Names.{found_in}
use Rattle.c65_code.proofs.routine.among.Given as goal

abbrev pub invariant-loop-routine : goal.invariant-loop-routine
invariant-loop-routine l = found_in (drop l.routine-index l.routines) l.name ≡ found_in l.routines l.name
