use Rattle.std.proofs.Common.{◌≡◌, drop}
use Rattle.c65_asm.specs.Noted.{parting}
use Rattle.c65_asm.proofs.notes.parting.Given as goal

abbrev pub invariant-loop-at : goal.invariant-loop-at
invariant-loop-at l = parting l.line (drop l.at l.text) (drop l.at l.other) ≡ parting 1 l.text l.other
