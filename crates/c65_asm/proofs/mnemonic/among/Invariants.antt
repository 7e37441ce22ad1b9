use Rattle.std.proofs.Common.{◌≡◌, drop}
use Rattle.c65_asm.specs.Rows.{op_among}
use Rattle.c65_asm.proofs.mnemonic.among.Given as goal

abbrev pub invariant-loop-op : goal.invariant-loop-op
invariant-loop-op l = op_among (drop l.op-index l.operations) l.name ≡ op_among l.operations l.name
