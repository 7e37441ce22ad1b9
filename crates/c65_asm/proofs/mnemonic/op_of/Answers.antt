use Rattle.c65_asm.proofs.NameLaws.{op_given}
use Rattle.c65_asm.proofs.mnemonic.op_of.Goals as goal

pub returns-in-Some : goal.returns-in-Some
returns-in-Some c = op_given c.in-Some.op c.args.name.now c.in-Some.ensures.named

pub returns-in-None : goal.returns-in-None
returns-in-None c = c.among-in-None.ensures.first
