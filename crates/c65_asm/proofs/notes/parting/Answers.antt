use Rattle.std.proofs.Common.{sym, ◌∙◌, arith}
use Rattle.c65_asm.proofs.NoteLaws.{parts_end}
use Rattle.c65_asm.proofs.notes.parting.Goals as goal

pub returns : goal.returns
returns c = sym (parts_end c.loop-at.line c.loop-at.at c.args.text.now c.args.other.now (omega (arith, c.loop-at-test.false, c.min-at-end.ensures))) ∙ c.loop-at.invariant
