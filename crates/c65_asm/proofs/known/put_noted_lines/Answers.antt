use Rattle.std.proofs.Common.{◌∙◌}
use Rattle.c65_asm.proofs.KnownLaws.{noted_more}
use Rattle.c65_asm.proofs.known.put_noted_lines.Goals as goal

pub loop-at-preserved : goal.loop-at-preserved
loop-at-preserved c = noted_more c.args.symbols.now c.loop-at.out.items c.put_noted.new.out.items c.args.lines.now c.args.notes.now c.loop-at.at _ _ c.loop-at-test.true c.requires c.in_ok-put_noted.ensures ∙ c.loop-at.invariant
