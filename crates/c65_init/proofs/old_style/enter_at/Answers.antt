use Rattle.std.proofs.Common.{rules}
use Rattle.c65_init.proofs.OldLaws.{old_given}
use Rattle.c65_init.proofs.old_style.enter_at.Goals as goal

pub returns : goal.returns
returns c = old_given c.args.list.now.items c.args.at c.in-Some.old.now c.args.ty c.args.is_register c.args.pos (search rules) (search rules) (search rules)
