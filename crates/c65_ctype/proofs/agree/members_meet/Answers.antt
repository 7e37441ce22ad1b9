use Rattle.std.proofs.Common.{◌∙◌}
use Rattle.c65_ctype.proofs.MeetLaws.{members_end}
use Rattle.c65_ctype.proofs.agree.members_meet.Goals as goal

pub returns : goal.returns
returns c = members_end c.loop-i.pairs.items c.args.a.now c.args.b.now c.loop-i.i c.loop-i-test.false c.loop-i.auto.i-end c.loop-i.invariant.within ∙ c.loop-i.invariant.so_far
