use Rattle.std.proofs.Common.{arith}
use Rattle.c65_know.proofs.Passes.{passed_straight}
use Rattle.c65_know.proofs.index.renew_by_index.Goals as goal

pub settle-requires-clause-passed : goal.settle-requires-clause-passed
settle-requires-clause-passed c = passed_straight c.args.lines.now c.args.notes.now c.renew_to-way.new.notes c.args.from c.args.to c.requires.order c.requires.place (omega arith) c.requires.straight c.renew_to-way.ensures.first c.renew_to-way.ensures.rest c.requires.passed
