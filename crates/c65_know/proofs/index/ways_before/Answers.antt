use Rattle.std.proofs.Common.{◌∙◌, nat_eq, ap, arith}
use Rattle.std.specs.Map.{lookup}
use Rattle.c65_know.proofs.IndexLaws.{index_on}
use Rattle.c65_know.proofs.index.ways_before.Goals as goal

pub loop-at-preserved : goal.loop-at-preserved
loop-at-preserved c = λ l. ap (lookup (nat_eq l)) c.in_ok-lead.ensures ∙ index_on c.args.lines.now c.args.notes.now c.loop-at.at _ _ c.loop-at.ways.entries (omega arith) c.requires.lengths c.loop-at.invariant l
