use Rattle.std.proofs.Common.{ap, ◌∙◌}
use Rattle.c65_parse_names.specs.Blocks.{stacks_of}
use Rattle.c65_parse_names.proofs.Blocks.{grown}
use Rattle.c65_parse_names.proofs.scope.grow.Goals as goal

pub loop-alloc-preserved : goal.loop-alloc-preserved
loop-alloc-preserved c = ap stacks_of c.in_ok-push.ensures.items ∙ grown c.loop-alloc.kinds.items c.new-none.result c.new-none.ensures.items ∙ c.loop-alloc.invariant
