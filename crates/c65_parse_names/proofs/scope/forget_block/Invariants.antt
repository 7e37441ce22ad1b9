use Rattle.std.proofs.Common.{◌≡◌, length}
use Rattle.c65_parse_names.specs.Blocks.{stacks_of, without_block}
use Rattle.c65_parse_names.proofs.scope.forget_block.Given as goal

abbrev pub invariant-loop-name : goal.invariant-loop-name
invariant-loop-name l = without_block l.block.items (stacks_of l.kinds.items) ≡ without_block l.fn.block.items (stacks_of l.fn.kinds.items)

abbrev pub decreases-loop-name : goal.decreases-loop-name
decreases-loop-name l = length l.block.items
