use Rattle.std.proofs.Common.{◌≡◌, ◌+◌, ◌-◌, length}
use Rattle.c65_parse_names.specs.Blocks.{stacks_of}
use Rattle.c65_parse_names.proofs.scope.grow.Given as goal

abbrev pub invariant-loop-alloc : goal.invariant-loop-alloc
invariant-loop-alloc l = stacks_of l.kinds.items ≡ stacks_of l.fn.kinds.items

abbrev pub decreases-loop-alloc : goal.decreases-loop-alloc
decreases-loop-alloc l = l.at + 1 - length l.kinds.items
