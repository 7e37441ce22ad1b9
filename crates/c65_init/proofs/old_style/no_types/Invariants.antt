use Rattle.std.proofs.Common.{◌≡◌, map, take}
use Rattle.c65_init.specs.Parameters.{old_of, not_declared}
use Rattle.c65_init.proofs.old_style.no_types.Given as goal

abbrev pub invariant-loop-name : goal.invariant-loop-name
invariant-loop-name l = map old_of l.list.items ≡ map not_declared (take l.name-index l.names)
