use Rattle.std.proofs.Common.{◌≡◌, drop, map, ◌++◌}
use Rattle.c65_csem_plain.specs.Tests
use Rattle.c65_csem_plain.proofs.funcs.are_labels.Given as goal

abbrev pub invariant-loop-label : goal.invariant-loop-label
invariant-loop-label l = Tests.are_labels (drop l.label-index l.labels) ≡ Tests.are_labels l.labels
