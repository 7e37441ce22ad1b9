use Rattle.std.proofs.Common.{◌≡◌, drop, map, ◌++◌}
use Rattle.c65_csem_plain.specs.declared.initial.Awaited.TheVariants.{Any}
use Rattle.c65_csem_plain.specs.Tests
use Rattle.c65_csem_plain.proofs.initial.are_paired.Given as goal

abbrev pub invariant-loop-cell : goal.invariant-loop-cell
invariant-loop-cell l = Tests.are_paired l.awaited (drop l.cell-index l.cells) ≡ Tests.are_paired Any l.cells
