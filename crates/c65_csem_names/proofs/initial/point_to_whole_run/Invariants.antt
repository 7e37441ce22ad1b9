use Rattle.std.proofs.Common.{◌≡◌, drop}
use Rattle.c65_csem.specs.Views.{unit_of}
use Rattle.c65_csem_names.specs.Tests
use Rattle.c65_csem_names.proofs.initial.point_to_whole_run.Given as goal

abbrev pub invariant-loop-cell : goal.invariant-loop-cell
invariant-loop-cell l = Tests.point_to_whole_run (unit_of l.parts) (drop l.cell-index l.cells) ≡ Tests.point_to_whole_run (unit_of l.parts) l.cells
