use Rattle.std.proofs.Common.{◌≡◌, ◌+◌, ◌≤◌, drop}
use Rattle.c65_csem_names.specs.Initial
use Rattle.c65_csem_names.proofs.initial.first_pieces.Given as goal

abbrev pub invariant-loop-cell : goal.invariant-loop-cell
invariant-loop-cell l = (l.count + Initial.first_pieces (drop l.cell-index l.cells) ≡ Initial.first_pieces l.cells) × (l.count ≤ l.cell-index)
