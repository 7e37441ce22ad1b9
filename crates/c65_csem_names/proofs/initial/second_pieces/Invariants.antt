use Rattle.std.proofs.Common.{◌≡◌, ◌+◌, ◌≤◌, drop}
use Rattle.c65_csem_names.specs.Initial
use Rattle.c65_csem_names.proofs.initial.second_pieces.Given as goal

abbrev pub invariant-loop-cell : goal.invariant-loop-cell
invariant-loop-cell l = (l.count + Initial.second_pieces (drop l.cell-index l.cells) ≡ Initial.second_pieces l.cells) × (l.count ≤ l.cell-index)
