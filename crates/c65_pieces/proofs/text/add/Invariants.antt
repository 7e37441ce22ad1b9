use Rattle.std.proofs.Common.{◌≡◌, ◌≤◌, ◌+◌, ◌++◌, ℕ, List, length, drop, vec_len, vec_capacity}
use Rattle.c65_pieces.specs.Settled.{as_cells}
use Rattle.c65_pieces.specs.Given.{cells_from, pending_bytes, AreSorted}
use Rattle.c65_pieces.proofs.text.add.Given as goal

abbrev pub invariant-loop-byte : goal.invariant-loop-byte
invariant-loop-byte l = record {
  joined : (more : List ℕ) → as_cells l.text.settled.items ++ cells_from l.text.edge (drop l.byte-index l.piece ++ more) ≡ as_cells l.fn.text.settled.items ++ cells_from l.fn.text.edge (l.piece ++ more);
  length_is : vec_len l.text.settled + length (pending_bytes l.text.edge.pending) ≤ (vec_len l.fn.text.settled + length (pending_bytes l.fn.text.edge.pending)) + l.byte-index;
  capacity_is : vec_capacity l.text.settled ≡ vec_capacity l.fn.text.settled;
  sorted : AreSorted l.fn.text.settled.items l.fn.text.ready l.fn.text.long l.fn.text.edge.column → AreSorted l.text.settled.items l.text.ready l.text.long l.text.edge.column;
}
