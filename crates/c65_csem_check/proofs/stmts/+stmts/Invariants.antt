use Rattle.std.proofs.Common.{◌≡◌, ◌≤◌, ◌+◌, ◌++◌, min, drop, length, map, nat_le}
use Rattle.c65_csem.specs.Views.{typed_of, nodes_of, stmts_of, unit_of}
use Rattle.c65_ctype.specs.Views.{qty_of}
use Rattle.c65_csem_check.specs.Contexts.{context}
use Rattle.c65_csem_check.specs.Statements as b
use Rattle.c65_csem_check.proofs.stmts.+stmts.Given as goal

abbrev pub invariant-are_stmts-loop-stmt : goal.invariant-are_stmts-loop-stmt
invariant-are_stmts-loop-stmt l = b.are_stmts (unit_of l.parts) (context l.labels (qty_of l.gives) l.at) (stmts_of (drop l.stmt-index l.stmts)) ≡ b.are_stmts (unit_of l.parts) (context l.labels (qty_of l.gives) l.at) (stmts_of l.stmts)
