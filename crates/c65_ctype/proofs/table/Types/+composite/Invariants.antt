use Rattle.std.proofs.Common.{◌≡◌, drop}
use Rattle.c65_ctype.specs.Composite.{composite_all}
use Rattle.c65_ctype.specs.Views.{qtys_of, types_of}
use Rattle.c65_ctype.proofs.CompositeLaws.{joined}
use Rattle.c65_ctype.proofs.table.Types.+composite.Given as goal

abbrev pub invariant-composite_fn-loop-i : goal.invariant-composite_fn-loop-i
invariant-composite_fn-loop-i l = joined (qtys_of l.params.items) (composite_all (types_of l.self) (qtys_of (drop l.i l.q-items)) (qtys_of (drop l.i l.others))) ≡ composite_all (types_of l.self) (qtys_of l.q-items) (qtys_of l.others)
