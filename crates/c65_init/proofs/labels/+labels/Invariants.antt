use Rattle.std.proofs.Common.{◌≡◌, ◌++◌, take}
use Rattle.c65_tree.specs.Trees.{no_stmts}
use Rattle.c65_tree.specs.View.{stmts_from}
use Rattle.c65_init.specs.Labels.{labels_in}
use Rattle.c65_init.proofs.labels.+labels.Given as goal

abbrev pub invariant-add_labels_in-loop-stmt : goal.invariant-add_labels_in-loop-stmt
invariant-add_labels_in-loop-stmt l = l.labels.items ≡ l.fn.labels.items ++ labels_in (stmts_from no_stmts (take l.stmt-index l.stmts))
