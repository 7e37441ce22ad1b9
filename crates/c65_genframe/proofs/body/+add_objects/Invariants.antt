use Rattle.std.proofs.Common.{◌≡◌, ◌++◌, drop}
use Rattle.c65_csem.specs.Views.{stmts_of}
use Rattle.c65_genframe.specs.Objects.{objects_in_all}
use Rattle.c65_genframe.proofs.body.+add_objects.Given as goal

abbrev pub invariant-loop-inner : goal.invariant-loop-inner
invariant-loop-inner l = l.into.items ++ objects_in_all (stmts_of (drop l.inner-index l.inner-items)) ≡ l.initial.into.items ++ objects_in_all (stmts_of l.inner-items)
