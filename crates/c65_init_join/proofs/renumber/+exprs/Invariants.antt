use Rattle.std.proofs.Common.{◌≡◌, ◌<◌, ℕ, get_or}
use Rattle.c65_csem.specs.Views.{typed_of}
use Rattle.c65_csem.specs.declared.expr.TExpr.{TExpr}
use Rattle.c65_init_join.specs.Numbers.{numbers_of}
use Rattle.c65_init_join.specs.Renumbered.{renumbered}
use Rattle.c65_init_join.proofs.renumber.+exprs.Given as goal

abbrev pub invariant-renumber_kind-loop-i : goal.invariant-renumber_kind-loop-i
invariant-renumber_kind-loop-i l = record {
  unvisited : goal.unvisited-renumber_kind-loop-i l;
  done : (k : ℕ) (d : TExpr) → k < l.i → typed_of (get_or l.arguments.items k d) ≡ renumbered (numbers_of l.numbers) (typed_of (get_or l.initial.arguments.items k d));
}
