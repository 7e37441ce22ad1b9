use Rattle.std.proofs.Common.{◌≡◌, ℕ, ◌<◌, get_or}
use Rattle.c65_csem.specs.declared.expr.TExpr.{TExpr}
use Rattle.c65_csem.specs.Views.{typed_of}
use Rattle.c65_fold.specs.Folded.{folded}
use Rattle.c65_fold.proofs.folding.+fold.Given as goal

abbrev pub invariant-fold_parts-loop-i : goal.invariant-fold_parts-loop-i
invariant-fold_parts-loop-i l = record {
  unvisited : goal.unvisited-fold_parts-loop-i l;
  done : (k : ℕ) (d : TExpr) → k < l.i → typed_of (get_or l.arguments.items k d) ≡ folded (typed_of (get_or l.initial.arguments.items k d));
}
