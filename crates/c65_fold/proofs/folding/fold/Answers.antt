use Rattle.std.proofs.Common.{subst, sym}
use Rattle.c65_csem.specs.Typed.{IsTyped, IsGiven}
use Rattle.c65_csem.specs.Views.{typed_of}
use Rattle.c65_fold.specs.Folded.{IsFolded}
use Rattle.c65_fold.proofs.FoldLaws.{done}
use Rattle.c65_fold.proofs.TypedLaws.{typed, given}
use Rattle.c65_fold.proofs.folding.fold.Goals as goal

pub returns-clause-done : goal.returns-clause-done
returns-clause-done c = subst IsFolded (sym c.fold_tree.ensures) (done (typed_of c.args.expr.now))

pub returns-clause-well_typed : goal.returns-clause-well_typed
returns-clause-well_typed c = λ u w. subst (IsTyped u) (sym c.fold_tree.ensures) (typed u (typed_of c.args.expr.now) w)

pub returns-clause-well_given : goal.returns-clause-well_given
returns-clause-well_given c = λ u w. subst (IsGiven u) (sym c.fold_tree.ensures) (given u (typed_of c.args.expr.now) w)
