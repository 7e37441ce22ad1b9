use Rattle.std.proofs.Common.{true, false, ap, sym, ◌∙◌}
use Rattle.c65_optflow.proofs.Dropped.{used_more}
use Rattle.c65_optflow.proofs.drop.used.Goals as goal
use Rattle.c65_optflow.proofs.drop.used.Goals.{then-not-is_unused+in_ok-push, else-not-is_unused}

pub loop-at-preserved : goal.loop-at-preserved
loop-at-preserved c =
    let said = c.is_unused.ensures c.args.lines.now c.in_ok-labels.ensures in
    elim c.if-not-is_unused.branch [
      | then-not-is_unused+in_ok-push w ↦
          used_more c.args.lines.now c.loop-at.used.items c.if-not-is_unused.used.items c.loop-at.at _ false c.loop-at-test.true (sym w.if-not-is_unused.true ∙ said) (ap (λ v. v.items) w.used-is ∙ w.in_ok-push.ensures.items) c.loop-at.invariant
      | else-not-is_unused w ↦
          used_more c.args.lines.now c.loop-at.used.items c.if-not-is_unused.used.items c.loop-at.at _ true c.loop-at-test.true (sym w.if-not-is_unused.false ∙ said) (ap (λ v. v.items) w.used-is) c.loop-at.invariant
    ]
