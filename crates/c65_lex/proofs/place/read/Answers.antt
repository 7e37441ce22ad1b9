use Rattle.std.proofs.Common.{arith, refl, sym, ◌∙◌}
use Rattle.c65_lex.proofs.Joints.{ahead_step, ahead_none, ahead_last}
use Rattle.c65_lex.proofs.place.read.Goals as goal

pub returns-then-place-text : goal.returns-then-place-text
returns-then-place-text c =
    sym c.settle-place.ensures.same ∙ ahead_step c.args.text.now c.settle-place.result _ (omega arith) c.settle-place.ensures.settled refl c.line_after.ensures c.column_after.ensures

pub returns-then-place-eq0 : goal.returns-then-place-eq0
returns-then-place-eq0 c =
    sym c.settle-place.ensures.same ∙ ahead_none c.args.text.now c.settle-place.result c.settle-place.result (omega arith) (omega arith)

pub returns : goal.returns
returns c =
    sym c.settle-place.ensures.same ∙ ahead_last c.args.text.now c.settle-place.result _ (omega arith) (λ e. omega arith) refl refl
