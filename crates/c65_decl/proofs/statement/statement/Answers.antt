use Rattle.std.proofs.Common.{◌≡◌, Ok, ap, ◌∙◌, refl}
use Rattle.std.proofs.lemmas.Result.{err_from_is_err_and}
use Rattle.c65_parse.specs.Reading.{rest_of, blocks_of}
use Rattle.c65_parse_frames.specs.declared.frame.Reached.{Reached}
use Rattle.c65_parse_frames.specs.Views.{stack_of, reached_of}
use Rattle.c65_decl.specs.Statements.{statement_run, statement_next, statement_step}
use Rattle.c65_decl.proofs.Turns.{turn, refused}
use Rattle.c65_decl.proofs.statement.statement.Goals as goal

pub loop-step-preserved : goal.loop-step-preserved
loop-step-preserved c =
    let l = c.loop-step in
    turn (λ us. statement_run 256 c.args.unit.now us (stack_of l.frames.items) (blocks_of l.parser) (rest_of l.parser)) (statement_step 256 c.args.unit.now (stack_of l.frames.items) (blocks_of l.parser) (rest_of l.parser)) (λ us. statement_next (statement_run 256 c.args.unit.now us)) c.args.unit.now l._step-index _ _ (λ u rest. refl) c.loop-step-test.true l.invariant
    (c.in_ok-read.ensures ∙ ap (λ (m : Reached). Ok (reached_of m, rest_of c.step.new.parser, blocks_of c.step.new.parser)) c.in-Need.is)

pub returns-in_err-read : goal.returns-in_err-read
returns-in_err-read c =
    let l = c.loop-step in
    let p = err_from_is_err_and c.from_residual.result c.from_residual.ensures.1 in
    rw (p.1, p.2) (refused (λ us. statement_run 256 c.args.unit.now us (stack_of l.frames.items) (blocks_of l.parser) (rest_of l.parser)) (statement_step 256 c.args.unit.now (stack_of l.frames.items) (blocks_of l.parser) (rest_of l.parser)) (λ us. statement_next (statement_run 256 c.args.unit.now us)) c.args.unit.now l._step-index _ _ (λ u rest. refl) c.loop-step-test.true l.invariant c.in_err-read.ensures)
