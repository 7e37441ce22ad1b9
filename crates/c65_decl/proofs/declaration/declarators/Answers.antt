use Rattle.std.proofs.Common.{◌≡◌, Ok, ap, ◌∙◌, refl}
use Rattle.std.proofs.lemmas.Result.{err_from_is_err_and}
use Rattle.c65_tree.specs.View.{declarator_of}
use Rattle.c65_parse.specs.Reading.{rest_of, blocks_of}
use Rattle.c65_decl.specs.declared.declaration.Declared.{Declared}
use Rattle.c65_decl.specs.Decls.{declared_of, declarators_of, declarators_run, declarators_next, declarators_step}
use Rattle.c65_decl.proofs.Turns.{turn, refused}
use Rattle.c65_decl.proofs.declaration.declarators.Goals as goal

pub loop-step-preserved : goal.loop-step-preserved
loop-step-preserved c =
    let l = c.loop-step in
    turn (λ us. declarators_run 256 c.args.unit.now c.args.naming us (declarators_of l.before.items) (declarator_of l.declarator) (blocks_of l.parser) (rest_of l.parser)) (declarators_step 256 c.args.unit.now c.args.naming (declarators_of l.before.items) (declarator_of l.declarator) (blocks_of l.parser) (rest_of l.parser)) (λ us. declarators_next (declarators_run 256 c.args.unit.now c.args.naming us)) c.args.unit.now l._step-index _ _ (λ u rest. refl) c.loop-step-test.true l.invariant
    (c.in_ok-read.ensures ∙ ap (λ (m : Declared). Ok (declared_of m, rest_of c.step.new.parser, blocks_of c.step.new.parser)) c.in-More.is)

pub returns-in_err-read : goal.returns-in_err-read
returns-in_err-read c =
    let l = c.loop-step in
    let p = err_from_is_err_and c.from_residual.result c.from_residual.ensures.1 in
    rw (p.1, p.2) (refused (λ us. declarators_run 256 c.args.unit.now c.args.naming us (declarators_of l.before.items) (declarator_of l.declarator) (blocks_of l.parser) (rest_of l.parser)) (declarators_step 256 c.args.unit.now c.args.naming (declarators_of l.before.items) (declarator_of l.declarator) (blocks_of l.parser) (rest_of l.parser)) (λ us. declarators_next (declarators_run 256 c.args.unit.now c.args.naming us)) c.args.unit.now l._step-index _ _ (λ u rest. refl) c.loop-step-test.true l.invariant c.in_err-read.ensures)
