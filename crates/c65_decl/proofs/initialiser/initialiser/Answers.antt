use Rattle.std.proofs.Common.{◌≡◌, Ok, ap, ◌∙◌, refl}
use Rattle.std.proofs.lemmas.Result.{err_from_is_err_and}
use Rattle.c65_parse.specs.Reading.{rest_of, blocks_of}
use Rattle.c65_parse_frames.specs.declared.list.Listed.{Listed}
use Rattle.c65_parse_frames.specs.Views.{lists_of, listed_of}
use Rattle.c65_decl.specs.Initialisers.{initialiser_run, initialiser_next, initialiser_step}
use Rattle.c65_decl.proofs.Turns.{turn, refused}
use Rattle.c65_decl.proofs.initialiser.initialiser.Goals as goal

pub loop-step-preserved : goal.loop-step-preserved
loop-step-preserved c =
    let l = c.loop-step in
    turn (λ us. initialiser_run 256 us (lists_of l.lists.items) (blocks_of l.parser) (rest_of l.parser)) (initialiser_step 256 (lists_of l.lists.items) (blocks_of l.parser) (rest_of l.parser)) (λ us. initialiser_next (initialiser_run 256 us)) c.args.unit.now l._step-index _ _ (λ u rest. refl) c.loop-step-test.true l.invariant
    (c.in_ok-read.ensures ∙ ap (λ (m : Listed). Ok (listed_of m, rest_of c.step.new.parser, blocks_of c.step.new.parser)) c.in-Open.is)

pub returns-in_err-read : goal.returns-in_err-read
returns-in_err-read c =
    let l = c.loop-step in
    let p = err_from_is_err_and c.from_residual.result c.from_residual.ensures.1 in
    rw (p.1, p.2) (refused (λ us. initialiser_run 256 us (lists_of l.lists.items) (blocks_of l.parser) (rest_of l.parser)) (initialiser_step 256 (lists_of l.lists.items) (blocks_of l.parser) (rest_of l.parser)) (λ us. initialiser_next (initialiser_run 256 us)) c.args.unit.now l._step-index _ _ (λ u rest. refl) c.loop-step-test.true l.invariant c.in_err-read.ensures)
