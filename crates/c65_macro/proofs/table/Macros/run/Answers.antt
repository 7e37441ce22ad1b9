use Rattle.std.proofs.Common.{◌∙◌, ◌++◌, List, None, subst}
use Rattle.std.proofs.lemmas.List.{append-nil}
use Rattle.std.proofs.lemmas.Result.{err_from_is_err_and}
use Rattle.c65_macro.specs.Views.{items_of}
use Rattle.c65_macro.specs.declared.state.Pending.{Pending}
use Rattle.c65_macro.specs.Machine.{Leads, outcome, stage_of, frames_of, tail_of}
use Rattle.c65_macro.proofs.HideSets.{extends_same, extends_trans}
use Rattle.c65_macro.proofs.Stepping.{leads_start}
use Rattle.c65_macro.proofs.Going.{left_at, run_on, run_into, run_back, run_stop, climb_on, climb_stop}
use Rattle.c65_macro.proofs.table.Macros.run.Goals as goal

pub loop-steps-init : goal.loop-steps-init
loop-steps-init c =
    record {
      grown = extends_same c.args.names.now;
      kept = extends_same c.args.state.now.sets;
      leads = λ nodes more x. leads_start nodes c.args.self.now c.args.names.now (stage_of nodes more c.args.state.now.level) (frames_of nodes more c.args.state.now.pending.items);
    }

pub loop-steps-preserved-in-On : goal.loop-steps-preserved-in-On
loop-steps-preserved-in-On c =
    let state = c.loop-steps.state in
    let level = state.level in
    record {
      grown = extends_trans c.args.names.now c.loop-steps.names c.step.new.names c.loop-steps.invariant.grown c.in_ok-step-in-Some.ensures.grows;
      kept = extends_trans c.args.state.now.sets state.sets c.step.new.state.sets c.loop-steps.invariant.kept c.in_ok-step-in-Some.ensures.kept;
      leads = λ nodes more x. run_on nodes c.args.self.now (λ n. outcome c.args.self.now n c.args.names.now (stage_of nodes more c.args.state.now.level) (frames_of nodes more c.args.state.now.pending.items)) c.loop-steps.names c.step.new.names (items_of nodes level.out.items) (tail_of more level.is_open) c.in-Some.item c.pop.new.self level.rest level.room level.outside
          (frames_of nodes more state.pending.items) (frames_of nodes more c.step.new.state.pending.items) (stage_of nodes more c.step.new.state.level) c.in_ok-step-in-Some.field-0 c.in-Some.ensures.taken c.in-On.is
          (c.loop-steps.invariant.leads nodes more (extends_trans state.sets c.step.new.state.sets nodes c.in_ok-step-in-Some.ensures.kept x))
          (c.in_ok-step-in-Some.ensures.value nodes more x);
    }

pub loop-steps-preserved : goal.loop-steps-preserved
loop-steps-preserved c =
    let state = c.loop-steps.state in
    let level = state.level in
    record {
      grown = extends_trans c.args.names.now c.loop-steps.names c.resume.new.names c.loop-steps.invariant.grown c.in_ok-resume-in-Some-pop.ensures.grows;
      kept = extends_trans c.args.state.now.sets state.sets c.resume.new.state.sets c.loop-steps.invariant.kept c.in_ok-resume-in-Some-pop.ensures.kept;
      leads = λ nodes more x. climb_on nodes more c.args.self.now (λ n. outcome c.args.self.now n c.args.names.now (stage_of nodes more c.args.state.now.level) (frames_of nodes more c.args.state.now.pending.items)) c.loop-steps.names c.resume.new.names (items_of nodes level.out.items) level.is_open level.rest level.room level.outside
          state.pending.items c.pop-in-None-2.new.self.items c.in-Some-pop.pending (frames_of nodes more c.resume.new.state.pending.items) (stage_of nodes more c.resume.new.state.level) c.in_ok-resume-in-Some-pop.field-0 c.if-state.false c.in-None-2.ensures.ended c.in-Some-pop.ensures.items
          (c.loop-steps.invariant.leads nodes more (extends_trans state.sets c.resume.new.state.sets nodes c.in_ok-resume-in-Some-pop.ensures.kept x))
          (c.in_ok-resume-in-Some-pop.ensures.value nodes more x);
    }

pub returns-in-Back-clause-value : goal.returns-in-Back-clause-value
returns-in-Back-clause-value c = λ nodes more x.
    let state = c.loop-steps.state in
    let level = state.level in
    run_back nodes c.args.self.now (λ n. outcome c.args.self.now n c.args.names.now (stage_of nodes more c.args.state.now.level) (frames_of nodes more c.args.state.now.pending.items)) c.loop-steps.names c.step.new.names (items_of nodes level.out.items) (tail_of more level.is_open) c.in-Some.item c.pop.new.self level.rest level.room level.outside
    (frames_of nodes more state.pending.items) (frames_of nodes more c.step.new.state.pending.items) (stage_of nodes more c.step.new.state.level) c.in_ok-step-in-Some.field-0 c.in-Some.ensures.taken c.in-Back.is
    (c.loop-steps.invariant.leads nodes more (extends_trans state.sets c.step.new.state.sets nodes c.in_ok-step-in-Some.ensures.kept x))
    (c.in_ok-step-in-Some.ensures.value nodes more x)

pub returns-in-Into-clause-value : goal.returns-in-Into-clause-value
returns-in-Into-clause-value c = λ nodes more x.
    let state = c.loop-steps.state in
    let level = state.level in
    run_into nodes c.args.self.now (λ n. outcome c.args.self.now n c.args.names.now (stage_of nodes more c.args.state.now.level) (frames_of nodes more c.args.state.now.pending.items)) c.loop-steps.names c.step.new.names (items_of nodes level.out.items) (tail_of more level.is_open) c.in-Some.item c.pop.new.self level.rest level.room level.outside
    (frames_of nodes more state.pending.items) (frames_of nodes more c.step.new.state.pending.items) (stage_of nodes more c.step.new.state.level) c.in_ok-step-in-Some.field-0 c.in-Into.begun c.in-Some.ensures.taken c.in-Into.is
    (c.loop-steps.invariant.leads nodes more (extends_trans state.sets c.step.new.state.sets nodes c.in_ok-step-in-Some.ensures.kept x))
    (c.in_ok-step-in-Some.ensures.value nodes more x)

pub returns-in_err-step-in-Some-clause-value : goal.returns-in_err-step-in-Some-clause-value
returns-in_err-step-in-Some-clause-value c = λ nodes more x.
    let state = c.loop-steps.state in
    let level = state.level in
    let p = err_from_is_err_and c.from_residual.result c.from_residual.ensures.1 in
    rw (p.1, p.2)
    (run_stop nodes c.args.self.now (λ n. outcome c.args.self.now n c.args.names.now (stage_of nodes more c.args.state.now.level) (frames_of nodes more c.args.state.now.pending.items)) c.loop-steps.names c.step.new.names (items_of nodes level.out.items) (tail_of more level.is_open) c.in-Some.item c.pop.new.self level.rest level.room level.outside
    (frames_of nodes more state.pending.items) (frames_of nodes more c.step.new.state.pending.items) (stage_of nodes more c.step.new.state.level) c.in_err-step-in-Some.field-0.0 c.in-Some.ensures.taken
    (c.loop-steps.invariant.leads nodes more (extends_trans state.sets c.step.new.state.sets nodes c.in_err-step-in-Some.ensures.kept x))
    (c.in_err-step-in-Some.ensures.value nodes more x))

pub returns-in_err-resume-in-Some-pop-clause-value : goal.returns-in_err-resume-in-Some-pop-clause-value
returns-in_err-resume-in-Some-pop-clause-value c = λ nodes more x.
    let state = c.loop-steps.state in
    let level = state.level in
    let p = err_from_is_err_and c.from_residual-in_err-resume-in-Some-pop.result c.from_residual-in_err-resume-in-Some-pop.ensures.1 in
    rw (p.1, p.2)
    (climb_stop nodes more c.args.self.now (λ n. outcome c.args.self.now n c.args.names.now (stage_of nodes more c.args.state.now.level) (frames_of nodes more c.args.state.now.pending.items)) c.loop-steps.names c.resume.new.names (items_of nodes level.out.items) level.is_open level.rest level.room level.outside
    state.pending.items c.pop-in-None-2.new.self.items c.in-Some-pop.pending (frames_of nodes more c.resume.new.state.pending.items) (stage_of nodes more c.resume.new.state.level) c.in_err-resume-in-Some-pop.field-0.0 c.if-state.false c.in-None-2.ensures.ended c.in-Some-pop.ensures.items
    (c.loop-steps.invariant.leads nodes more (extends_trans state.sets c.resume.new.state.sets nodes c.in_err-resume-in-Some-pop.ensures.kept x))
    (c.in_err-resume-in-Some-pop.ensures.value nodes more x))

pub returns-in-None-clause-value : goal.returns-in-None-clause-value
returns-in-None-clause-value c = λ nodes more x.
    let state = c.loop-steps.state in
    let level = state.level in
    left_at nodes c.args.self.now (λ n. outcome c.args.self.now n c.args.names.now (stage_of nodes more c.args.state.now.level) (frames_of nodes more c.args.state.now.pending.items)) c.loop-steps.names (items_of nodes level.out.items) (tail_of more level.is_open) level.rest c.pop.new.self level.room level.outside (frames_of nodes more state.pending.items) c.in-None.ensures.taken (c.loop-steps.invariant.leads nodes more x)

pub returns-in-None-pop-clause-value : goal.returns-in-None-pop-clause-value
returns-in-None-pop-clause-value c = λ nodes more x.
    let state = c.loop-steps.state in
    let level = state.level in
    let left = left_at nodes c.args.self.now (λ n. outcome c.args.self.now n c.args.names.now (stage_of nodes more c.args.state.now.level) (frames_of nodes more c.args.state.now.pending.items)) c.loop-steps.names (items_of nodes level.out.items) (tail_of more level.is_open) level.rest c.pop.new.self level.room level.outside (frames_of nodes more state.pending.items) c.in-None-2.ensures.taken (c.loop-steps.invariant.leads nodes more x) in
    let P : List Pending → Type 0 = λ ps. Leads nodes c.args.self.now (λ n. outcome c.args.self.now n c.args.names.now (stage_of nodes more c.args.state.now.level) (frames_of nodes more c.args.state.now.pending.items)) c.loop-steps.names (record { rest = items_of nodes c.pop.new.self ++ tail_of more level.is_open; out = items_of nodes level.out.items; room = level.room; outside = level.outside }) (frames_of nodes more ps) None in
    subst P (c.in-None-pop.ensures.items ∙ append-nil c.pop-in-None-2.new.self.items) left
