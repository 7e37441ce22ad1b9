use Rattle.std.proofs.Common.{◌∙◌}
use Rattle.std.proofs.lemmas.Result.{err_from_is_err_and}
use Rattle.c65_macro.proofs.Fed.{ended_adds, ends_open, state_ends_in, memory_ends, ends_memory}
use Rattle.c65_macro.proofs.feeding.Expander.finish.Goals as goal

pub returns-in-Some-clause-faults : goal.returns-in-Some-clause-faults
returns-in-Some-clause-faults c = ends_open c.args.macros.now c.args.names.now c.args.self.now c.in-Some.pos c.in-Some.is

pub returns-in-Ok-clause-ended : goal.returns-in-Ok-clause-ended
returns-in-Ok-clause-ended c =
    ended_adds c.args.macros.now c.args.names.now c.go_on.new.names c.args.self.now c.in_ok-state.state c.go_on.new.state c.replace-begun.result c.in-Ok.begun c.args.out.now.items c.end.new.out.items c.end.result
    (record { stage = c.in_ok-state.ensures.stage; pending = c.in_ok-state.ensures.pending; sets = c.in_ok-state.ensures.sets; begun = c.replace-begun.ensures.value ∙ c.in_ok-state.ensures.same.0; fault = c.in_default.is })
    c.in-Ok.ensures.kept c.in-Ok.ensures.value c.end.ensures.given c.end.ensures.done

pub returns-in-Ok-clause-faults : goal.returns-in-Ok-clause-faults
returns-in-Ok-clause-faults c = memory_ends c.args.macros.now c.args.names.now c.args.self.now c.end.result c.end.ensures.refused

pub returns-in-Err-clause-faults : goal.returns-in-Err-clause-faults
returns-in-Err-clause-faults c =
    state_ends_in c.args.macros.now c.args.names.now c.go_on.new.names c.args.self.now c.in_ok-state.state c.go_on.new.state c.replace-begun.result c.in-Err.refusal
    (record { stage = c.in_ok-state.ensures.stage; pending = c.in_ok-state.ensures.pending; sets = c.in_ok-state.ensures.sets; begun = c.replace-begun.ensures.value ∙ c.in_ok-state.ensures.same.0; fault = c.in_default.is })
    c.in-Err.ensures.kept c.in-Err.ensures.value

pub returns-in_err-state-clause-faults : goal.returns-in_err-state-clause-faults
returns-in_err-state-clause-faults c =
    let p = err_from_is_err_and c.from_residual.result c.from_residual.ensures.1 in
    rw (p.1, p.2) (ends_memory c.args.macros.now c.args.names.now c.args.self.now)
