use Rattle.std.proofs.Common.{◌∙◌, []}
use Rattle.std.proofs.lemmas.Result.{err_from_is_err_and}
use Rattle.c65_macro.proofs.Fed.{kept_adds, fault_adds, told_rejects, memory_rejects, rejected_memory}
use Rattle.c65_macro.proofs.feeding.Expander.go_on.Goals as goal

pub returns-in-Ok-clause-fed : goal.returns-in-Ok-clause-fed
returns-in-Ok-clause-fed c =
    kept_adds c.args.macros.now c.args.names.now c.go_on.new.names c.args.self.now c.keep.new.self c.in_ok-state.state c.go_on.new.state c.replace-begun.result c.in-Ok.begun c.args.out.now.items c.keep.new.out.items c.state.new.self.fault c.keep.result
    (record { stage = c.in_ok-state.ensures.stage; pending = c.in_ok-state.ensures.pending; sets = c.in_ok-state.ensures.sets; begun = c.replace-begun.ensures.value ∙ c.in_ok-state.ensures.same.0; fault = c.requires })
    c.in-Ok.ensures.kept c.in-Ok.ensures.value (c.in_ok-state.ensures.same.1 ∙ c.requires) c.keep.ensures.given c.keep.ensures.lowest c.keep.ensures.holds

pub returns-in-Ok-clause-faults : goal.returns-in-Ok-clause-faults
returns-in-Ok-clause-faults c = memory_rejects c.args.macros.now c.args.names.now c.args.self.now [] c.keep.result c.keep.ensures.refused

pub returns-in-Err-clause-fed : goal.returns-in-Err-clause-fed
returns-in-Err-clause-fed c =
    fault_adds c.args.macros.now c.args.names.now c.go_on.new.names c.args.self.now c.stop.new.self c.in_ok-state.state c.go_on.new.state c.replace-begun.result c.args.out.now.items c.in-Err.refusal c.stop.result
    (record { stage = c.in_ok-state.ensures.stage; pending = c.in_ok-state.ensures.pending; sets = c.in_ok-state.ensures.sets; begun = c.replace-begun.ensures.value ∙ c.in_ok-state.ensures.same.0; fault = c.requires })
    c.in-Err.ensures.kept c.in-Err.ensures.value c.stop.ensures.fault c.stop.ensures.sets

pub returns-in-Err-clause-faults : goal.returns-in-Err-clause-faults
returns-in-Err-clause-faults c =
    told_rejects c.args.macros.now c.args.names.now c.go_on.new.names c.args.self.now c.in_ok-state.state c.go_on.new.state c.replace-begun.result c.in-Err.refusal c.stop.result
    (record { stage = c.in_ok-state.ensures.stage; pending = c.in_ok-state.ensures.pending; sets = c.in_ok-state.ensures.sets; begun = c.replace-begun.ensures.value ∙ c.in_ok-state.ensures.same.0; fault = c.requires })
    c.in-Err.ensures.kept c.in-Err.ensures.value c.stop.ensures.told

pub returns-in_err-state-clause-faults : goal.returns-in_err-state-clause-faults
returns-in_err-state-clause-faults c =
    let p = err_from_is_err_and c.from_residual.result c.from_residual.ensures.1 in
    rw (p.1, p.2) (rejected_memory c.args.macros.now c.args.names.now c.args.self.now [])
