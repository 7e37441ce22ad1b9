use Rattle.std.proofs.Common.{[], sym}
use Rattle.std.proofs.lemmas.List.{append-nil}
use Rattle.std.proofs.lemmas.Result.{err_from_is_err_and}
use Rattle.c65_macro.proofs.Fed.{fed_held, held_adds, held_rejects, rejected_memory}
use Rattle.c65_macro.proofs.feeding.Expander.feed.Goals as goal

pub returns-then-is_waiting-clause-fed : goal.returns-then-is_waiting-clause-fed
returns-then-is_waiting-clause-fed c = ([], sym (append-nil c.args.out.now.items), fed_held c.args.macros.now c.args.names.now c.args.self.now c.args.line.items c.hold.new.self (record { held = c.in_ok-hold.ensures.held; room = c.in_ok-hold.ensures.same.0; sets = c.in_ok-hold.ensures.same.1; begun = c.in_ok-hold.ensures.same.2; fault = c.in_ok-hold.ensures.same.3 }))

pub returns-clause-fed : goal.returns-clause-fed
returns-clause-fed c = held_adds c.args.macros.now c.args.names.now c.go_on.new.names c.args.self.now c.hold.new.self c.go_on.new.self c.args.line.items c.args.out.now.items c.go_on.new.out.items c.go_on.result (record { held = c.in_ok-hold.ensures.held; room = c.in_ok-hold.ensures.same.0; sets = c.in_ok-hold.ensures.same.1; begun = c.in_ok-hold.ensures.same.2; fault = c.in_ok-hold.ensures.same.3 }) c.go_on.ensures.fed

pub returns-clause-faults : goal.returns-clause-faults
returns-clause-faults c = held_rejects c.args.macros.now c.args.names.now c.args.self.now c.hold.new.self c.args.line.items c.go_on.result (record { held = c.in_ok-hold.ensures.held; room = c.in_ok-hold.ensures.same.0; sets = c.in_ok-hold.ensures.same.1; begun = c.in_ok-hold.ensures.same.2; fault = c.in_ok-hold.ensures.same.3 }) c.go_on.ensures.faults

pub returns-in_err-hold-clause-faults : goal.returns-in_err-hold-clause-faults
returns-in_err-hold-clause-faults c =
    let p = err_from_is_err_and c.from_residual.result c.from_residual.ensures.1 in
    rw (p.1, p.2) (rejected_memory c.args.macros.now c.args.names.now c.args.self.now c.args.line.items)
