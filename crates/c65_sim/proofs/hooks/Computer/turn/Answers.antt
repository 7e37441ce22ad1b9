use Rattle.std.proofs.Common.{◌≡◌, ap, sym, ◌∙◌, false}
use Rattle.std.specs.Prelude.{◌&&◌}
use Rattle.c65_mach.specs.Run.{Setting, is_hook}
use Rattle.c65_mach.specs.State.{State}
use Rattle.c65_sim.specs.Budgets.{is_too_deep}
use Rattle.c65_sim.proofs.TurnLaws.{row_done_turn, no_row_turn}
use Rattle.c65_sim.proofs.hooks.Computer.turn.Goals as goal

pub returns-clause-turn : goal.returns-clause-turn
returns-clause-turn g c =
    let s : Setting = record { sp = c.self.inside.sp; args = c.self.inside.args.items } in
    let m : State = c.self.inside.machine in
    let hook : is_hook m.pc ≡ false = ap is_hook (sym c.pc-pc.ensures) ∙ sym c.is_hook.ensures ∙ c.if-is_hook.false in
    let allowed : (c.args.guard && is_too_deep m) ≡ false = sym c.is_refused.ensures ∙ c.if-is_refused.false in
    row_done_turn c.args.guard c.args.self.now s m c.step.new.machine c.self.inside.is_at_end _ _ c.in-Ok.cycles c.self.view_is c.requires hook allowed c.in-Ok.ensures

pub returns-in_default-clause-turn : goal.returns-in_default-clause-turn
returns-in_default-clause-turn g c =
    let s : Setting = record { sp = c.self.inside.sp; args = c.self.inside.args.items } in
    let m : State = c.self.inside.machine in
    let hook : is_hook m.pc ≡ false = ap is_hook (sym c.pc-pc.ensures) ∙ sym c.is_hook.ensures ∙ c.if-is_hook.false in
    let allowed : (c.args.guard && is_too_deep m) ≡ false = sym c.is_refused.ensures ∙ c.if-is_refused.false in
    no_row_turn c.args.guard c.args.self.now s m c.step.new.machine c.self.inside.is_at_end _ _ c.in_default.field-0 c.self.view_is hook allowed c.in_default.ensures
