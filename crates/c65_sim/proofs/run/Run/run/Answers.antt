use Rattle.std.proofs.Common.{◌≡◌, Ok, Err, ap, sym, refl, ◌∙◌}
use Rattle.c65_sim.specs.Runs.{answer_of}
use Rattle.c65_sim.proofs.RunLaws.{finished}
use Rattle.c65_sim.proofs.run.Run.run.Goals as goal

pub returns-in-Ok-clause-run : goal.returns-in-Ok-clause-run
returns-in-Ok-clause-run g c =
    let answers : answer_of c.args.budget c.go_on-leg.new.computer.machine.pc c.go_on-leg.result.stop ≡ Ok c.in-Ok.status =
    ap (λ p. answer_of c.args.budget p c.go_on-leg.result.stop) (sym c.pc.ensures) ∙ sym c.answer.ensures ∙ c.in-Ok.is in
    finished c.args.budget c.args.guard c.args.self.now c.self.inside.computer c.reopen.new.self c.go_on-leg.new.computer c.self.inside.count _ c.go_on-leg.result.rows c.self.inside.differed c.either-self-inside.result c.go_on-leg.result.differed c.self.inside.status
    _ _ _ _ _ _ (Ok c.in-Ok.status) c.self.view_is c.in_default.is c.reopen.ensures c.go_on-leg.ensures.leg answers refl c.either-self-inside.ensures refl

pub returns-in-Err-clause-run : goal.returns-in-Err-clause-run
returns-in-Err-clause-run g c =
    let answers : answer_of c.args.budget c.go_on-leg.new.computer.machine.pc c.go_on-leg.result.stop ≡ Err c.in-Err.refusal =
    ap (λ p. answer_of c.args.budget p c.go_on-leg.result.stop) (sym c.pc.ensures) ∙ sym c.answer.ensures ∙ c.in-Err.is in
    finished c.args.budget c.args.guard c.args.self.now c.self.inside.computer c.reopen.new.self c.go_on-leg.new.computer c.self.inside.count _ c.go_on-leg.result.rows c.self.inside.differed c.either-self-inside.result c.go_on-leg.result.differed c.self.inside.status
    _ _ _ _ _ _ (Err c.in-Err.refusal) c.self.view_is c.in_default.is c.reopen.ensures c.go_on-leg.ensures.leg answers refl c.either-self-inside.ensures c.in_default.is
