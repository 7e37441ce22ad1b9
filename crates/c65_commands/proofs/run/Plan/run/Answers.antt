use Rattle.std.proofs.Common.{◌≡◌}
use Rattle.c65_commands.specs.Setups.{Setup}
use Rattle.c65_commands.proofs.RunLaws.{image_runs}
use Rattle.c65_commands.proofs.run.Plan.run.Goals as goal

pub returns-clause-run : goal.returns-clause-run
returns-clause-run g c =
    let is = c.self.view_is in
    let view : ◌≡◌ {A = Setup} c.args.self.now (record { budget = c.self.inside.budget; guard = c.self.inside.guard; args = c.self.inside.args.items }) = cc in
    image_runs c.args.self.now c.self.inside.budget c.self.inside.guard c.self.inside.args.items c.deref.result.now c.args.image.now c.in-Ok.run' c.run.new.self
    (g.I.Source.left c.args.input.now) (g.I.Source.left c.run.new.input) (g.O.Sink.written c.args.out.now) (g.O.Sink.written c.run.new.out) c.run.result
    view c.deref.ensures.value c.in-Ok.ensures c.run.ensures.run
