use Rattle.c65_base.specs.Lines.{line_of}
use Rattle.c65_driver.proofs.PartLaws.{reported}
use Rattle.c65_driver.proofs.top.tool.Goals as goal

pub returns-in-Err-clause-report : goal.returns-in-Err-clause-report
returns-in-Err-clause-report g c =
    reported (line_of c.in-Err.refusal) (g.E.Sink.faults c.args.err.now) (g.E.Sink.faults c.write_line.new.sink)
    (g.E.Sink.written c.args.err.now) (g.E.Sink.written c.write_line.new.sink) c.write_line.result c.write_line.ensures.bytes c.write_line.ensures.cause
