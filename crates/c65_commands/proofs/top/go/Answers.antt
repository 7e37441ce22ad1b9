use Rattle.std.proofs.Common.{◌∙◌}
use Rattle.c65_commands.specs.Outside.{files_side, outside}
use Rattle.c65_commands.proofs.GoLaws.{goes_none, goes_stop, goes_run}
use Rattle.c65_commands.proofs.top.go.Goals as goal

pub returns-in-Err : goal.returns-in-Err
returns-in-Err g c =
    goes_none c.args.command.now
    (outside (g.F.Files.contents c.args.files.now) (g.F.Files.faults c.args.files.now) (g.F.Files.write_faults c.args.files.now) (g.F.Files.misses c.args.files.now)
    (g.I.Source.left c.args.input.now) (g.I.Source.faults c.args.input.now) (g.O.Sink.written c.args.out.now) (g.O.Sink.faults c.args.out.now))
    c.args.made.now.code c.args.made.now.image c.requires.code c.requires.image

pub returns-in-Err-make_image : goal.returns-in-Err-make_image
returns-in-Err-make_image g c =
    goes_stop c.args.command.now
    (files_side (g.F.Files.contents c.args.files.now) (g.F.Files.faults c.args.files.now) (g.F.Files.write_faults c.args.files.now) (g.F.Files.misses c.args.files.now))
    (files_side (g.F.Files.contents c.make_image.new.files) (g.F.Files.faults c.make_image.new.files) (g.F.Files.write_faults c.make_image.new.files) (g.F.Files.misses c.make_image.new.files))
    (g.I.Source.left c.args.input.now) (g.O.Sink.written c.args.out.now) (g.I.Source.faults c.args.input.now) (g.O.Sink.faults c.args.out.now)
    c.make_image.new.made.code c.make_image.new.made.image c.in-Err-make_image.refusal
    (c.in-Err-make_image.ensures.kept ∙ c.requires.image) c.in-Err-make_image.ensures.compiled c.in-Err-make_image.ensures.sources

pub returns : goal.returns
returns g c =
    goes_run c.args.command.now c.in-Ok.plan
    (files_side (g.F.Files.contents c.args.files.now) (g.F.Files.faults c.args.files.now) (g.F.Files.write_faults c.args.files.now) (g.F.Files.misses c.args.files.now))
    (files_side (g.F.Files.contents c.make_image.new.files) (g.F.Files.faults c.make_image.new.files) (g.F.Files.write_faults c.make_image.new.files) (g.F.Files.misses c.make_image.new.files))
    (g.I.Source.left c.args.input.now) (g.I.Source.left c.run-answer.new.input) (g.O.Sink.written c.args.out.now) (g.O.Sink.written c.run-answer.new.out)
    (g.I.Source.faults c.args.input.now) (g.I.Source.faults c.run-answer.new.input) (g.O.Sink.faults c.args.out.now) (g.O.Sink.faults c.run-answer.new.out)
    c.make_image.new.made.code c.in-Ok-make_image.image c.run-answer.result
    c.in-Ok.ensures.ok c.in-Ok-make_image.ensures.compiled c.in-Ok-make_image.ensures.sources c.run-answer.ensures.run c.run-answer.ensures.read c.run-answer.ensures.write
