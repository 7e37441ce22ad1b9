use Rattle.c65_commands.specs.Outside.{files_side, outside}
use Rattle.c65_commands.proofs.ImageLaws.{runs_none, runs_stop, runs_run}
use Rattle.c65_commands.proofs.top.run_image.Goals as goal

pub returns-in-Err : goal.returns-in-Err
returns-in-Err g c =
    runs_none c.args.command.now
    (outside (g.F.Files.contents c.args.files.now) (g.F.Files.faults c.args.files.now) (g.F.Files.write_faults c.args.files.now) (g.F.Files.misses c.args.files.now)
    (g.I.Source.left c.args.input.now) (g.I.Source.faults c.args.input.now) (g.O.Sink.written c.args.out.now) (g.O.Sink.faults c.args.out.now))
    c.args.made.now.code c.args.made.now.image c.requires.code c.requires.image

pub returns-in-Err-spelled_image : goal.returns-in-Err-spelled_image
returns-in-Err-spelled_image g c =
    let reads = c.in-Err-spelled_image.ensures in
    runs_stop c.args.command.now c.image_path.result.now
    (files_side (g.F.Files.contents c.args.files.now) (g.F.Files.faults c.args.files.now) (g.F.Files.write_faults c.args.files.now) (g.F.Files.misses c.args.files.now))
    (files_side (g.F.Files.contents c.spelled_image.new.files) (g.F.Files.faults c.spelled_image.new.files) (g.F.Files.write_faults c.spelled_image.new.files) (g.F.Files.misses c.spelled_image.new.files))
    (g.I.Source.left c.args.input.now) (g.O.Sink.written c.args.out.now) (g.I.Source.faults c.args.input.now) (g.O.Sink.faults c.args.out.now)
    c.args.made.now.code c.args.made.now.image c.in-Err-spelled_image.refusal
    c.requires.code c.requires.image c.image_path.ensures
    (record { told = reads.told; some = reads.some; read = reads.read; missing = reads.missing; same = reads.same; writes = reads.writes })

pub returns : goal.returns
returns g c =
    let reads = c.in-Ok-spelled_image.ensures in
    runs_run c.args.command.now c.in-Ok.plan c.image_path.result.now
    (files_side (g.F.Files.contents c.args.files.now) (g.F.Files.faults c.args.files.now) (g.F.Files.write_faults c.args.files.now) (g.F.Files.misses c.args.files.now))
    (files_side (g.F.Files.contents c.spelled_image.new.files) (g.F.Files.faults c.spelled_image.new.files) (g.F.Files.write_faults c.spelled_image.new.files) (g.F.Files.misses c.spelled_image.new.files))
    (g.I.Source.left c.args.input.now) (g.I.Source.left c.run-answer.new.input) (g.O.Sink.written c.args.out.now) (g.O.Sink.written c.run-answer.new.out)
    (g.I.Source.faults c.args.input.now) (g.I.Source.faults c.run-answer.new.input) (g.O.Sink.faults c.args.out.now) (g.O.Sink.faults c.run-answer.new.out)
    c.args.made.now.code c.in-Ok-spelled_image.image c.run-answer.result
    c.requires.code c.in-Ok.ensures.ok c.image_path.ensures
    (record { told = reads.told; some = reads.some; read = reads.read; missing = reads.missing; same = reads.same; writes = reads.writes })
    c.run-answer.ensures.run c.run-answer.ensures.read c.run-answer.ensures.write
