use Rattle.c65_commands.specs.Outside.{files_side}
use Rattle.c65_commands.proofs.DepthLaws.{depths_stop, depths_short, depths_long, depths_wrote}
use Rattle.c65_commands.proofs.depth.depth.Goals as goal

pub returns-in-Err : goal.returns-in-Err
returns-in-Err g c =
    depths_stop c.args.command.now
    (files_side (g.F.Files.contents c.args.files.now) (g.F.Files.faults c.args.files.now) (g.F.Files.write_faults c.args.files.now) (g.F.Files.misses c.args.files.now))
    (files_side (g.F.Files.contents c.joined_files.new.files) (g.F.Files.faults c.joined_files.new.files) (g.F.Files.write_faults c.joined_files.new.files) (g.F.Files.misses c.joined_files.new.files))
    (g.O.Sink.written c.args.out.now) (g.O.Sink.faults c.args.out.now) c.in-Err.refusal c.in-Err.ensures

pub returns-in-Err-size_of : goal.returns-in-Err-size_of
returns-in-Err-size_of g c =
    depths_short c.args.command.now
    (files_side (g.F.Files.contents c.args.files.now) (g.F.Files.faults c.args.files.now) (g.F.Files.write_faults c.args.files.now) (g.F.Files.misses c.args.files.now))
    (files_side (g.F.Files.contents c.joined_files.new.files) (g.F.Files.faults c.joined_files.new.files) (g.F.Files.write_faults c.joined_files.new.files) (g.F.Files.misses c.joined_files.new.files))
    (g.O.Sink.written c.args.out.now) (g.O.Sink.faults c.args.out.now) c.in-Ok.joined c.in-Ok.ensures

pub returns-then-size-gt-ARGUMENTS : goal.returns-then-size-gt-ARGUMENTS
returns-then-size-gt-ARGUMENTS g c =
    depths_long c.args.command.now
    (files_side (g.F.Files.contents c.args.files.now) (g.F.Files.faults c.args.files.now) (g.F.Files.write_faults c.args.files.now) (g.F.Files.misses c.args.files.now))
    (files_side (g.F.Files.contents c.joined_files.new.files) (g.F.Files.faults c.joined_files.new.files) (g.F.Files.write_faults c.joined_files.new.files) (g.F.Files.misses c.joined_files.new.files))
    (g.O.Sink.written c.args.out.now) (g.O.Sink.faults c.args.out.now) c.in-Ok.joined c.in-Ok-size_of.size c.in-Ok.ensures c.in-Ok-size_of.ensures.ok c.if-size-gt-ARGUMENTS.true

pub returns-in-Ok-reported : goal.returns-in-Ok-reported
returns-in-Ok-reported g c =
    depths_wrote c.args.command.now
    (files_side (g.F.Files.contents c.args.files.now) (g.F.Files.faults c.args.files.now) (g.F.Files.write_faults c.args.files.now) (g.F.Files.misses c.args.files.now))
    (files_side (g.F.Files.contents c.joined_files.new.files) (g.F.Files.faults c.joined_files.new.files) (g.F.Files.write_faults c.joined_files.new.files) (g.F.Files.misses c.joined_files.new.files))
    (g.O.Sink.written c.args.out.now) (g.O.Sink.written c.write_report.new.out) (g.O.Sink.faults c.args.out.now) (g.O.Sink.faults c.write_report.new.out)
    c.in-Ok.joined c.in-Ok-size_of.size c.in-Ok-reported.report.text.items c.in-Ok-reported.report.status c.write_report.result
    c.in-Ok.ensures c.in-Ok-size_of.ensures.ok c.if-size-gt-ARGUMENTS.false c.in-Ok-reported.ensures.ok c.write_report.ensures.written c.write_report.ensures.cause

pub returns : goal.returns
returns g c =
    depths_short c.args.command.now
    (files_side (g.F.Files.contents c.args.files.now) (g.F.Files.faults c.args.files.now) (g.F.Files.write_faults c.args.files.now) (g.F.Files.misses c.args.files.now))
    (files_side (g.F.Files.contents c.joined_files.new.files) (g.F.Files.faults c.joined_files.new.files) (g.F.Files.write_faults c.joined_files.new.files) (g.F.Files.misses c.joined_files.new.files))
    (g.O.Sink.written c.args.out.now) (g.O.Sink.faults c.args.out.now) c.in-Ok.joined c.in-Ok.ensures
