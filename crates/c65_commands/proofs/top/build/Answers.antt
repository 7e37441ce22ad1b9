use Rattle.std.proofs.Common.{◌∙◌}
use Rattle.c65_commands.specs.Outside.{files_side}
use Rattle.c65_commands.proofs.BuildLaws.{builds_stop, builds_wrote}
use Rattle.c65_commands.proofs.top.build.Goals as goal

pub returns-in-Err : goal.returns-in-Err
returns-in-Err g c =
    builds_stop c.args.command.now
    (files_side (g.F.Files.contents c.args.files.now) (g.F.Files.faults c.args.files.now) (g.F.Files.write_faults c.args.files.now) (g.F.Files.misses c.args.files.now))
    (files_side (g.F.Files.contents c.make_image.new.files) (g.F.Files.faults c.make_image.new.files) (g.F.Files.write_faults c.make_image.new.files) (g.F.Files.misses c.make_image.new.files))
    c.make_image.new.made.code c.make_image.new.made.image c.in-Err.refusal
    (c.in-Err.ensures.kept ∙ c.requires.image) c.in-Err.ensures.compiled c.in-Err.ensures.sources

pub returns : goal.returns
returns g c =
    builds_wrote c.args.command.now
    (files_side (g.F.Files.contents c.args.files.now) (g.F.Files.faults c.args.files.now) (g.F.Files.write_faults c.args.files.now) (g.F.Files.misses c.args.files.now))
    (files_side (g.F.Files.contents c.make_image.new.files) (g.F.Files.faults c.make_image.new.files) (g.F.Files.write_faults c.make_image.new.files) (g.F.Files.misses c.make_image.new.files))
    (files_side (g.F.Files.contents c.write_image-answer.new.files) (g.F.Files.faults c.write_image-answer.new.files) (g.F.Files.write_faults c.write_image-answer.new.files) (g.F.Files.misses c.write_image-answer.new.files))
    c.make_image.new.made.code c.in-Ok.image c.output.result.now c.write_image-answer.result
    c.output.ensures c.in-Ok.ensures.compiled c.in-Ok.ensures.sources c.write_image-answer.ensures
