use Rattle.c65_commands.specs.Outside.{files_side}
use Rattle.c65_commands.proofs.DepthLaws.{joins_by}
use Rattle.c65_commands.proofs.depth.joined_files.Goals as goal

pub returns : goal.returns
returns g c =
    let joins = c.join_files.ensures in
    joins_by c.args.command.now c.options.result.now c.defines.result.now c.folders.result.now c.paths.result.now
    (files_side (g.F.Files.contents c.args.files.now) (g.F.Files.faults c.args.files.now) (g.F.Files.write_faults c.args.files.now) (g.F.Files.misses c.args.files.now))
    (files_side (g.F.Files.contents c.join_files.new.files) (g.F.Files.faults c.join_files.new.files) (g.F.Files.write_faults c.join_files.new.files) (g.F.Files.misses c.join_files.new.files))
    c.join_files.result c.options.ensures c.defines.ensures c.folders.ensures c.paths.ensures
    joins.refused joins.units joins.read joins.missing joins.same joins.writes joins.exact joins.good
