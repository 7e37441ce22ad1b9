use Rattle.std.proofs.Common.{ap}
use Rattle.c65_io.specs.MemFiles.{MemFilesView, held_by}
use Rattle.c65_commands.proofs.GenLaws.{alone}
use Rattle.c65_commands.proofs.generated.source_files.Goals as goal

pub returns-clause-ok : goal.returns-clause-ok
returns-clause-ok c =
    let held = c.in_ok-put.ensures.held in
    alone (held_by c.mem_files-files.result.files) (held_by c.put.new.self.files) c.in_ok-path.path.items c.args.source.items c.in_ok-path.ensures.items
    (λ other. ap (λ (files : MemFilesView). held_by files.files other) c.mem_files-files.ensures) held.0 held.1
