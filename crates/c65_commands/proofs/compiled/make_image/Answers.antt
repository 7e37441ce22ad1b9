use Rattle.std.proofs.Common.{Some, Err, refl, subst}
use Rattle.c65_base.specs.declared.options.Cpu.{Cpu}
use Rattle.c65_base.specs.declared.options.Options.{Options}
use Rattle.c65_base.specs.declared.refusal.Refusal.TheVariants.{OutOfMemory}
use Rattle.c65_optimise.specs.Optimised.{OptimisedBy}
use Rattle.c65_commands.specs.Compiled.{IsPrintedAs}
use Rattle.c65_commands.specs.Outside.{files_side}
use Rattle.c65_commands.proofs.LinkLaws.{compiles_linked, compiles_not, compiles_as}
use Rattle.c65_commands.proofs.FrontLaws.{sources_short, sources_not, sources_read}
use Rattle.c65_commands.proofs.compiled.make_image.Goals as goal

pub returns-in-Err-clause-compiled : goal.returns-in-Err-clause-compiled
returns-in-Err-clause-compiled g c =
    let made = c.in-Err.ensures in
    let old = files_side (g.F.Files.contents c.args.files.now) (g.F.Files.faults c.args.files.now) (g.F.Files.write_faults c.args.files.now) (g.F.Files.misses c.args.files.now) in
    let new =
    files_side (g.F.Files.contents c.compile.new.files) (g.F.Files.faults c.compile.new.files) (g.F.Files.write_faults c.compile.new.files) (g.F.Files.misses c.compile.new.files) in
    compiles_as c.args.command.now.options.cpu c.args.command.now.options.cpu c.folders.result.now c.args.command.now.folders c.paths.result.now c.args.command.now.files old new c.args.made.now.code (Err c.in-Err.refusal)
    refl c.folders.ensures c.paths.ensures
    (compiles_not c.args.command.now.options.cpu c.folders.result.now c.paths.result.now old new c.args.made.now.code c.in-Err.refusal c.requires made.same made.writes made.read made.missing made.refused made.units)

pub returns-in-Err-optimise-clause-compiled : goal.returns-in-Err-optimise-clause-compiled
returns-in-Err-optimise-clause-compiled g c =
    let made = c.in-Ok.ensures in
    let old = files_side (g.F.Files.contents c.args.files.now) (g.F.Files.faults c.args.files.now) (g.F.Files.write_faults c.args.files.now) (g.F.Files.misses c.args.files.now) in
    let new =
    files_side (g.F.Files.contents c.compile.new.files) (g.F.Files.faults c.compile.new.files) (g.F.Files.write_faults c.compile.new.files) (g.F.Files.misses c.compile.new.files) in
    compiles_as c.args.command.now.options.cpu c.args.command.now.options.cpu c.folders.result.now c.args.command.now.folders c.paths.result.now c.args.command.now.files old new c.args.made.now.code (Err OutOfMemory)
    refl c.folders.ensures c.paths.ensures
    (compiles_not c.args.command.now.options.cpu c.folders.result.now c.paths.result.now old new c.args.made.now.code OutOfMemory c.requires made.same made.writes made.read made.missing tt tt)

pub returns-in-Err-read_back-clause-compiled : goal.returns-in-Err-read_back-clause-compiled
returns-in-Err-read_back-clause-compiled g c =
    let made = c.in-Ok.ensures in
    let old = files_side (g.F.Files.contents c.args.files.now) (g.F.Files.faults c.args.files.now) (g.F.Files.write_faults c.args.files.now) (g.F.Files.misses c.args.files.now) in
    let new =
    files_side (g.F.Files.contents c.compile.new.files) (g.F.Files.faults c.compile.new.files) (g.F.Files.write_faults c.compile.new.files) (g.F.Files.misses c.compile.new.files) in
    compiles_as c.args.command.now.options.cpu c.args.command.now.options.cpu c.folders.result.now c.args.command.now.folders c.paths.result.now c.args.command.now.files old new c.args.made.now.code (Err OutOfMemory)
    refl c.folders.ensures c.paths.ensures
    (compiles_not c.args.command.now.options.cpu c.folders.result.now c.paths.result.now old new c.args.made.now.code OutOfMemory c.requires made.same made.writes made.read made.missing tt tt)

pub returns-clause-compiled : goal.returns-clause-compiled
returns-clause-compiled g c =
    let made = c.in-Ok.ensures in
    let old = files_side (g.F.Files.contents c.args.files.now) (g.F.Files.faults c.args.files.now) (g.F.Files.write_faults c.args.files.now) (g.F.Files.misses c.args.files.now) in
    let new =
    files_side (g.F.Files.contents c.compile.new.files) (g.F.Files.faults c.compile.new.files) (g.F.Files.write_faults c.compile.new.files) (g.F.Files.misses c.compile.new.files) in
    compiles_as c.processor-cpu.result c.args.command.now.options.cpu c.folders.result.now c.args.command.now.folders c.paths.result.now c.args.command.now.files old new (Some c.in-Ok-read_back.code) c.link_for-linked.result
    c.processor-cpu.ensures c.folders.ensures c.paths.ensures
    (compiles_linked c.processor-cpu.result c.folders.result.now c.paths.result.now old new c.in-Ok-read_back.code c.link_for-linked.result made.same made.writes made.read made.missing made.units c.in-Ok-read_back.ensures.again c.link_for-linked.ensures)

pub returns-in-Err-clause-sources : goal.returns-in-Err-clause-sources
returns-in-Err-clause-sources g c =
    sources_not c.args.command.now (g.F.Files.contents c.args.files.now) c.args.made.now.code c.options.result.now c.defines.result.now c.folders.result.now c.paths.result.now c.in-Err.refusal
    c.requires c.options.ensures c.defines.ensures c.folders.ensures c.paths.ensures c.in-Err.ensures.exact

pub returns-in-Err-optimise-clause-sources : goal.returns-in-Err-optimise-clause-sources
returns-in-Err-optimise-clause-sources g c = sources_short c.args.command.now (g.F.Files.contents c.args.files.now) c.args.made.now.code c.requires

pub returns-in-Err-read_back-clause-sources : goal.returns-in-Err-read_back-clause-sources
returns-in-Err-read_back-clause-sources g c = sources_short c.args.command.now (g.F.Files.contents c.args.files.now) c.args.made.now.code c.requires

pub returns-clause-sources : goal.returns-clause-sources
returns-clause-sources g c =
    sources_read c.args.command.now (g.F.Files.contents c.args.files.now) c.in-Ok.code c.in-Ok-optimise.code c.in-Ok-read_back.code c.options.result.now c.defines.result.now c.folders.result.now c.paths.result.now c.link_for-linked.result
    c.options.ensures c.defines.ensures c.folders.ensures c.paths.ensures c.in-Ok.ensures.exact
    (subst (λ (x : Options). OptimisedBy x c.in-Ok.code c.in-Ok-optimise.code) c.options-2.ensures c.in-Ok-optimise.ensures.rewritten)
    (subst (λ (x : Cpu). IsPrintedAs x c.in-Ok-optimise.code c.in-Ok-read_back.code) c.processor-cpu.ensures c.in-Ok-read_back.ensures.read)
