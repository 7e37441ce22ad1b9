use Rattle.std.proofs.Common.{Err, refl, sym, subst}
use Rattle.c65_base.specs.declared.refusal.Refusal.{Refusal}
use Rattle.c65_io.specs.MemFiles.{held_by}
use Rattle.c65_commands.specs.Generated.{CompilesSource}
use Rattle.c65_commands.proofs.GenLaws.{source_free, source_stops, source_compiles}
use Rattle.c65_commands.proofs.generated.source_image.Goals as goal

pub returns-in-Err-clause-compiled : goal.returns-in-Err-clause-compiled
returns-in-Err-clause-compiled c = source_free c.args.command.now c.args.source.items c.args.made.now.code c.requires

pub returns-in-Err-source_files-clause-compiled : goal.returns-in-Err-source_files-clause-compiled
returns-in-Err-source_files-clause-compiled c = source_free c.args.command.now c.args.source.items c.args.made.now.code c.requires

pub returns-in-Ok-make_image-clause-compiled : goal.returns-in-Ok-make_image-clause-compiled
returns-in-Ok-make_image-clause-compiled c =
    source_compiles c.args.command.now c.in-Ok.command c.args.source.items _ _ (held_by c.in-Ok-source_files.files.files) c.make_image.new.made.code c.in-Ok-make_image.image
    c.in-Ok.ensures.ok refl c.in-Ok-source_files.ensures.ok c.in-Ok-make_image.ensures.compiled c.in-Ok-make_image.ensures.sources

pub returns-clause-compiled : goal.returns-clause-compiled
returns-clause-compiled c =
    subst (λ (r : Refusal). CompilesSource c.args.command.now c.args.source.items c.make_image.new.made.code (Err r)) (sym c.in_memory.ensures)
    (source_stops c.args.command.now c.in-Ok.command c.args.source.items _ _ (held_by c.in-Ok-source_files.files.files) c.make_image.new.made.code c.in-Err-make_image.refusal
    c.in-Ok.ensures.ok refl c.in-Ok-source_files.ensures.ok c.in-Err-make_image.ensures.compiled c.in-Err-make_image.ensures.sources)
