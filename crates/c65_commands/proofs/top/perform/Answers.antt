use Rattle.std.proofs.Common.{◌∙◌, None, sym, map, string_bytes, refl}
use Rattle.c65_driver_words.specs.Words.{spelling_of}
use Rattle.c65_driver_words.specs.declared.command.CommandKind.TheVariants as kinds
use Rattle.c65_commands.specs.Outside.{outside}
use Rattle.c65_commands.proofs.ToolLaws.{performs_not, performs_by}
use Rattle.c65_commands.proofs.top.perform.Goals as goal

pub returns-in-Err : goal.returns-in-Err
returns-in-Err g c =
    performs_not (spelling_of (map string_bytes c.args.words.now))
    (outside (g.F.Files.contents c.args.files.now) (g.F.Files.faults c.args.files.now) (g.F.Files.write_faults c.args.files.now) (g.F.Files.misses c.args.files.now)
    (g.I.Source.left c.args.input.now) (g.I.Source.faults c.args.input.now) (g.O.Sink.written c.args.out.now) (g.O.Sink.faults c.args.out.now))
    c.in-Err.refusal c.in-Err.ensures

pub returns-in-Go : goal.returns-in-Go
returns-in-Go g c =
    performs_by (spelling_of (map string_bytes c.args.words.now)) c.in-Ok.command kinds.Go
    (outside (g.F.Files.contents c.args.files.now) (g.F.Files.faults c.args.files.now) (g.F.Files.write_faults c.args.files.now) (g.F.Files.misses c.args.files.now)
    (g.I.Source.left c.args.input.now) (g.I.Source.faults c.args.input.now) (g.O.Sink.written c.args.out.now) (g.O.Sink.faults c.args.out.now))
    (outside (g.F.Files.contents c.go.new.files) (g.F.Files.faults c.go.new.files) (g.F.Files.write_faults c.go.new.files) (g.F.Files.misses c.go.new.files)
    (g.I.Source.left c.go.new.input) (g.I.Source.faults c.go.new.input) (g.O.Sink.written c.go.new.out) (g.O.Sink.faults c.go.new.out))
    c.go.new.made.code c.go.new.made.image c.go.result c.in-Ok.ensures (sym c.kind_of.ensures ∙ c.in-Go.is) c.go.ensures

pub returns-in-Build : goal.returns-in-Build
returns-in-Build g c =
    performs_by (spelling_of (map string_bytes c.args.words.now)) c.in-Ok.command kinds.Build
    (outside (g.F.Files.contents c.args.files.now) (g.F.Files.faults c.args.files.now) (g.F.Files.write_faults c.args.files.now) (g.F.Files.misses c.args.files.now)
    (g.I.Source.left c.args.input.now) (g.I.Source.faults c.args.input.now) (g.O.Sink.written c.args.out.now) (g.O.Sink.faults c.args.out.now))
    (outside (g.F.Files.contents c.build.new.files) (g.F.Files.faults c.build.new.files) (g.F.Files.write_faults c.build.new.files) (g.F.Files.misses c.build.new.files)
    (g.I.Source.left c.args.input.now) (g.I.Source.faults c.args.input.now) (g.O.Sink.written c.args.out.now) (g.O.Sink.faults c.args.out.now))
    c.build.new.made.code c.build.new.made.image c.build.result c.in-Ok.ensures (sym c.kind_of.ensures ∙ c.in-Build.is)
    (record { builds = c.build.ensures; left = refl; input_faults = refl; written = refl; out_faults = refl })

pub returns-in-Run : goal.returns-in-Run
returns-in-Run g c =
    performs_by (spelling_of (map string_bytes c.args.words.now)) c.in-Ok.command kinds.Run
    (outside (g.F.Files.contents c.args.files.now) (g.F.Files.faults c.args.files.now) (g.F.Files.write_faults c.args.files.now) (g.F.Files.misses c.args.files.now)
    (g.I.Source.left c.args.input.now) (g.I.Source.faults c.args.input.now) (g.O.Sink.written c.args.out.now) (g.O.Sink.faults c.args.out.now))
    (outside (g.F.Files.contents c.run_image.new.files) (g.F.Files.faults c.run_image.new.files) (g.F.Files.write_faults c.run_image.new.files) (g.F.Files.misses c.run_image.new.files)
    (g.I.Source.left c.run_image.new.input) (g.I.Source.faults c.run_image.new.input) (g.O.Sink.written c.run_image.new.out) (g.O.Sink.faults c.run_image.new.out))
    c.run_image.new.made.code c.run_image.new.made.image c.run_image.result c.in-Ok.ensures (sym c.kind_of.ensures ∙ c.in-Run.is) c.run_image.ensures

pub returns-in-Text : goal.returns-in-Text
returns-in-Text g c =
    performs_by (spelling_of (map string_bytes c.args.words.now)) c.in-Ok.command kinds.Text
    (outside (g.F.Files.contents c.args.files.now) (g.F.Files.faults c.args.files.now) (g.F.Files.write_faults c.args.files.now) (g.F.Files.misses c.args.files.now)
    (g.I.Source.left c.args.input.now) (g.I.Source.faults c.args.input.now) (g.O.Sink.written c.args.out.now) (g.O.Sink.faults c.args.out.now))
    (outside (g.F.Files.contents c.text.new.files) (g.F.Files.faults c.text.new.files) (g.F.Files.write_faults c.text.new.files) (g.F.Files.misses c.text.new.files)
    (g.I.Source.left c.args.input.now) (g.I.Source.faults c.args.input.now) (g.O.Sink.written c.text.new.out) (g.O.Sink.faults c.text.new.out))
    c.text.new.made.code c.text.new.made.image c.text.result c.in-Ok.ensures (sym c.kind_of.ensures ∙ c.in-Text.is)
    (record { texts = c.text.ensures; left = refl; input_faults = refl })

pub returns-in-Gen : goal.returns-in-Gen
returns-in-Gen g c =
    performs_by (spelling_of (map string_bytes c.args.words.now)) c.in-Ok.command kinds.Gen
    (outside (g.F.Files.contents c.args.files.now) (g.F.Files.faults c.args.files.now) (g.F.Files.write_faults c.args.files.now) (g.F.Files.misses c.args.files.now)
    (g.I.Source.left c.args.input.now) (g.I.Source.faults c.args.input.now) (g.O.Sink.written c.args.out.now) (g.O.Sink.faults c.args.out.now))
    (outside (g.F.Files.contents c.args.files.now) (g.F.Files.faults c.args.files.now) (g.F.Files.write_faults c.args.files.now) (g.F.Files.misses c.args.files.now)
    (g.I.Source.left c.args.input.now) (g.I.Source.faults c.args.input.now) (g.O.Sink.written c.generate.new.out) (g.O.Sink.faults c.generate.new.out))
    c.generate.new.made.code c.generate.new.made.image c.generate.result c.in-Ok.ensures (sym c.kind_of.ensures ∙ c.in-Gen.is)
    (record { generates = c.generate.ensures; files = refl; left = refl; input_faults = refl })

pub returns : goal.returns
returns g c =
    performs_by (spelling_of (map string_bytes c.args.words.now)) c.in-Ok.command kinds.Depth
    (outside (g.F.Files.contents c.args.files.now) (g.F.Files.faults c.args.files.now) (g.F.Files.write_faults c.args.files.now) (g.F.Files.misses c.args.files.now)
    (g.I.Source.left c.args.input.now) (g.I.Source.faults c.args.input.now) (g.O.Sink.written c.args.out.now) (g.O.Sink.faults c.args.out.now))
    (outside (g.F.Files.contents c.depth.new.files) (g.F.Files.faults c.depth.new.files) (g.F.Files.write_faults c.depth.new.files) (g.F.Files.misses c.depth.new.files)
    (g.I.Source.left c.args.input.now) (g.I.Source.faults c.args.input.now) (g.O.Sink.written c.depth.new.out) (g.O.Sink.faults c.depth.new.out))
    None None c.depth.result c.in-Ok.ensures (sym c.kind_of.ensures ∙ c.in-Depth.is)
    (record { depths = c.depth.ensures; left = refl; input_faults = refl; no_code = refl; no_image = refl })
