use Rattle.std.proofs.Common.{◌∙◌, Bool, sym, subst}
use Rattle.c65_commands.specs.Assembly.{IsTextOf}
use Rattle.c65_commands.specs.Outside.{files_side, text_side}
use Rattle.c65_commands.proofs.PrintLaws.{texts_stop, texts_short, texts_wrote}
use Rattle.c65_commands.proofs.top.text.Goals as goal

pub returns-in-Err : goal.returns-in-Err
returns-in-Err g c =
    texts_stop c.args.command.now
    (files_side (g.F.Files.contents c.args.files.now) (g.F.Files.faults c.args.files.now) (g.F.Files.write_faults c.args.files.now) (g.F.Files.misses c.args.files.now))
    (files_side (g.F.Files.contents c.make_image.new.files) (g.F.Files.faults c.make_image.new.files) (g.F.Files.write_faults c.make_image.new.files) (g.F.Files.misses c.make_image.new.files))
    (g.O.Sink.written c.args.out.now) (g.O.Sink.faults c.args.out.now)
    c.make_image.new.made.code c.make_image.new.made.image c.in-Err.refusal
    (c.in-Err.ensures.kept ∙ c.requires.image) c.in-Err.ensures.compiled c.in-Err.ensures.sources

pub returns-in-Err-made_text : goal.returns-in-Err-made_text
returns-in-Err-made_text g c =
    texts_short c.args.command.now
    (files_side (g.F.Files.contents c.args.files.now) (g.F.Files.faults c.args.files.now) (g.F.Files.write_faults c.args.files.now) (g.F.Files.misses c.args.files.now))
    (files_side (g.F.Files.contents c.make_image.new.files) (g.F.Files.faults c.make_image.new.files) (g.F.Files.write_faults c.make_image.new.files) (g.F.Files.misses c.make_image.new.files))
    (g.O.Sink.written c.args.out.now) (g.O.Sink.faults c.args.out.now)
    c.make_image.new.made.code c.in-Ok.image c.in-Ok.ensures.compiled c.in-Ok.ensures.sources

pub returns : goal.returns
returns g c =
    texts_wrote c.args.command.now
    (files_side (g.F.Files.contents c.args.files.now) (g.F.Files.faults c.args.files.now) (g.F.Files.write_faults c.args.files.now) (g.F.Files.misses c.args.files.now))
    (files_side (g.F.Files.contents c.make_image.new.files) (g.F.Files.faults c.make_image.new.files) (g.F.Files.write_faults c.make_image.new.files) (g.F.Files.misses c.make_image.new.files))
    (text_side (g.F.Files.contents c.write_text.new.files) (g.F.Files.faults c.write_text.new.files) (g.F.Files.write_faults c.write_text.new.files) (g.F.Files.misses c.write_text.new.files)
    (g.O.Sink.written c.write_text.new.out) (g.O.Sink.faults c.write_text.new.out))
    (g.O.Sink.written c.args.out.now) (g.O.Sink.faults c.args.out.now)
    c.make_image.new.made.code c.in-Ok.image c.as_slice.result.now c.write_text.result
    c.in-Ok.ensures.compiled c.in-Ok.ensures.sources (subst (λ (known : Bool). IsTextOf known c.make_image.new.made.code c.as_slice.result.now) c.is_known.ensures
    (subst (IsTextOf c.is_known.result c.make_image.new.made.code) (sym c.as_slice.ensures) c.in-Ok-made_text.ensures.ok)) c.write_text.ensures
