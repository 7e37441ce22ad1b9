use Rattle.std.proofs.Common.{◌∙◌, ap, string_bytes, subst}
use Rattle.c65_biggen.specs.Generated.{generated_source}
use Rattle.c65_commands.specs.Assembly.{AppendsBytes}
use Rattle.c65_commands.proofs.GenLaws.{generates_free, generates_not, generates_stop, generates_wrote}
use Rattle.c65_commands.proofs.generated.generate.Goals as goal

pub returns-in-Err : goal.returns-in-Err
returns-in-Err g c =
    generates_free c.args.command.now (g.O.Sink.written c.args.out.now) (g.O.Sink.faults c.args.out.now) c.args.made.now.code c.args.made.now.image c.requires.code c.requires.image

pub returns-in-Err-source_image : goal.returns-in-Err-source_image
returns-in-Err-source_image g c =
    generates_not c.args.command.now (g.O.Sink.written c.args.out.now) (g.O.Sink.faults c.args.out.now) c.in-Ok.source.items c.source_image.new.made.code c.source_image.new.made.image c.in-Err-source_image.refusal
    (c.in-Err-source_image.ensures.kept ∙ c.requires.image) (c.in-Ok.ensures.ok ∙ ap generated_source c.number-number.ensures) c.in-Err-source_image.ensures.compiled

pub returns-in-Ok-line : goal.returns-in-Ok-line
returns-in-Ok-line g c =
    generates_wrote c.args.command.now c.number-number.result (string_bytes c.in-Ok-line.line) (g.O.Sink.written c.args.out.now) (g.O.Sink.written c.append_bytes.new.out)
    (g.O.Sink.faults c.args.out.now) (g.O.Sink.faults c.append_bytes.new.out) c.in-Ok.source.items c.source_image.new.made.code c.in-Ok-source_image.image c.append_bytes.result
    c.number-number.ensures (c.in-Ok.ensures.ok ∙ ap generated_source c.number-number.ensures) c.in-Ok-source_image.ensures.compiled c.in-Ok-line.ensures c.append_bytes.ensures.served
    (subst (λ line. AppendsBytes line (g.O.Sink.written c.args.out.now) (g.O.Sink.written c.append_bytes.new.out) c.append_bytes.result) c.as_bytes.ensures.value c.append_bytes.ensures.written)
    c.append_bytes.ensures.cause

pub returns-in-Err-line : goal.returns-in-Err-line
returns-in-Err-line g c =
    generates_stop c.args.command.now (g.O.Sink.written c.args.out.now) (g.O.Sink.faults c.args.out.now) c.in-Ok.source.items c.source_image.new.made.code c.in-Ok-source_image.image c.in-Err-line.refusal
    (c.in-Ok.ensures.ok ∙ ap generated_source c.number-number.ensures) c.in-Ok-source_image.ensures.compiled c.in-Err-line.ensures
