use Rattle.std.proofs.Common.{◌∙◌, List, inl, ap}
use Rattle.c65_lex.specs.declared.token.PpToken.{PpToken}
use Rattle.c65_ppline.specs.declared.directive.Head.{Head}
use Rattle.c65_ppdir.specs.declared.reader.Turn.{Turn}
use Rattle.c65_ppline.specs.DirectiveLines.{head_of, deed_of}
use Rattle.c65_ppdir.specs.Files.{opened_as}
use Rattle.c65_ppdir.specs.Progress.{progress}
use Rattle.c65_ppdir.proofs.Texts.{stops_of, told_still}
use Rattle.c65_ppdir.proofs.Acting.{directive_next}
use Rattle.c65_ppdir.proofs.reader.Reader.directive.Goals as goal

pub returns-in-Ok-clause-exact : goal.returns-in-Ok-clause-exact
returns-in-Ok-clause-exact g c =
    λ held told here.
    let read = c.in-Ok.ensures.exact held told here in
    let p = progress held c.args.self.now c.args.file.now c.args.names.now in (
      told_still held c.read_line.new.self c.obey.new.file c.obey.ensures.text read.0,
      stops_of c.obey.result c.obey.ensures.stops,
      directive_next (λ (t : Turn). (t, progress held c.obey.new.self c.obey.new.file c.obey.new.names)) c.args.hash p c.in-Ok.line (opened_as held c.read_line.new.self) c.read_line.new.names c.deed_of-deed.result c.obey.result read.2
          (c.deed_of-deed.ensures.exact ∙ ap (λ (h : Head). deed_of c.args.hash h) (c.head_of.ensures ∙ ap (λ (ts : List PpToken). head_of c.read_line.new.names ts) c.as_slice.ensures)) (c.obey.ensures.exact held),
    )

pub returns-in-Err-clause-exact : goal.returns-in-Err-clause-exact
returns-in-Err-clause-exact g c =
    λ held told here.
    let x = c.in-Err.ensures.exact held told here in
    (x.0, x.1, inl x.2)
