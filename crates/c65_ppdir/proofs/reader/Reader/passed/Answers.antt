use Rattle.std.proofs.Common.{◌∙◌, List, Some, None, inl, ap}
use Rattle.c65_lex.specs.declared.token.PpToken.{PpToken}
use Rattle.c65_ppline.specs.declared.directive.Head.{Head}
use Rattle.c65_ppline.specs.DirectiveLines.{head_of, part_of}
use Rattle.c65_ppdir.specs.Files.{opened_as}
use Rattle.c65_ppdir.specs.Progress.{progress}
use Rattle.c65_ppdir.proofs.Texts.{stops_of, told_still}
use Rattle.c65_ppdir.proofs.Acting.{passed_next, whole_line}
use Rattle.c65_ppdir.proofs.reader.Reader.passed.Goals as goal

pub returns-in-Some-clause-exact : goal.returns-in-Some-clause-exact
returns-in-Some-clause-exact g c =
    λ held told here.
    let read = c.in-Ok.ensures.exact held told here in
    let p = progress held c.args.self.now c.args.file.now c.args.names.now in (
      told_still held c.read_line.new.self c.part.new.file c.part.ensures.text read.0,
      stops_of c.part.result c.part.ensures.stops,
      passed_next (λ (x : Unit {0}). progress held c.part.new.self c.part.new.file c.part.new.names) c.args.hash p c.in-Ok.line (opened_as held c.read_line.new.self) c.read_line.new.names (Some c.in-Some.part) c.part.result read.2
          (c.in-Some.ensures ∙ ap (λ (h : Head). part_of h) (c.head_of.ensures ∙ ap (λ (ts : List PpToken). head_of c.read_line.new.names ts) c.as_slice.ensures)) (c.part.ensures.exact held),
    )

pub returns-in-None-clause-exact : goal.returns-in-None-clause-exact
returns-in-None-clause-exact g c =
    λ held told here.
    let read = c.in-Ok.ensures.exact held told here in
    let p = progress held c.args.self.now c.args.file.now c.args.names.now in
    let q = progress held c.args.self.now c.read_line.new.self c.read_line.new.names in (
      read.0,
      stops_of c.check.result c.check.ensures.stops,
      passed_next (λ (x : Unit {0}). q) c.args.hash p c.in-Ok.line (opened_as held c.read_line.new.self) c.read_line.new.names None c.check.result read.2
          (c.in-None.ensures ∙ ap (λ (h : Head). part_of h) (c.head_of.ensures ∙ ap (λ (ts : List PpToken). head_of c.read_line.new.names ts) c.as_slice.ensures)) (whole_line c.in-Ok.line q c.check.result c.check.ensures.exact),
    )

pub returns-in-Err-clause-exact : goal.returns-in-Err-clause-exact
returns-in-Err-clause-exact g c =
    λ held told here.
    let x = c.in-Err.ensures.exact held told here in
    (x.0, x.1, inl x.2)
