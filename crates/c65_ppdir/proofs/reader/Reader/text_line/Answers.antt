use Rattle.std.proofs.Common.{◌∙◌, Ok, inl, refl, subst, rules}
use Rattle.c65_pptext.specs.declared.ending.Read.TheVariants as reads
use Rattle.c65_ppdir.specs.Files.{opened_as}
use Rattle.c65_ppdir.specs.Gathering.{used}
use Rattle.c65_ppdir.specs.LineActions.{text_from}
use Rattle.c65_ppdir.specs.Progress.{Progress, progress}
use Rattle.c65_ppdir.proofs.Reading.{text_on, text_ends, text_cut, add_is, add_ok, list_is}
use Rattle.c65_ppdir.proofs.Texts.{stops_no_miss, memory_no_miss}
use Rattle.c65_ppdir.proofs.reader.Reader.text_line.Goals as goal

pub returns-in-Ok-LineEnd-clause-exact : goal.returns-in-Ok-LineEnd-clause-exact
returns-in-Ok-LineEnd-clause-exact g c =
    λ held told here.
    let i = c.loop.invariant.goes held told here in
    let x = c.in-Ok-LineEnd.ensures.exact held (c.loop.invariant.serves.same ∙ told) i.0 in
    let start = progress held c.args.self.now c.args.file.now c.args.names.now in
    let p = progress held c.loop.self c.loop.file c.loop.names in
    let q = progress held c.loop.self c.read.new.self c.read.new.names in
    let add = c.add-in-Ok-LineEnd in (
      x.0,
      memory_no_miss add.result add.ensures.refused,
      text_ends start p q (progress held (record c.loop.self { output = add.new.self }) c.read.new.self c.read.new.names) c.in-Ok-LineEnd.token add.result i.1 (opened_as held c.read.new.self, c.read.new.names, rw c.in-Ok-LineEnd.field-0-is at x.2, refl) add.ensures.refused
          (add_ok c.loop.self.macros c.loop.self.output.given add.new.self.given c.loop.self.output.list.items add.new.self.list.items (opened_as held c.read.new.self) c.read.new.names c.in-Ok-LineEnd.token add.result add.ensures.added add.ensures.same),
    )

pub returns-in-Ok-End-clause-exact : goal.returns-in-Ok-End-clause-exact
returns-in-Ok-End-clause-exact g c =
    λ held told here.
    let i = c.loop.invariant.goes held told here in
    let x = c.in-Ok-End.ensures.exact held (c.loop.invariant.serves.same ∙ told) i.0 in
    let start = progress held c.args.self.now c.args.file.now c.args.names.now in
    let p = progress held c.loop.self c.loop.file c.loop.names in
    let q = progress held c.loop.self c.read.new.self c.read.new.names in
    (x.0, tt, text_on start p q reads.End i.1 (opened_as held c.read.new.self, c.read.new.names, rw c.in-Ok-End.field-0-is at x.2, refl) 0 (Ok q) refl)

pub returns-in-Ok-Cut-clause-exact : goal.returns-in-Ok-Cut-clause-exact
returns-in-Ok-Cut-clause-exact g c =
    λ held told here.
    let i = c.loop.invariant.goes held told here in
    let x = c.in-Ok-Cut.ensures.exact held (c.loop.invariant.serves.same ∙ told) i.0 in
    let start = progress held c.args.self.now c.args.file.now c.args.names.now in
    let p = progress held c.loop.self c.loop.file c.loop.names in
    let q = progress held c.loop.self c.read.new.self c.read.new.names in
    let taken = progress held (record c.loop.self { output = c.take_back.new.self }) c.read.new.self c.read.new.names in (
      x.0,
      stops_no_miss c.settle.result c.settle.ensures.stops,
      text_cut start p q taken c.in-Ok-Cut.cut c.refusal.result c.settle.result i.1 (opened_as held c.read.new.self, c.read.new.names, rw c.in-Ok-Cut.field-0-is at x.2, refl)
          (list_is c.loop.self.macros c.loop.self.output.given c.take_back.new.self.given (used c.in-Ok-Cut.cut c.loop.self.output.list.items) c.take_back.new.self.list.items (opened_as held c.read.new.self) c.read.new.names c.take_back.ensures.taken c.take_back.ensures.same)
          c.refusal.ensures.exact (c.settle.ensures.exact held c.read.new.self),
    )

pub loop-preserved : goal.loop-preserved
loop-preserved g c =
    record {
      serves = search rules;
      goes = λ held told here.
          let i = c.loop.invariant.goes held told here in
          let x = c.in-Ok-Token.ensures.exact held (c.loop.invariant.serves.same ∙ told) i.0 in
          let start = progress held c.args.self.now c.args.file.now c.args.names.now in
          let p = progress held c.loop.self c.loop.file c.loop.names in
          let q = progress held c.loop.self c.read.new.self c.read.new.names in (
            x.0,
            λ n z h. text_on start p q (reads.Token c.in-Ok-Token.token) i.1 (opened_as held c.read.new.self, c.read.new.names, rw c.in-Ok-Token.field-0-is at x.2, refl) n z
                (subst (λ (y : Progress). text_from n y z) (add_is c.loop.self.macros c.loop.self.output.given c.add.new.self.given c.loop.self.output.list.items c.add.new.self.list.items (opened_as held c.read.new.self) c.read.new.names c.in-Ok-Token.token c.in-Ok.ensures.added c.add.ensures.same) h),
          );
    }

pub returns-in-Err-clause-exact : goal.returns-in-Err-clause-exact
returns-in-Err-clause-exact g c =
    λ held told here.
    let i = c.loop.invariant.goes held told here in
    let x = c.in-Err.ensures.exact held (c.loop.invariant.serves.same ∙ told) i.0 in
    (x.0, x.1, inl x.2)
