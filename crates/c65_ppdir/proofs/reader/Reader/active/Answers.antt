use Rattle.std.proofs.Common.{◌∙◌, ◌⊎◌, Ok, Err, inl, ap, sym, subst}
use Rattle.std.specs.Prelude.{codes}
use Rattle.c65_base.specs.declared.refusal.Refusal.{Refusal}
use Rattle.c65_pptext.specs.declared.ending.Read.TheVariants as reads
use Rattle.c65_ppdir.specs.declared.reader.Turn.{Turn}
use Rattle.c65_ppdir.specs.declared.reader.Turn.TheVariants as turns
use Rattle.c65_ppdir.specs.Files.{opened_as}
use Rattle.c65_ppdir.specs.LineActions.{behind_list, text}
use Rattle.c65_ppdir.specs.Progress.{Progress, progress, Settles}
use Rattle.c65_ppline.specs.Relations.{IsFree}
use Rattle.c65_ppline.specs.Tokens.{is_mark}
use Rattle.c65_ppdir.proofs.Acting.{active_next}
use Rattle.c65_ppdir.proofs.Reading.{add_is}
use Rattle.c65_ppdir.proofs.Texts.{stops_no_miss, stops_of}
use Rattle.c65_ppline.proofs.Relations.{tested, tested_not}
use Rattle.c65_ppdir.proofs.reader.Reader.active.Goals as goal

pub returns-then-is_mark-clause-exact : goal.returns-then-is_mark-clause-exact
returns-then-is_mark-clause-exact g c =
    λ held told here.
    let read = c.in-Ok-Token.ensures.exact held told here in
    let more = c.behind_list.ensures.exact held (c.read.ensures.serves.same ∙ told) read.0 in
    let p = progress held c.args.self.now c.args.file.now c.args.names.now in
    let q = progress held c.args.self.now c.read.new.self c.read.new.names in
    let view : Turn → Turn × Progress = λ t. (t, progress held c.behind_list.new.self c.behind_list.new.file c.behind_list.new.names) in (
      more.0,
      more.1,
      active_next view p (reads.Token c.in-Ok-Token.token) (opened_as held c.read.new.self) c.read.new.names c.behind_list.result (rw c.in-Ok-Token.field-0-is at read.2)
          (tested view (is_mark c.read.new.names (codes "#") c.in-Ok-Token.token) (behind_list c.in-Ok-Token.token.pos q) (text c.in-Ok-Token.token q) c.behind_list.result (sym c.is_mark.ensures ∙ c.if-is_mark.true) more.2),
    )

pub returns-else-is_mark-clause-exact : goal.returns-else-is_mark-clause-exact
returns-else-is_mark-clause-exact g c =
    λ held told here.
    let read = c.in-Ok-Token.ensures.exact held told here in
    let more = c.text.ensures.exact held (c.read.ensures.serves.same ∙ told) read.0 in
    let p = progress held c.args.self.now c.args.file.now c.args.names.now in
    let q = progress held c.args.self.now c.read.new.self c.read.new.names in
    let view : Turn → Turn × Progress = λ t. (t, progress held c.text.new.self c.text.new.file c.text.new.names) in (
      more.0,
      more.1,
      active_next view p (reads.Token c.in-Ok-Token.token) (opened_as held c.read.new.self) c.read.new.names c.text.result (rw c.in-Ok-Token.field-0-is at read.2)
          (tested_not view (is_mark c.read.new.names (codes "#") c.in-Ok-Token.token) (behind_list c.in-Ok-Token.token.pos q) (text c.in-Ok-Token.token q) c.text.result (sym c.is_mark.ensures ∙ c.if-is_mark.false) more.2),
    )

pub returns-in-Ok-clause-exact : goal.returns-in-Ok-clause-exact
returns-in-Ok-clause-exact g c =
    λ held told here.
    let read = c.in-Ok-LineEnd.ensures.exact held told here in
    let p = progress held c.args.self.now c.args.file.now c.args.names.now in
    let view : Turn → Turn × Progress = λ t. (t, progress held (record c.args.self.now { output = c.add.new.self }) c.read.new.self c.read.new.names) in (
      read.0,
      tt,
      active_next view p (reads.LineEnd c.in-Ok-LineEnd.token) (opened_as held c.read.new.self) c.read.new.names (Ok turns.Line) (rw c.in-Ok-LineEnd.field-0-is at read.2)
          (ap (λ (x : Progress). Ok (turns.Line, x)) (add_is c.args.self.now.macros c.args.self.now.output.given c.add.new.self.given c.args.self.now.output.list.items c.add.new.self.list.items (opened_as held c.read.new.self) c.read.new.names c.in-Ok-LineEnd.token c.in-Ok.ensures.added c.add.ensures.same)),
    )

pub returns-in-Ok-End-clause-exact : goal.returns-in-Ok-End-clause-exact
returns-in-Ok-End-clause-exact g c =
    λ held told here.
    let read = c.in-Ok-End.ensures.exact held told here in
    let p = progress held c.args.self.now c.args.file.now c.args.names.now in
    (read.0, stops_of c.close.result c.close.ensures.stops, active_next (λ (t : Turn). (t, progress held c.close.new.self c.read.new.self c.close.new.names)) p reads.End (opened_as held c.read.new.self) c.read.new.names c.close.result (rw c.in-Ok-End.field-0-is at read.2) (c.close.ensures.exact held))

pub returns-in-Ok-Cut-clause-exact : goal.returns-in-Ok-Cut-clause-exact
returns-in-Ok-Cut-clause-exact g c =
    λ held told here.
    let read = c.in-Ok-Cut.ensures.exact held told here in
    let p = progress held c.args.self.now c.args.file.now c.args.names.now in
    let q = progress held c.args.self.now c.read.new.self c.read.new.names in (
      read.0,
      stops_no_miss c.settle.result c.settle.ensures.stops,
      active_next (λ (t : Turn). (t, p)) p (reads.Cut c.in-Ok-Cut.cut) (opened_as held c.read.new.self) c.read.new.names (Err c.settle.result) (rw c.in-Ok-Cut.field-0-is at read.2)
          (subst (λ (f : Refusal). IsFree c.settle.result ⊎ Settles f q c.settle.result) c.refusal.ensures.exact ((c.settle.ensures.exact held) c.read.new.self)),
    )

pub returns-in-Err-clause-exact : goal.returns-in-Err-clause-exact
returns-in-Err-clause-exact g c =
    λ held told here.
    let x = c.in-Err.ensures.exact held told here in
    (x.0, x.1, inl x.2)
