use Rattle.std.proofs.Common.{◌∙◌, Ok, Err, inl, inr, refl, ap}
use Rattle.c65_base.specs.declared.refusal.Refusal.{Refusal}
use Rattle.c65_ppdir.specs.declared.opened.Unseen.TheVariants as unseens
use Rattle.c65_ppdir.specs.declared.reader.Turn.{Turn}
use Rattle.c65_ppdir.specs.declared.reader.Turn.TheVariants as turns
use Rattle.c65_ppdir.specs.Files.{opened_as}
use Rattle.c65_ppdir.specs.LineActions.{passed, skipped_rest}
use Rattle.c65_ppdir.specs.Progress.{progress}
use Rattle.c65_ppdir.proofs.Acting.{inactive_next, one_line, no_line}
use Rattle.c65_ppdir.proofs.Texts.{stops_no_miss, stops_of}
use Rattle.c65_ppdir.proofs.reader.Reader.inactive.Goals as goal

pub returns-in-Ok-clause-exact : goal.returns-in-Ok-clause-exact
returns-in-Ok-clause-exact g c =
    λ held told here.
    let read = c.in-Ok-Hash.ensures.exact held told here in
    let p = progress held c.args.self.now c.args.file.now c.args.names.now in
    let q = progress held c.args.self.now c.read_unseen.new.self c.args.names.now in
    let more = c.in-Ok.ensures.exact held (c.read_unseen.ensures.serves.same ∙ told) read.0 in
    let new = progress held c.passed.new.self c.passed.new.file c.passed.new.names in
    (more.0, tt, inactive_next (λ (t : Turn). (t, new)) p (unseens.Hash c.in-Ok-Hash.pos) (opened_as held c.read_unseen.new.self) (Ok turns.Line) (rw c.in-Ok-Hash.field-0-is at read.2) (one_line (passed c.in-Ok-Hash.pos q) new more.2))

pub returns-in-Err-passed-clause-exact : goal.returns-in-Err-passed-clause-exact
returns-in-Err-passed-clause-exact g c =
    λ held told here.
    let read = c.in-Ok-Hash.ensures.exact held told here in
    let p = progress held c.args.self.now c.args.file.now c.args.names.now in
    let q = progress held c.args.self.now c.read_unseen.new.self c.args.names.now in
    let more = c.in-Err-passed.ensures.exact held (c.read_unseen.ensures.serves.same ∙ told) read.0 in (
      more.0,
      more.1,
      inactive_next (λ (t : Turn). (t, p)) p (unseens.Hash c.in-Ok-Hash.pos) (opened_as held c.read_unseen.new.self) (Err c.in-Err-passed.refusal) (rw c.in-Ok-Hash.field-0-is at read.2)
          (no_line (λ (x : Unit {0}). q) (λ (t : Turn). (t, p)) (passed c.in-Ok-Hash.pos q) c.in-Err-passed.refusal more.2),
    )

pub returns-in-Ok-skip_line-clause-exact : goal.returns-in-Ok-skip_line-clause-exact
returns-in-Ok-skip_line-clause-exact g c =
    λ held told here.
    let read = c.in-Ok-Token.ensures.exact held told here in
    let p = progress held c.args.self.now c.args.file.now c.args.names.now in
    let q = progress held c.args.self.now c.read_unseen.new.self c.args.names.now in
    let more = c.in-Ok-skip_line.ensures.exact held (c.read_unseen.ensures.serves.same ∙ told) read.0 in
    let new = progress held c.args.self.now c.skip_line.new.self c.args.names.now in
    (more.0, tt, inactive_next (λ (t : Turn). (t, new)) p unseens.Token (opened_as held c.read_unseen.new.self) (Ok turns.Line) (rw c.in-Ok-Token.field-0-is at read.2) (one_line (skipped_rest q) new (opened_as held c.skip_line.new.self, more.2, refl)))

pub returns-in-Err-skip_line-clause-exact : goal.returns-in-Err-skip_line-clause-exact
returns-in-Err-skip_line-clause-exact g c =
    λ held told here.
    let read = c.in-Ok-Token.ensures.exact held told here in
    let p = progress held c.args.self.now c.args.file.now c.args.names.now in
    let q = progress held c.args.self.now c.read_unseen.new.self c.args.names.now in
    let more = c.in-Err-skip_line.ensures.exact held (c.read_unseen.ensures.serves.same ∙ told) read.0 in (
      more.0,
      more.1,
      inactive_next (λ (t : Turn). (t, p)) p unseens.Token (opened_as held c.read_unseen.new.self) (Err c.in-Err-skip_line.refusal) (rw c.in-Ok-Token.field-0-is at read.2)
          (no_line (λ (x : Unit {0}). q) (λ (t : Turn). (t, p)) (skipped_rest q) c.in-Err-skip_line.refusal more.2),
    )

pub returns-in-Ok-LineEnd-clause-exact : goal.returns-in-Ok-LineEnd-clause-exact
returns-in-Ok-LineEnd-clause-exact g c =
    λ held told here.
    let read = c.in-Ok-LineEnd.ensures.exact held told here in
    let p = progress held c.args.self.now c.args.file.now c.args.names.now in
    let q = progress held c.args.self.now c.read_unseen.new.self c.args.names.now in
    (read.0, tt, inactive_next (λ (t : Turn). (t, q)) p unseens.LineEnd (opened_as held c.read_unseen.new.self) (Ok turns.Line) (rw c.in-Ok-LineEnd.field-0-is at read.2) refl)

pub returns-in-Ok-End-clause-exact : goal.returns-in-Ok-End-clause-exact
returns-in-Ok-End-clause-exact g c =
    λ held told here.
    let read = c.in-Ok-End.ensures.exact held told here in
    let p = progress held c.args.self.now c.args.file.now c.args.names.now in
    let q = progress held c.args.self.now c.read_unseen.new.self c.args.names.now in
    (read.0, stops_of c.close.result c.close.ensures.stops, inactive_next (λ (t : Turn). (t, progress held c.close.new.self c.read_unseen.new.self c.close.new.names)) p unseens.End (opened_as held c.read_unseen.new.self) c.close.result (rw c.in-Ok-End.field-0-is at read.2) (c.close.ensures.exact held))

pub returns-in-Ok-Cut-clause-exact : goal.returns-in-Ok-Cut-clause-exact
returns-in-Ok-Cut-clause-exact g c =
    λ held told here.
    let read = c.in-Ok-Cut.ensures.exact held told here in
    let p = progress held c.args.self.now c.args.file.now c.args.names.now in
    let q = progress held c.args.self.now c.read_unseen.new.self c.args.names.now in
    (read.0, stops_no_miss c.refusal.result c.refusal.ensures.stops, inactive_next (λ (t : Turn). (t, p)) p (unseens.Cut c.in-Ok-Cut.cut) (opened_as held c.read_unseen.new.self) (Err c.refusal.result) (rw c.in-Ok-Cut.field-0-is at read.2) (inr (ap (λ (e : Refusal). Err e) c.refusal.ensures.exact)))

pub returns-in-Err-clause-exact : goal.returns-in-Err-clause-exact
returns-in-Err-clause-exact g c =
    λ held told here.
    let x = c.in-Err.ensures.exact held told here in
    (x.0, x.1, inl x.2)
