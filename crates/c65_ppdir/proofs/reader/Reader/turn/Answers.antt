use Rattle.std.proofs.Common.{◌∙◌, sym}
use Rattle.c65_ppline.specs.Conditions.{is_active}
use Rattle.c65_ppdir.specs.LineActions.{active, inactive}
use Rattle.c65_ppdir.specs.Progress.{progress}
use Rattle.c65_ppline.proofs.Relations.{tested, tested_not}
use Rattle.c65_ppdir.proofs.reader.Reader.turn.Goals as goal

pub returns-then-is_active-clause-exact : goal.returns-then-is_active-clause-exact
returns-then-is_active-clause-exact g c =
    λ held told here.
    let p = progress held c.args.self.now c.args.file.now c.args.names.now in
    let read = c.active.ensures.exact held told here in
    (read.0, read.1, tested (λ t. (t, progress held c.active.new.self c.active.new.file c.active.new.names)) (is_active c.args.file.now.groups) (active p) (inactive p) c.active.result (sym c.is_active.ensures ∙ c.if-is_active.true) read.2)

pub returns-else-is_active-clause-exact : goal.returns-else-is_active-clause-exact
returns-else-is_active-clause-exact g c =
    λ held told here.
    let p = progress held c.args.self.now c.args.file.now c.args.names.now in
    let read = c.inactive.ensures.exact held told here in
    (read.0, read.1, tested_not (λ t. (t, progress held c.inactive.new.self c.inactive.new.file c.inactive.new.names)) (is_active c.args.file.now.groups) (active p) (inactive p) c.inactive.result (sym c.is_active.ensures ∙ c.if-is_active.false) read.2)
