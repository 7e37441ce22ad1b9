use Rattle.std.proofs.Common.{Ok, refl, ap}
use Rattle.c65_ppdir.specs.declared.reader.Turn.TheVariants as turns
use Rattle.c65_ppdir.specs.declared.unit.Event.{Event}
use Rattle.c65_ppdir.specs.Progress.{progress}
use Rattle.c65_ppdir.specs.Standing.{Standing, standing}
use Rattle.c65_ppdir.proofs.Units.{no_turn}
use Rattle.c65_ppdir.proofs.unit.Unit.advance.Goals as goal

pub returns-in-Ok-Line-clause-exact : goal.returns-in-Ok-Line-clause-exact
returns-in-Ok-Line-clause-exact g c =
    λ held told here others.
    let x = c.in-Ok-Line.ensures.exact held told here in
    (x.0, others, tt, ((turns.Line, progress held c.turn.new.self c.turn.new.file c.turn.new.names), rw c.in-Ok-Line.field-0-is at x.2, refl))

pub returns-in-Ok-Include-clause-exact : goal.returns-in-Ok-Include-clause-exact
returns-in-Ok-Include-clause-exact g c =
    λ held told here others.
    let x = c.in-Ok-Include.ensures.exact held told here in
    (x.0, others, tt, ((turns.Include c.in-Ok-Include.header, progress held c.turn.new.self c.turn.new.file c.turn.new.names), rw c.in-Ok-Include.field-0-is at x.2, refl))

pub returns-in-Ok-FileEnd-clause-exact : goal.returns-in-Ok-FileEnd-clause-exact
returns-in-Ok-FileEnd-clause-exact g c =
    λ held told here others.
    let x = c.in-Ok-FileEnd.ensures.exact held told here in
    let back = c.leave.ensures.told held x.0 others in
    (back.0, back.1, tt, ((turns.FileEnd, progress held c.turn.new.self c.turn.new.file c.turn.new.names), rw c.in-Ok-FileEnd.field-0-is at x.2, ap (λ (y : Event × Standing). Ok y) (c.leave.ensures.exact held c.turn.new.names)))

pub returns-in-Err-clause-exact : goal.returns-in-Err-clause-exact
returns-in-Err-clause-exact g c =
    λ held told here others.
    let x = c.in-Err.ensures.exact held told here in
    let now = c.args.self.now in
    (x.0, others, x.1, no_turn (standing held now.reader now.file now.outer.items now.included.headers.items c.args.names.now) c.in-Err.refusal x.2)
