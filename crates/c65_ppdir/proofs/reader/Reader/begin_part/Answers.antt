use Rattle.std.proofs.Common.{Bool, sym, subst}
use Rattle.c65_ppdir.specs.LineActions.{begun_if}
use Rattle.c65_ppdir.specs.Progress.{Progress, progress}
use Rattle.c65_ppline.specs.Relations.{Comes}
use Rattle.c65_ppdir.proofs.reader.Reader.begin_part.Goals as goal

pub returns-then-is_read-clause-exact : goal.returns-then-is_read-clause-exact
returns-then-is_read-clause-exact c =
    λ held.
    let p = progress held c.args.self.now c.args.file.now c.args.names.now in
    let view : Unit {0} → Progress = λ x. progress held c.decide.new.self c.decide.new.file c.decide.new.names in
    subst (λ (b : Bool). Comes view (begun_if b c.args.test c.args.line p) c.decide.result) (sym c.if-is_read.true) (c.decide.ensures.exact held)
