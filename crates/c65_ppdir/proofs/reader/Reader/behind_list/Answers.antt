use Rattle.c65_ppdir.specs.declared.reader.Turn.{Turn}
use Rattle.c65_ppdir.specs.LineActions.{directive}
use Rattle.c65_ppdir.specs.Progress.{progress, flushed}
use Rattle.c65_ppdir.proofs.Acting.{behind_list_next}
use Rattle.c65_ppdir.proofs.Texts.{stops_no_miss}
use Rattle.c65_ppline.proofs.Relations.{stops_first}
use Rattle.c65_ppdir.proofs.reader.Reader.behind_list.Goals as goal

pub returns-in-Ok-clause-exact : goal.returns-in-Ok-clause-exact
returns-in-Ok-clause-exact g c =
    λ held told here.
    let read = c.directive.ensures.exact held told here in
    let p = progress held c.args.self.now c.args.file.now c.args.names.now in
    (read.0, read.1, behind_list_next (λ (t : Turn). (t, progress held c.directive.new.self c.directive.new.file c.directive.new.names)) c.args.hash p (progress held c.flush.new.self c.args.file.now c.flush.new.names) c.directive.result (c.in-Ok.ensures.exact held c.args.file.now) read.2)

pub returns-in-Err-clause-exact : goal.returns-in-Err-clause-exact
returns-in-Err-clause-exact g c =
    λ held told here.
    let p = progress held c.args.self.now c.args.file.now c.args.names.now in
    (here, stops_no_miss c.in-Err.refusal c.in-Err.ensures.stops, stops_first (λ (x : Unit {0}). p) (λ (t : Turn). (t, p)) (flushed p) (directive c.args.hash) c.in-Err.refusal (c.in-Err.ensures.exact held c.args.file.now))
