use Rattle.std.proofs.Common.{Ok, Err, subst}
use Rattle.c65_ppdir.specs.declared.reader.Turn.{Turn}
use Rattle.c65_ppdir.specs.LineActions.{text_line}
use Rattle.c65_ppdir.specs.Files.{opened_as}
use Rattle.c65_ppdir.specs.Progress.{Progress, progress, added}
use Rattle.c65_ppline.specs.Relations.{Comes}
use Rattle.c65_ppdir.proofs.Acting.{one_line, no_line}
use Rattle.c65_ppdir.proofs.Reading.{add_is}
use Rattle.c65_ppdir.proofs.reader.Reader.text.Goals as goal

pub returns-in-Ok-text_line-clause-exact : goal.returns-in-Ok-text_line-clause-exact
returns-in-Ok-text_line-clause-exact g c =
    λ held told here.
    let more = c.in-Ok-text_line.ensures.exact held told here in
    let start = added c.args.token (progress held c.args.self.now c.args.file.now c.args.names.now) in
    let same = add_is c.args.self.now.macros c.args.self.now.output.given c.add.new.self.given c.args.self.now.output.list.items c.add.new.self.list.items (opened_as held c.args.file.now) c.args.names.now c.args.token c.in-Ok.ensures.added c.add.ensures.same in
    let new = progress held c.text_line.new.self c.text_line.new.file c.text_line.new.names in
    (more.0, tt, one_line (text_line start) new (subst (λ (p : Progress). Comes {X = Unit {0}} (λ _. new) (text_line p) (Ok tt)) same more.2))

pub returns-in-Err-text_line-clause-exact : goal.returns-in-Err-text_line-clause-exact
returns-in-Err-text_line-clause-exact g c =
    λ held told here.
    let more = c.in-Err-text_line.ensures.exact held told here in
    let p = progress held c.args.self.now c.args.file.now c.args.names.now in
    let start = added c.args.token p in
    let same = add_is c.args.self.now.macros c.args.self.now.output.given c.add.new.self.given c.args.self.now.output.list.items c.add.new.self.list.items (opened_as held c.args.file.now) c.args.names.now c.args.token c.in-Ok.ensures.added c.add.ensures.same in
    let new = progress held c.text_line.new.self c.text_line.new.file c.text_line.new.names in
    (more.0, more.1, no_line (λ (x : Unit {0}). new) (λ (t : Turn). (t, p)) (text_line start) c.in-Err-text_line.refusal (subst (λ (p : Progress). Comes {X = Unit {0}} (λ _. new) (text_line p) (Err c.in-Err-text_line.refusal)) same more.2))
