use Rattle.std.proofs.Common.{◌≡◌, Ok, refl, subst}
use Rattle.c65_ppline.specs.declared.directive.Deed.{Deed}
use Rattle.c65_ppline.specs.declared.directive.Deed.TheVariants as deeds
use Rattle.c65_ppdir.specs.declared.reader.Turn.TheVariants as turns
use Rattle.c65_ppdir.specs.LineActions.{obeyed, parted, renumbering}
use Rattle.c65_ppline.specs.Relations.{Comes}
use Rattle.c65_ppdir.proofs.Acting.{as_a_line}
use Rattle.c65_ppdir.specs.declared.reader.Turn.{Turn}
use Rattle.c65_ppdir.specs.Progress.{progress}
use Rattle.c65_ppdir.proofs.reader.Reader.obey.Goals as goal

pub returns-in-Ok-clause-exact : goal.returns-in-Ok-clause-exact
returns-in-Ok-clause-exact c =
    λ held.
    let p = progress held c.args.self.now c.args.file.now c.args.names.now in
    let e : deeds.Include ≡ c.args.deed = cc (c.in-Include.is) in
    subst (λ (d : Deed). obeyed d c.args.line p (Ok (turns.Include c.in-Ok.header, progress held c.args.self.now c.args.file.now c.include_line.new.names))) e ((c.in-Ok.header, c.include_line.new.names), c.in-Ok.ensures.exact, refl)

pub returns-in-Renumber-clause-exact : goal.returns-in-Renumber-clause-exact
returns-in-Renumber-clause-exact c =
    λ held.
    let p = progress held c.args.self.now c.args.file.now c.args.names.now in
    let q = progress held c.renumber.new.self c.renumber.new.file c.renumber.new.names in
    let e : deeds.Renumber ≡ c.args.deed = cc (c.in-Renumber.is) in
    subst (λ (d : Deed). Comes (λ (t : Turn). (t, q)) (obeyed d c.args.line p) c.as_line-in-Renumber.result) e
    (as_a_line (renumbering c.args.line p) q c.renumber.result c.as_line-in-Renumber.result c.as_line-in-Renumber.ensures (c.renumber.ensures.exact held))

pub returns-in-Group-clause-exact : goal.returns-in-Group-clause-exact
returns-in-Group-clause-exact c =
    λ held.
    let p = progress held c.args.self.now c.args.file.now c.args.names.now in
    let q = progress held c.part.new.self c.part.new.file c.part.new.names in
    let e : deeds.Group c.in-Group.part ≡ c.args.deed = cc (c.in-Group.is) in
    subst (λ (d : Deed). Comes (λ (t : Turn). (t, q)) (obeyed d c.args.line p) c.as_line-in-Group.result) e
    (as_a_line (parted c.in-Group.part c.args.line p) q c.part.result c.as_line-in-Group.result c.as_line-in-Group.ensures (c.part.ensures.exact held))
