use Rattle.std.proofs.Common.{◌∙◌, ◌∷◌, Ok, refl, ap, reverse}
use Rattle.std.specs.Prelude.{map}
use Rattle.c65_ppdir.specs.declared.tokens.Output.{Output}
use Rattle.c65_ppline.specs.NumberLines.{offset}
use Rattle.c65_ppdir.specs.declared.opened.Opened.{Opened}
use Rattle.c65_ppdir.specs.Files.{opened_as}
use Rattle.c65_ppdir.specs.Opening.{opened}
use Rattle.c65_ppdir.specs.Standing.{Standing}
use Rattle.c65_ppdir.proofs.Standing.{made_is, pushed, counted, opened_text, told_new, told_more}
use Rattle.c65_ppdir.proofs.unit.Unit.open.Goals as goal

pub returns-clause-exact : goal.returns-clause-exact
returns-clause-exact c =
    λ held bytes there.
    let known = c.literal_name.new.names in
    let old = c.args.self.now in
    let new = c.count_from.new.self in
    let name = c.in-Ok.literal in
    let file = opened c.args.number name bytes in
    let file_is = opened_text held c.args.text c.new-file.result c.args.number name bytes c.new-file.ensures there in (
      (name, known),
      c.in-Ok.ensures.exact,
      ap (λ (s : Standing). Ok s)
          (made_is new.macros (record old.reader.macros { file = name; offset = offset file.count }) new.output.given old.reader.output.given new.output.list.items old.reader.output.list.items (opened_as held c.replace-outer.new.dest) file known (map (opened_as held) (reverse c.push.new.self.items)) (opened_as held old.file ∷ map (opened_as held) (reverse old.outer.items)) old.included.headers.items old.included.headers.items
          (counted old.reader.macros new.macros c.args.number name bytes (opened_as held c.new-file.result) c.count_from.ensures.table file_is)
          (ap (λ (o : Output). o.given) c.count_from.ensures.output) (ap (λ (o : Output). o.list.items) c.count_from.ensures.output) (ap (λ (o : Opened). opened_as held o) c.replace-outer.ensures.after ∙ file_is)
          (pushed held old.outer.items c.push.new.self.items c.replace-outer.result old.file c.in_ok-push.ensures.items c.replace-outer.ensures.value) refl),
    )

pub returns-clause-told : goal.returns-clause-told
returns-clause-told c =
    λ held told here others.
    (told_new held c.args.text c.replace-outer.new.dest (c.replace-outer.ensures.after ∙ c.new-file.ensures) told, told_more held c.args.self.now.outer.items c.push.new.self.items c.replace-outer.result c.args.self.now.file c.in_ok-push.ensures.items c.replace-outer.ensures.value here others)
