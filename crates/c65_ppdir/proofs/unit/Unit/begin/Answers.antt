use Rattle.std.proofs.Common.{◌∙◌, [], List, Ok, pos, reverse, ap}
use Rattle.std.specs.Prelude.{map}
use Rattle.c65_macro.specs.Table.{Table}
use Rattle.c65_ppdir.specs.declared.opened.Opened.{Opened}
use Rattle.c65_ppdir.specs.declared.tokens.Output.{Output}
use Rattle.c65_ppdir.specs.Files.{opened_as}
use Rattle.c65_ppdir.specs.Opening.{opened}
use Rattle.c65_ppdir.specs.Standing.{Standing}
use Rattle.c65_ppdir.proofs.Standing.{made_is, counted, opened_text, told_new, told_none}
use Rattle.c65_ppdir.proofs.unit.Unit.begin.Goals as goal

pub returns-clause-exact : goal.returns-clause-exact
returns-clause-exact c =
    λ held bytes there.
    let known = c.literal_name.new.names in
    let first = c.new-reader.result in
    let new = c.count_from.new.self in
    let name = c.in-Ok.literal in
    let file = opened_as held c.new-file.result in
    let first_is = opened_text held c.args.text c.new-file.result 0 name bytes c.new-file.ensures there in (
      (name, known),
      c.in-Ok.ensures.exact,
      ap (λ (s : Standing). Ok s)
          (made_is new.macros (record c.args.macros { file = name; offset = pos 0 }) new.output.given [] new.output.list.items [] file (opened 0 name bytes) known (map (opened_as held) (reverse c.new-outer.result.items)) [] c.new-included.result.headers.items []
          (counted first.macros new.macros 0 name bytes file c.count_from.ensures.table first_is ∙ ap (λ (t : Table). record t { file = name; offset = pos 0 }) c.new-reader.ensures.table)
          (ap (λ (o : Output). o.given) c.count_from.ensures.output ∙ c.new-reader.ensures.given)
          (ap (λ (o : Output). o.list.items) c.count_from.ensures.output ∙ c.new-reader.ensures.list)
          first_is (ap (λ (xs : List Opened). map (opened_as held) (reverse xs)) c.new-outer.ensures.items) c.new-included.ensures.none),
    )

pub returns-clause-told : goal.returns-clause-told
returns-clause-told c = λ held told. (told_new held c.args.text c.new-file.result c.new-file.ensures told, told_none held c.new-outer.result.items c.new-outer.ensures.items)
