use Rattle.std.proofs.Common.{Ok, inl, inr, ap}
use Rattle.c65_ppdir.specs.declared.tokens.Output.{Output}
use Rattle.c65_ppdir.specs.Files.{opened_as}
use Rattle.c65_ppdir.specs.Progress.{Progress}
use Rattle.c65_ppdir.proofs.Acting.{renumber_is}
use Rattle.c65_ppdir.proofs.reader.Reader.renumber.Goals as goal

pub returns-in-Ok-clause-exact : goal.returns-in-Ok-clause-exact
returns-in-Ok-clause-exact c =
    λ held.
    let new = c.count_from.new.self in (
      (c.in-Ok.given, c.number_line.new.names),
      c.in-Ok.ensures.exact,
      ap (λ (q : Progress). Ok q)
          (renumber_is c.args.self.now.macros new.macros c.args.self.now.output.given new.output.given c.args.self.now.output.list.items new.output.list.items (opened_as held c.args.file.now) c.number_line.new.names c.in-Ok.given c.args.line c.literal_by-file.result c.literal_by-file.ensures c.count_from.ensures.table
          (ap (λ (o : Output). o.given) c.count_from.ensures.output) (ap (λ (o : Output). o.list.items) c.count_from.ensures.output)),
    )

pub returns-in-Err-clause-exact : goal.returns-in-Err-clause-exact
returns-in-Err-clause-exact c = λ held. inr (inl (c.number_line.new.names, c.in-Err.ensures.exact))
