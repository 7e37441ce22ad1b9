use Rattle.std.proofs.Common.{Ok, inr, refl}
use Rattle.c65_ppdir.specs.Progress.{progress}
use Rattle.c65_ppdir.proofs.Reading.{settles_behind}
use Rattle.c65_ppdir.proofs.reader.Reader.settle.Goals as goal

pub returns-in-Ok-clause-exact : goal.returns-in-Ok-clause-exact
returns-in-Ok-clause-exact c =
    λ held file. inr (Ok (progress held c.flush.new.self file c.flush.new.names), c.in-Ok.ensures.exact held file, refl)

pub returns-in-Err-clause-exact : goal.returns-in-Err-clause-exact
returns-in-Err-clause-exact c =
    λ held file. settles_behind c.args.fault c.in-Err.refusal c.earlier.result (progress held c.args.self.now file c.args.names.now) c.earlier.ensures.exact (c.in-Err.ensures.exact held file)
