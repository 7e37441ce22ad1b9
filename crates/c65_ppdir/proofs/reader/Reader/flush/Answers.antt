use Rattle.std.proofs.Common.{refl}
use Rattle.c65_ppdir.proofs.Reading.{flushes}
use Rattle.c65_ppdir.proofs.reader.Reader.flush.Goals as goal

pub returns-clause-exact : goal.returns-clause-exact
returns-clause-exact c =
    λ held file. flushes held c.args.self.now (record c.args.self.now { output = c.flush.new.self }) file c.args.names.now c.flush.new.names c.flush.result refl c.flush.ensures.exact c.flush.ensures.ended
