use Rattle.c65_driver_chain.proofs.ChainLaws.{unit_stops, later_stops, fault_later, miss_later}
use Rattle.c65_csem.specs.Views.{unit_of}
use Rattle.c65_driver_chain.specs.Front.{command}
use Rattle.c65_driver_chain.proofs.Answering.{file_stops, file_refused, file_comes}
use Rattle.c65_driver_chain.proofs.unit.typed_unit.Goals as goal

pub returns-in-Err-clause-compiles : goal.returns-in-Err-clause-compiles
returns-in-Err-clause-compiles g c =
    let before = c.in-Err.ensures in
    record {
      same = before.same;
      written = before.writes;
      read = before.read;
      missing = before.missing;
      refused = unit_stops c.in-Err.refusal before.refused;
    }

pub returns-in-Err-typed-clause-compiles : goal.returns-in-Err-typed-clause-compiles
returns-in-Err-typed-clause-compiles g c =
    let before = c.in-Ok.ensures in
    record {
      same = before.same;
      written = before.writes;
      read = fault_later (g.F.Files.faults c.args.files.now) (g.F.Files.faults c.preprocess.new.files) c.located.result c.located.ensures.stops before.read;
      missing = miss_later c.args.folders.now (g.F.Files.misses c.args.files.now) (g.F.Files.misses c.preprocess.new.files) c.located.result c.located.ensures.stops before.missing;
      refused = later_stops c.located.result c.located.ensures.stops;
    }

pub returns-in-Err-clause-exact : goal.returns-in-Err-clause-exact
returns-in-Err-clause-exact g c = λ held told. file_stops (command held c.args.options.now c.args.defines.now c.args.folders.now) c.args.rest c.args.path.now c.args.names.now c.in-Err.refusal (c.in-Err.ensures.exact held told)

pub returns-in-Err-typed-clause-exact : goal.returns-in-Err-typed-clause-exact
returns-in-Err-typed-clause-exact g c = λ held told. file_refused (command held c.args.options.now c.args.defines.now c.args.folders.now) c.args.rest c.args.path.now c.args.names.now c.preprocess.new.names c.in-Ok.unit c.in-Err-typed.refusal c.located.result (c.in-Ok.ensures.exact held told) c.in-Err-typed.ensures c.located.ensures.exact

pub returns-in-Ok-typed-clause-exact : goal.returns-in-Ok-typed-clause-exact
returns-in-Ok-typed-clause-exact g c = λ held told. file_comes (command held c.args.options.now c.args.defines.now c.args.folders.now) c.args.rest c.args.path.now c.args.names.now c.preprocess.new.names c.in-Ok.unit (unit_of c.in-Ok-typed.parts) (c.in-Ok.ensures.exact held told) c.in-Ok-typed.ensures
