use Rattle.std.proofs.Common.{List, map}
use Rattle.c65_csem.specs.Trees.{UnitTy}
use Rattle.c65_csem.specs.Views.{unit_of}
use Rattle.c65_driver_chain.specs.Front.{command}
use Rattle.c65_driver_chain.proofs.Answering.{begun_stops, begun_goes, not_typed, no_program, is_program}
use Rattle.c65_driver_chain.proofs.chain.join_files.Goals as goal

pub returns-in-Err-clause-exact : goal.returns-in-Err-clause-exact
returns-in-Err-clause-exact g c = λ held told.
    let k = command held c.args.options.now c.args.defines.now c.args.folders.now in
    not_typed k c.args.paths.now c.in-Err.refusal c.if-paths-gt-UNITS.false
    (begun_stops k c.args.paths.now c.in-Ok.rest c.in-Ok.names c.in-Err.refusal c.in-Ok.ensures.name c.in-Ok.ensures.names (c.in-Err.ensures.exact held told))

pub returns-in-Ok-program_of-clause-exact : goal.returns-in-Ok-program_of-clause-exact
returns-in-Ok-program_of-clause-exact g c = λ held told.
    let k = command held c.args.options.now c.args.defines.now c.args.folders.now in
    let units : List UnitTy = map unit_of c.in-Ok-typed_units.units.items in
    is_program k c.args.paths.now units c.typed_units.new.names (unit_of c.in-Ok-program_of.program.0, c.in-Ok-program_of.program.1) c.if-paths-gt-UNITS.false
    (begun_goes k c.args.paths.now c.in-Ok.rest c.in-Ok.names (units, c.typed_units.new.names) c.in-Ok.ensures.name c.in-Ok.ensures.names (c.in-Ok-typed_units.ensures.exact held told))
    c.in-Ok-program_of.ensures.exact

pub returns-in-Err-program_of-clause-exact : goal.returns-in-Err-program_of-clause-exact
returns-in-Err-program_of-clause-exact g c = λ held told.
    let k = command held c.args.options.now c.args.defines.now c.args.folders.now in
    let units : List UnitTy = map unit_of c.in-Ok-typed_units.units.items in
    no_program k c.args.paths.now units c.typed_units.new.names c.in-Err-program_of.refusal c.of_all.result c.if-paths-gt-UNITS.false
    (begun_goes k c.args.paths.now c.in-Ok.rest c.in-Ok.names (units, c.typed_units.new.names) c.in-Ok.ensures.name c.in-Ok.ensures.names (c.in-Ok-typed_units.ensures.exact held told))
    c.in-Err-program_of.ensures.exact c.of_all.ensures.exact
