use Rattle.c65_driver_chain.specs.Front.{command}
use Rattle.c65_driver_chain.proofs.Answering.{no_code, not_generated, is_compiled}
use Rattle.c65_driver_chain.proofs.chain.compile.Goals as goal

pub returns-in-Err-clause-exact : goal.returns-in-Err-clause-exact
returns-in-Err-clause-exact g c = λ held told.
    no_code (command held c.args.options.now c.args.defines.now c.args.folders.now) c.args.paths.now c.in-Err.refusal (c.in-Err.ensures.exact held told)

pub returns-in-Ok-gen_program-clause-exact : goal.returns-in-Ok-gen_program-clause-exact
returns-in-Ok-gen_program-clause-exact g c = λ held told.
    is_compiled (command held c.args.options.now c.args.defines.now c.args.folders.now) c.args.paths.now
    c.in-Ok.joined.names c.in-Ok.joined.program.0 c.in-Ok.joined.program.1 c.in-Ok-gen_program.code
    (c.in-Ok.ensures.exact held told) c.in-Ok.ensures.good c.in-Ok-gen_program.ensures

pub returns-clause-exact : goal.returns-clause-exact
returns-clause-exact g c = λ held told.
    not_generated (command held c.args.options.now c.args.defines.now c.args.folders.now) c.args.paths.now
    c.in-Ok.joined.names c.in-Ok.joined.program.0 c.in-Ok.joined.program.1 c.in-Err-gen_program.refusal c.of_all.result
    (c.in-Ok.ensures.exact held told) c.in-Ok.ensures.good c.in-Err-gen_program.ensures c.of_all.ensures.exact
