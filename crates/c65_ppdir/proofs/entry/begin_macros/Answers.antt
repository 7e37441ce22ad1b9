use Rattle.c65_ppdir.proofs.Wholes.{macros_go, macros_stop}
use Rattle.c65_ppdir.proofs.entry.begin_macros.Goals as goal

pub returns-in-Ok-define_all-clause-exact : goal.returns-in-Ok-define_all-clause-exact
returns-in-Ok-define_all-clause-exact c =
    macros_go c.args.options.now c.args.defines.now c.args.names.now c.new.new.names c.define_all.new.names c.in-Ok.macros c.define_all.new.macros c.in-Ok.ensures.value c.in-Ok-define_all.ensures.exact

pub returns-in-Err-define_all-clause-exact : goal.returns-in-Err-define_all-clause-exact
returns-in-Err-define_all-clause-exact c =
    macros_stop c.args.options.now c.args.defines.now c.args.names.now c.new.new.names c.in-Ok.macros c.in-Err-define_all.refusal c.in-Ok.ensures.value c.in-Err-define_all.ensures.exact
