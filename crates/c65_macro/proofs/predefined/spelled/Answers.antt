use Rattle.c65_macro.proofs.Refusals.{all_lack}
use Rattle.c65_macro.proofs.Learning.{learned}
use Rattle.c65_macro.proofs.predefined.spelled.Goals as goal

pub returns-clause-refused : goal.returns-clause-refused
returns-clause-refused c = all_lack c.intern.result c.args.names.now c.args.spelling.now c.intern.ensures.refused

pub returns-clause-value : goal.returns-clause-value
returns-clause-value c = learned c.args.names.now c.intern.new.self c.args.spelling.now c.intern.result c.intern.ensures.name c.intern.ensures.table c.intern.ensures.room c.intern.ensures.refused
