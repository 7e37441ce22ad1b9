use Rattle.c65_macro.proofs.Learning.{learned}
use Rattle.c65_macro.proofs.text.learn.Goals as goal

pub returns-clause-value : goal.returns-clause-value
returns-clause-value c = learned c.args.names.now c.intern.new.self c.args.spelling.now c.intern.result c.intern.ensures.name c.intern.ensures.table c.intern.ensures.room c.intern.ensures.refused
