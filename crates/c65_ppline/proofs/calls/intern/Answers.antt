use Rattle.c65_macro.proofs.Learning.{learned}
use Rattle.c65_ppline.proofs.calls.intern.Goals as goal

pub returns-clause-exact : goal.returns-clause-exact
returns-clause-exact c =
    learned c.args.names.now c.intern.new.self c.args.spelling.now c.intern.result c.intern.ensures.name c.intern.ensures.table c.intern.ensures.room c.intern.ensures.refused
