use Rattle.c65_ppline.proofs.Definitions.{all_stop}
use Rattle.c65_ppline.proofs.Answers.{gives_by}
use Rattle.c65_macro.specs.Definitions.{define}
use Rattle.c65_ppline.proofs.calls.define.Goals as goal

pub returns-clause-refused : goal.returns-clause-refused
returns-clause-refused c =
    all_stop c.define.result c.args.macros.now c.args.item c.args.pos c.define.ensures.refused

pub returns-clause-defined : goal.returns-clause-defined
returns-clause-defined c =
    gives_by c.define.result c.define.new.self (define c.args.macros.now c.args.item c.args.pos) c.define.ensures.ok c.define.ensures.refused
