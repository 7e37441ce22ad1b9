use Rattle.c65_parse_names.proofs.Blocks.{left}
use Rattle.c65_parse_names.proofs.scope.leave.Goals as goal

pub returns : goal.returns
returns c = left c.args.kinds.now c.pop.new.self c.pop.result c.pop.ensures.items c.pop.ensures.cases
