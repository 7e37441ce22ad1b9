use Rattle.std.proofs.Common.{◌-◌, length, false}
use Rattle.std.proofs.lemmas.Option.{unwrap_or-slice_get}
use Rattle.c65_parse_names.proofs.Blocks.{nearest_at}
use Rattle.c65_parse_names.proofs.scope.nearest.Goals as goal

pub returns : goal.returns
returns c = cc (unwrap_or-slice_get c.args.kinds.now (length c.args.kinds.now - 1) false, nearest_at c.args.kinds.now)
