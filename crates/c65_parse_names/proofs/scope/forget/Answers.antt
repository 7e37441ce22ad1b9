use Rattle.std.proofs.Common.{arith}
use Rattle.c65_parse_names.proofs.Blocks.{forgets_nothing, beyond}
use Rattle.c65_parse_names.proofs.scope.forget.Goals as goal

pub returns-in_default : goal.returns-in_default
returns-in_default c =
    let past = beyond c.args.name.0 _ c.in_default.ensures.variant.1 in
    forgets_nothing c.args.kinds.now.items c.args.name (omega (arith, past, c.args.kinds.now.ok))
