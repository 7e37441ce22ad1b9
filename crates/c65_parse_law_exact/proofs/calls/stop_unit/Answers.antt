use Rattle.std.proofs.Common.{arith}
use Rattle.c65_decl.specs.Units.{unit_read}
use Rattle.c65_parse_law_least.proofs.Scopes.{stopped}
use Rattle.c65_parse_law_exact.proofs.Whole.{units_stop_at}
use Rattle.c65_parse_law_exact.proofs.calls.stop_unit.Goals as goal

pub returns : goal.returns
returns c = stopped 256 _ c.parse_unit.result (unit_read 256 c.args.tokens.now) _ _ _ c.parse_unit.ensures (λ fault e. units_stop_at 256 c.args.tokens.now fault (omega arith) c.requires e)
