use Rattle.std.proofs.Common.{arith}
use Rattle.c65_parse_law_sound.proofs.Answered.{if_gives}
use Rattle.c65_parse_law_sound.proofs.Derivations.{exprs_are_derived}
use Rattle.c65_parse_law_sound.proofs.calls.take_constant.Goals as goal

pub returns : goal.returns
returns c = if_gives _ _ c.parse_constant.result _ c.parse_constant.ensures (λ e same. exprs_are_derived 256 2 _ _ _ _ _ _ (omega arith) same)
