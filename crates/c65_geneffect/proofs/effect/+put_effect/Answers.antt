use Rattle.c65_genwide.proofs.Kept.{grown_last}
use Rattle.c65_geneffect.proofs.effect.+put_effect.Goals as goal

pub returns-in_ok-put_effect-in-Comma-clause-kept : goal.returns-in_ok-put_effect-in-Comma-clause-kept
returns-in_ok-put_effect-in-Comma-clause-kept t c = grown_last _ _ _ _ _ _ c.in_ok-put_effect-in-Comma.ensures.lines c.put_effect-in-Comma-2.ensures.kept
