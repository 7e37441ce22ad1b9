use Rattle.c65_live.proofs.Samples.{loop_keeps, keeps_sp, forgets_byte, forgets_carry}
use Rattle.c65_live.proofs.laws.live_samples.Goals as goal

pub returns-clause-turn : goal.returns-clause-turn
returns-clause-turn c = loop_keeps

pub returns-clause-byte : goal.returns-clause-byte
returns-clause-byte c = forgets_byte

pub returns-clause-carry : goal.returns-clause-carry
returns-clause-carry c = forgets_carry

pub returns-clause-sp : goal.returns-clause-sp
returns-clause-sp c = keeps_sp
