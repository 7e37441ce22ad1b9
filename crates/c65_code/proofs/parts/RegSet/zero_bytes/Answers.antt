use Rattle.std.proofs.Common.{arith}
use Rattle.std.proofs.lemmas.Nat.{one_shl}
use Rattle.c65_code.proofs.PartLaws.{pow_at_most}
use Rattle.c65_code.proofs.parts.RegSet.zero_bytes.Goals as goal

pub overflow_sub-set : goal.overflow_sub-set
overflow_sub-set c = omega (arith, one_shl c.args.from 32 (omega arith), one_shl c.args.to 32 (omega arith), pow_at_most c.args.from c.args.to c.requires.order)
