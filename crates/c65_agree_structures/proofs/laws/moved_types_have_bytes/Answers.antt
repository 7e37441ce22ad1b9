use Rattle.c65_agree_structures.proofs.Moved.{moved_types_have_bytes}
use Rattle.c65_agree_structures.proofs.laws.moved_types_have_bytes.Goals as goal

pub returns : goal.returns
returns c = moved_types_have_bytes
