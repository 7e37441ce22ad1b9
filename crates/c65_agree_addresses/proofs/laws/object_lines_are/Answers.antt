use Rattle.c65_agree_addresses.proofs.Objects.{object_lines_are}
use Rattle.c65_agree_addresses.proofs.laws.object_lines_are.Goals as goal

pub returns : goal.returns
returns c = object_lines_are
