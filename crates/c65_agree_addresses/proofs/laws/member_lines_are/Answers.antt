use Rattle.c65_agree_addresses.proofs.Trees.{member_lines_are}
use Rattle.c65_agree_addresses.proofs.laws.member_lines_are.Goals as goal

pub returns : goal.returns
returns c = member_lines_are
