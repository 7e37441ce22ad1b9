use Rattle.c65_agree_stmts.proofs.Blocks.{open_block_does}
use Rattle.c65_agree_stmts.proofs.laws.open_block_does.Goals as goal

pub returns : goal.returns
returns c = open_block_does
