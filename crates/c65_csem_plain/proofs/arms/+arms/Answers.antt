use Rattle.std.proofs.Common.{◌∙◌}
use Rattle.c65_csem_plain.proofs.CodeLaws.{block_arms}
use Rattle.c65_csem_plain.proofs.arms.+arms.Goals as goal

pub has_few_arms-returns-in-Block : goal.has_few_arms-returns-in-Block
has_few_arms-returns-in-Block t c = c.have_few_arms.ensures ∙ block_arms c.args.outside c.args.stmt.now c.in-Block.field-0 c.in-Block.stmts c.deref.result.now c.in-Block.is c.deref.ensures.value
