use Rattle.c65_genstmt.proofs.Counts.{block_is}
use Rattle.c65_genstmt.proofs.cases.+defaults.Goals as goal

pub has_default-returns-in-Block : goal.has_default-returns-in-Block
has_default-returns-in-Block t c =
    rw (block_is c.args.stmt.now c.in-Block.field-0 c.in-Block.stmts c.deref.result.now c.in-Block.is c.deref.ensures.value) c.have_default.ensures
