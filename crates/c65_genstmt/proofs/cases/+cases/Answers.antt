use Rattle.c65_genstmt.proofs.Counts.{block_is}
use Rattle.c65_genstmt.proofs.cases.+cases.Goals as goal

pub add_cases-returns-in-Block : goal.add_cases-returns-in-Block
add_cases-returns-in-Block t c =
    rw (block_is c.args.stmt.now c.in-Block.field-0 c.in-Block.stmts c.deref.result.now c.in-Block.is c.deref.ensures.value) c.add_cases_in.ensures
