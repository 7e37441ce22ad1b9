use Rattle.std.proofs.Common.{◌∙◌}
use Rattle.c65_init_join.specs.Uses.{marks_of}
use Rattle.c65_init_join.proofs.UseLaws.{block_named}
use Rattle.c65_init_join.proofs.marks.+stmts.Goals as goal

pub mark_stmt-returns-in-Block : goal.mark_stmt-returns-in-Block
mark_stmt-returns-in-Block t c =
    c.mark_stmts.ensures
    ∙ block_named (marks_of c.args.marks.now) c.args.stmt.now c.in-Block.field-0 c.in-Block.stmts c.deref-inner.result.now c.in-Block.is c.deref-inner.ensures.value
