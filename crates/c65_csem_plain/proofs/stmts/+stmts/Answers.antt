use Rattle.std.proofs.Common.{◌∙◌}
use Rattle.c65_csem.specs.Views.{unit_of}
use Rattle.c65_csem_plain.proofs.CodeLaws.{block_stmt}
use Rattle.c65_csem_plain.proofs.stmts.+stmts.Goals as goal

pub is_plain_stmt-returns-in-Block : goal.is_plain_stmt-returns-in-Block
is_plain_stmt-returns-in-Block t c =
    c.are_plain_stmts.ensures
    ∙ block_stmt (unit_of c.args.parts.now) c.args.own.now c.args.stmt.now c.in-Block.field-0 c.in-Block.stmts c.deref.result.now c.in-Block.is c.deref.ensures.value
