use Rattle.std.proofs.Common.{◌∙◌}
use Rattle.c65_ctype.specs.Views.{qty_of}
use Rattle.c65_csem.specs.Views.{unit_of}
use Rattle.c65_csem_check.specs.Contexts.{context}
use Rattle.c65_csem_check.proofs.CodeLaws.{both_same, block_stmt}
use Rattle.c65_csem_check.proofs.stmts.+stmts.Goals as goal

pub is_stmt-returns-in_ok-rest-in-Block : goal.is_stmt-returns-in_ok-rest-in-Block
is_stmt-returns-in_ok-rest-in-Block t c =
    c.are_both.ensures
    ∙ both_same c.are_automatic-own.ensures c.in_ok-rest-in-Block.ensures
    ∙ block_stmt (unit_of c.args.parts.now) (context c.args.labels.now (qty_of c.args.gives.now) c.args.at) c.args.stmt.now c.in-Block.objects c.in-Block.stmts c.deref-numbers.result.now c.deref-inner.result.now c.in-Block.is c.deref-numbers.ensures.value c.deref-inner.ensures.value
