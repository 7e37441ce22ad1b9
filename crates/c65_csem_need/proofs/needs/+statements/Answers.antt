use Rattle.std.proofs.Common.{arith}
use Rattle.c65_csem_need.proofs.Trees.{block_need, stmts_next, stmts_past}
use Rattle.c65_csem_need.proofs.needs.+statements.Goals as goal

pub greatest_need-returns-in-Block : goal.greatest_need-returns-in-Block
greatest_need-returns-in-Block t c =
    omega (arith, block_need c.args.stmt.now c.in-Block.field-0 c.in-Block.stmts c.deref-inner.result.now c.in-Block.is c.deref-inner.ensures.value, c.greatest_need_of_all.ensures)

pub greatest_need_of_all-loop-stmt-preserved : goal.greatest_need_of_all-loop-stmt-preserved
greatest_need_of_all-loop-stmt-preserved t c =
    omega (arith, stmts_next c.args.stmts.now c.loop-stmt.stmt-index c.stmt-item.result c.loop-stmt-test.true c.stmt-item.is, c.loop-stmt.invariant, c.greatest_need.ensures, c.max-most.ensures)

pub greatest_need_of_all-returns : goal.greatest_need_of_all-returns
greatest_need_of_all-returns t c =
    omega (arith, stmts_past c.args.stmts.now c.loop-stmt.stmt-index c.loop-stmt-test.false, c.loop-stmt.invariant)
