use Rattle.std.proofs.Common.{arith, ap}
use Rattle.c65_csem.specs.Views.{typed_of, stmt_of}
use Rattle.c65_genstmt.proofs.Counts.{count, one_of, block_is}
use Rattle.c65_genstmt.proofs.Loops.{do_is}
use Rattle.c65_genstmt.proofs.stmt.+statements.Goals as goal

pub put_stmt-put_stmts-requires : goal.put_stmt-put_stmts-requires
put_stmt-put_stmts-requires t c =
    (omega (arith, ap count (block_is c.args.stmt.now c.in-Block.field-0 c.in-Block.stmts c.deref.result.now c.in-Block.is c.deref.ensures.value)), tt)

pub put_stmt-returns-in-Block-clause-lines : goal.put_stmt-returns-in-Block-clause-lines
put_stmt-returns-in-Block-clause-lines t c =
    rw (block_is c.args.stmt.now c.in-Block.field-0 c.in-Block.stmts c.deref.result.now c.in-Block.is c.deref.ensures.value) c.put_stmts.ensures.lines

pub put_stmt-returns-in-Block-clause-cases : goal.put_stmt-returns-in-Block-clause-cases
put_stmt-returns-in-Block-clause-cases t c =
    rw (block_is c.args.stmt.now c.in-Block.field-0 c.in-Block.stmts c.deref.result.now c.in-Block.is c.deref.ensures.value) c.put_stmts.ensures.cases

pub put_stmts-put_stmt-requires : goal.put_stmts-put_stmt-requires
put_stmts-put_stmt-requires t c =
    (omega (arith, one_of c.args.stmts.now c.loop-stmt.stmt-index c.stmt-item.result c.loop-stmt-test.true c.stmt-item.is), tt)

pub put_do-returns-clause-lines : goal.put_do-returns-clause-lines
put_do-returns-clause-lines t c =
    let turns = c.in_ok-turns.turns in
    do_is c.args.frame.now c.args.ways c.args.case.now (stmt_of c.args.body.now) (typed_of c.args.test.now) c.args.draft.now c.open_loop.new.draft c.put_stmt.new.draft c.close_loop.new.draft turns.head turns.onward turns.end c.in_ok-turns.ensures.lines c.in_ok-turns.ensures.head c.in_ok-turns.ensures.onward c.in_ok-turns.ensures.end c.in_ok-put_stmt.ensures.lines c.in_ok-close_loop.ensures
