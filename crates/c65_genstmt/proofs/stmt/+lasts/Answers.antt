use Rattle.std.proofs.Common.{arith, ap, sym}
use Rattle.c65_genstmt.proofs.Counts.{count, block_is}
use Rattle.c65_genstmt.proofs.Lasts.{last_of, lasts_is}
use Rattle.c65_genstmt.proofs.stmt.+lasts.Goals as goal

pub put_last-put_lasts-requires : goal.put_last-put_lasts-requires
put_last-put_lasts-requires t c =
    (omega (arith, ap count (block_is c.args.stmt.now c.in-Block.field-0 c.in-Block.stmts c.deref.result.now c.in-Block.is c.deref.ensures.value)), tt)

pub put_last-returns-in-Block : goal.put_last-returns-in-Block
put_last-returns-in-Block t c =
    rw (block_is c.args.stmt.now c.in-Block.field-0 c.in-Block.stmts c.deref.result.now c.in-Block.is c.deref.ensures.value) (record { lines = c.put_lasts.ensures.lines })

pub put_lasts-put_last-requires : goal.put_lasts-put_last-requires
put_lasts-put_last-requires t c =
    (omega (arith, last_of c.args.stmts.now c.in-Some.before.now c.in-Some.last.now c.in-Some.ensures.cases.0), tt)

pub put_lasts-returns-in_ok-put_stmts-in-Some : goal.put_lasts-returns-in_ok-put_stmts-in-Some
put_lasts-returns-in_ok-put_stmts-in-Some t c =
    rw (lasts_is c.args.frame.now c.args.ways c.args.case.now c.args.stmts.now c.in-Some.before.now c.in-Some.last.now c.args.draft.now c.in-Some.ensures.cases.0) (rw (sym c.in_ok-put_stmts-in-Some.ensures.cases) (rw (sym c.in_ok-put_stmts-in-Some.ensures.lines) (record { lines = c.put_last.ensures.lines })))
