use Rattle.std.proofs.Common.{arith, ap, sym, ◌∙◌}
use Rattle.c65_genstmt.proofs.Counts.{count, block_is}
use Rattle.c65_genstmt.proofs.Lasts.{last_of, any_is}
use Rattle.c65_genstmt.proofs.stmt.+returns.Goals as goal

pub returns_last-any_last-requires : goal.returns_last-any_last-requires
returns_last-any_last-requires t c =
    (omega (arith, ap count (block_is c.args.stmt.now c.in-Block.field-0 c.in-Block.stmts c.deref.result.now c.in-Block.is c.deref.ensures.value)), tt)

pub returns_last-returns-in-Block : goal.returns_last-returns-in-Block
returns_last-returns-in-Block t c =
    rw (block_is c.args.stmt.now c.in-Block.field-0 c.in-Block.stmts c.deref.result.now c.in-Block.is c.deref.ensures.value) c.any_last.ensures

pub any_last-returns_last-requires : goal.any_last-returns_last-requires
any_last-returns_last-requires t c =
    (omega (arith, last_of c.args.stmts.now c.in-Some.field-0-1.now c.in-Some.last.now c.in-Some.ensures.cases.0), tt)

pub any_last-returns-in-Some : goal.any_last-returns-in-Some
any_last-returns-in-Some t c =
    c.returns_last.ensures ∙ sym (any_is c.args.stmts.now c.in-Some.field-0-1.now c.in-Some.last.now c.in-Some.ensures.cases.0)
