use Rattle.c65_genstmt.proofs.Counts.{block_is}
use Rattle.c65_genstmt.proofs.cases.+rooms.Goals as goal

pub room_of-returns-in-Block-clause-exact : goal.room_of-returns-in-Block-clause-exact
room_of-returns-in-Block-clause-exact t c =
    rw (block_is c.args.stmt.now c.in-Block.field-0 c.in-Block.stmts c.deref.result.now c.in-Block.is c.deref.ensures.value) c.room_in.ensures.exact
