use Rattle.c65_genframe.proofs.Blocks.{block_done}
use Rattle.c65_genframe.proofs.body.+add_objects.Goals as goal

pub returns-after-loop-inner : goal.returns-after-loop-inner
returns-after-loop-inner t c =
    block_done c.args.stmt.now c.in-Block.objects c.in-Block.stmts c.args.into.now.items c.extend_from_slice.new.self.items c.loop-inner.into.items c.deref.result.now c.deref-inner-items.result.now c.loop-inner.inner-index c.in-Block.is c.deref.ensures.value c.in_ok-extend_from_slice-in-Block.ensures.items c.deref-inner-items.ensures.value c.loop-inner-test.false c.loop-inner.invariant
