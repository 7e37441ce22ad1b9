use Rattle.std.proofs.Common.{◌≡◌, subst}
use Rattle.std.specs.Prelude.{OnOk}
use Rattle.c65_csem_plain.proofs.CodeLaws.{block_added}
use Rattle.c65_csem_plain.proofs.stmts.+objects.Goals as goal

pub add_objects-returns-in_ok-extend_from_slice-in-Block : goal.add_objects-returns-in_ok-extend_from_slice-in-Block
add_objects-returns-in_ok-extend_from_slice-in-Block t c =
    subst (λ ns. OnOk c.add_objects_in.result (c.add_objects_in.new.objects.items ≡ ns))
    (block_added c.args.objects.now.items c.extend_from_slice.new.self.items c.args.stmt.now c.in-Block.own c.in-Block.stmts c.deref-numbers.result.now c.deref-inner.result.now c.in_ok-extend_from_slice-in-Block.ensures.items c.in-Block.is c.deref-numbers.ensures.value c.deref-inner.ensures.value)
    c.add_objects_in.ensures
