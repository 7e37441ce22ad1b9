use Rattle.std.proofs.Common.{◌≡◌, ◌++◌, subst}
use Rattle.std.specs.Prelude.{OnOk}
use Rattle.c65_csem_check.proofs.CodeLaws.{block_labels}
use Rattle.c65_csem_check.proofs.labels.+labels.Goals as goal

pub add_labels-returns-in-Block : goal.add_labels-returns-in-Block
add_labels-returns-in-Block t c =
    subst (λ ls. OnOk c.add_labels_in.result (c.add_labels_in.new.labels.items ≡ c.args.labels.now.items ++ ls)) (block_labels c.args.stmt.now c.in-Block.field-0 c.in-Block.stmts c.deref.result.now c.in-Block.is c.deref.ensures.value) c.add_labels_in.ensures
