use Rattle.std.proofs.Common.{◌≡◌, ◌++◌, subst}
use Rattle.std.specs.Prelude.{OnOk}
use Rattle.c65_csem.specs.Views.{unit_of}
use Rattle.c65_depth.proofs.Trees.{block_calls}
use Rattle.c65_depth.proofs.calls.+statements.Goals as goal

pub add_calls-returns-in-Block : goal.add_calls-returns-in-Block
add_calls-returns-in-Block t c =
    subst (λ cs. OnOk c.add_calls_of_all.result (c.add_calls_of_all.new.calls.items ≡ c.args.calls.now.items ++ cs))
    (block_calls (unit_of c.args.parts.now) c.args.stmt.now c.in-Block.field-0 c.in-Block.stmts c.deref-inner.result.now c.in-Block.is c.deref-inner.ensures.value)
    c.add_calls_of_all.ensures
