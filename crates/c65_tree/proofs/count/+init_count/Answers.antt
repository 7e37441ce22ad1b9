use Rattle.std.proofs.Common.{arith, ap, ◌∙◌}
use Rattle.c65_tree.proofs.Lists.{total_next}
use Rattle.c65_tree.specs.Nodes.{init_nodes}
use Rattle.c65_tree.specs.View.{init_of}
use Rattle.c65_tree.proofs.Views
use Rattle.c65_tree.specs.Lists.{total}
use Rattle.c65_tree.specs.View.{init_at}
use Rattle.c65_tree.specs.declared.stmt.InitKind.{InitKind}
use Rattle.c65_tree.proofs.count.+init_count.Goals as goal

pub inits_count-loop-init-preserved : goal.inits_count-loop-init-preserved
inits_count-loop-init-preserved t c = omega (arith, total_next (λ x. init_nodes (init_of x)) c.args.items.now c.loop-init.init-index c.init-item.result c.loop-init-test.true c.init-item.is)

pub init_count-returns-in-List : goal.init_count-returns-in-List
init_count-returns-in-List t c =
    let p = c.args.init.now.pos in
    omega (arith, ap (λ (y : InitKind). init_nodes (init_at p y)) c.in-List.is ∙ Views.list_nodes p c.in-List.inits, ap (total (λ e. init_nodes (init_of e))) c.deref.ensures.value)
