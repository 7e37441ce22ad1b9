use Rattle.std.proofs.Common.{arith, ap, ◌∙◌}
use Rattle.c65_tree.proofs.Lists.{total_next}
use Rattle.c65_tree.specs.Nodes.{stmt_nodes}
use Rattle.c65_tree.specs.View.{stmt_of}
use Rattle.c65_tree.proofs.Views
use Rattle.c65_tree.specs.Lists.{total}
use Rattle.c65_tree.specs.Nodes.{decl_nodes}
use Rattle.c65_tree.specs.View.{stmt_at, decl_of}
use Rattle.c65_tree.specs.declared.stmt.StmtKind.{StmtKind}
use Rattle.c65_tree.proofs.count.+stmt_count.Goals as goal

pub stmts_count-loop-stmt-preserved : goal.stmts_count-loop-stmt-preserved
stmts_count-loop-stmt-preserved t c = omega (arith, total_next (λ x. stmt_nodes (stmt_of x)) c.args.items.now c.loop-stmt.stmt-index c.stmt-item.result c.loop-stmt-test.true c.stmt-item.is)

pub stmt_count-returns-in-Block : goal.stmt_count-returns-in-Block
stmt_count-returns-in-Block t c =
    let p = c.args.stmt.now.pos in
    let k = c.in-Block in
    omega (arith, ap (λ (y : StmtKind). stmt_nodes (stmt_at p y)) k.is ∙ Views.block_nodes p k.decls k.stmts, ap (total (λ d. decl_nodes (decl_of d))) c.deref-in-Block.ensures.value, ap (total (λ e. stmt_nodes (stmt_of e))) c.deref-in-Block-2.ensures.value)
