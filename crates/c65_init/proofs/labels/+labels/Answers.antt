use Rattle.std.proofs.Common.{◌≡◌, ◌∙◌, ◌++◌, List, OnOk, ap, sym, subst}
use Rattle.c65_base.specs.declared.names.Name.{Name}
use Rattle.c65_tree.specs.Trees.{no_stmts}
use Rattle.c65_tree.specs.View.{stmt_of, stmt_at, stmts_from}
use Rattle.c65_tree.specs.declared.stmt.Stmt.{Stmt}
use Rattle.c65_tree.specs.declared.stmt.StmtKind.{StmtKind}
use Rattle.c65_init.specs.Labels.{labels_of, labels_in}
use Rattle.c65_init.proofs.LabelLaws.{labels_next, labels_all, block_labels}
use Rattle.c65_init.proofs.labels.+labels.Goals as goal

pub add_labels_in-loop-stmt-preserved : goal.add_labels_in-loop-stmt-preserved
add_labels_in-loop-stmt-preserved t c = labels_next c.loop-stmt.labels.items c.args.labels.now.items c.add_labels.new.labels.items c.args.stmts.now c.loop-stmt.stmt-index c.stmt-item.result c.loop-stmt-test.true c.stmt-item.is c.loop-stmt.invariant c.in_ok-add_labels.ensures

pub add_labels_in-returns : goal.add_labels_in-returns
add_labels_in-returns t c = labels_all c.loop-stmt.labels.items c.args.labels.now.items c.args.stmts.now c.loop-stmt.stmt-index c.loop-stmt-test.false c.loop-stmt.invariant

pub add_labels-returns-in-Block : goal.add_labels-returns-in-Block
add_labels-returns-in-Block t c =
    let all : labels_of (stmt_of c.args.stmt.now) ≡ labels_in (stmts_from no_stmts c.deref-in-Block.result.now) = ap (λ (y : StmtKind). labels_of (stmt_at c.args.stmt.now.pos y)) c.in-Block.is ∙ block_labels c.args.stmt.now.pos c.in-Block.field-0 c.in-Block.stmts ∙ ap (λ (ss : List Stmt). labels_in (stmts_from no_stmts ss)) (sym c.deref-in-Block.ensures.value) in
    subst (λ (ls : List Name). OnOk c.add_labels_in.result (c.add_labels_in.new.labels.items ≡ c.args.labels.now.items ++ ls)) (sym all) c.add_labels_in.ensures
