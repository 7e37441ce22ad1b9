use Rattle.std.proofs.Common.{◌∙◌, ap, sym, subst, rules, arith, map}
use Rattle.std.proofs.lemmas.Grind.{common_steps}
use Rattle.std.proofs.lemmas.List.{map_push}
use Rattle.c65_base.specs.Answers.{Fails}
use Rattle.c65_csem.specs.Views.{stmt_of}
use Rattle.c65_elab_scope.specs.Scopes.{scope_of}
use Rattle.c65_tree.specs.declared.stmt.StmtKind.{StmtKind}
use Rattle.c65_tree.specs.View.{decl_of, stmt_at}
use Rattle.c65_elab.proofs.Walks.{whole, fails_bind}
use Rattle.c65_init.specs.Bodies.{body_of}
use Rattle.c65_init.specs.Declarations.{locals_of}
use Rattle.c65_init.specs.Statements.{statement_of}
use Rattle.c65_init.proofs.Lists.{stmts_walk}
use Rattle.c65_init.proofs.Blocks.{stmts_next, stmts_refused, block_is, block_given, block_stops}
use Rattle.c65_init.proofs.stmt.+statement.Goals as goal

pub block-loop-stmt-preserved : goal.block-loop-stmt-preserved
block-loop-stmt-preserved t c = record {
  walk = stmts_next (map stmt_of c.in_ok-locals.locals.stmts.items) (body_of c.args.body.now) (scope_of c.block_locals.new.scope) (body_of c.loop-stmt.body) (scope_of c.loop-stmt.scope) (body_of c.statement.new.body) (scope_of c.statement.new.scope) c.args.stmts.now c.loop-stmt.stmt-index c.stmt-item.result (map stmt_of c.loop-stmt.locals.stmts.items) (map stmt_of c.push.new.self.items) (stmt_of c.in_ok-typed.typed) c.loop-stmt-test.true c.stmt-item.is c.loop-stmt.invariant.walk c.in_ok-typed.ensures (ap (map stmt_of) c.in_ok-push.ensures.items ∙ map_push stmt_of c.loop-stmt.locals.stmts.items c.in_ok-typed.typed);
  same = c.loop-stmt.invariant.same;
}

pub block-returns-in_err-typed : goal.block-returns-in_err-typed
block-returns-in_err-typed t c =
    let inner = stmts_refused (map stmt_of c.in_ok-locals.locals.stmts.items) (body_of c.args.body.now) (scope_of c.block_locals.new.scope) (body_of c.loop-stmt.body) (scope_of c.loop-stmt.scope) c.args.stmts.now c.loop-stmt.stmt-index c.stmt-item.result (map stmt_of c.loop-stmt.locals.stmts.items) c.in_err-typed.field-0.0 c.loop-stmt-test.true c.stmt-item.is c.loop-stmt.invariant.walk c.in_err-typed.ensures in
    let fault = block_stops c.in_err-typed.field-0.0 (map decl_of c.args.decls.now) c.args.stmts.now (body_of c.args.body.now) (scope_of c.args.scope.now) (scope_of c.block_locals.new.scope) (locals_of c.in_ok-locals.locals) c.in_ok-locals.ensures inner in
    first_of (search (rules, fault), grind (arith, common_steps, fault))

pub block-returns : goal.block-returns
block-returns t c =
    block_given (map decl_of c.args.decls.now) c.args.stmts.now (body_of c.args.body.now) (body_of c.loop-stmt.body) (scope_of c.args.scope.now) (scope_of c.block_locals.new.scope) (scope_of c.loop-stmt.scope) (locals_of c.in_ok-locals.locals) c.loop-stmt.locals.stmts.items c.loop-stmt.locals.objects.items (stmt_of c.block.result) c.in_ok-locals.ensures
    (whole (stmts_walk (map stmt_of c.in_ok-locals.locals.stmts.items) (body_of c.args.body.now) (scope_of c.block_locals.new.scope)) c.args.stmts.now c.loop-stmt.stmt-index ((map stmt_of c.loop-stmt.locals.stmts.items, body_of c.loop-stmt.body), scope_of c.loop-stmt.scope) c.loop-stmt-test.false c.loop-stmt.invariant.walk)
    c.loop-stmt.invariant.same c.block.ensures

pub statement-returns-in_err-made-in-Block : goal.statement-returns-in_err-made-in-Block
statement-returns-in_err-made-in-Block t c =
    let all = ap (λ (y : StmtKind). statement_of (stmt_at c.args.stmt.now.pos y) (body_of c.args.body.now) (scope_of c.args.scope.now)) c.in-Block.is ∙ block_is c.args.stmt.now.pos c.in-Block.decls c.in-Block.stmts (body_of c.args.body.now) (scope_of c.args.scope.now) in
    let fault = subst (Fails c.in_err-made-in-Block.field-0.0) (sym all) (first_of (search rules, search (rules, fails_bind), grind (arith, common_steps), grind (arith, common_steps, fails_bind))) in
    first_of (search (rules, fault), grind (arith, common_steps, fault))

pub statement-returns-in_ok-made-in-Block : goal.statement-returns-in_ok-made-in-Block
statement-returns-in_ok-made-in-Block t c =
    let all = ap (λ (y : StmtKind). statement_of (stmt_at c.args.stmt.now.pos y) (body_of c.args.body.now) (scope_of c.args.scope.now)) c.in-Block.is ∙ block_is c.args.stmt.now.pos c.in-Block.decls c.in-Block.stmts (body_of c.args.body.now) (scope_of c.args.scope.now) in
    rw all (first_of (search rules, grind (arith, common_steps)))
